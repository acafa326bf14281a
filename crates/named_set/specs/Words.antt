-- What clauses see of a held word, and the theorem of running threads.
use Rattle.std.specs.Prelude.{◌≡◌, ◌↔◌, ℕ, List}
use Rattle.text_forms.specs.Tables.{Tables, bucket_of}
use Rattle.text_forms.specs.Word.{IsTicket, ticket_of}
use Rattle.counted_cell.specs.Counting.{CellName}
use Rattle.counted_cell.specs.Cell.{Cell}

-- a held word: its number, its text, and the name of its text's cell, which no other cell has
pub record HeldWord : Type 0 where
  pub word : ℕ
  pub text : List ℕ
  pub name : CellName

-- that of a cell: its word is the cell's ticket
abbrev pub held_word : Cell → HeldWord
held_word c = record { word = c.label.ticket; text = c.text; name = c.name }

-- the word is a ticket of the text's bucket, one of so many
pub record IsTicketOf (t : Tables) (buckets : ℕ) (text : List ℕ) (word : ℕ) : Type 0 where
  pub serial : ℕ
  pub given : IsTicket serial (bucket_of t buckets text)
  pub is : word ≡ ticket_of serial (bucket_of t buckets text)

-- Two words are equal exactly if their texts are. It holds of any two that are held of one set, whichever threads made them, so at any
-- time the words that are held in one set and their texts belong to each other one to one.
abbrev pub AreOneToOne : (word other_word : ℕ) → (text other_text : List ℕ) → Type 0
AreOneToOne word other_word text other_text = (word ≡ other_word) ↔ (text ≡ other_text)
