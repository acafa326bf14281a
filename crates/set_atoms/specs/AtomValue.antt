-- What clauses see of an atom, and the word that an atom of a text may have.
use Rattle.std.specs.Prelude.{◌≡◌, ℕ, ◌%◌, ◌^◌, ◌≤◌, List, Option, Some, None}
use Rattle.text_forms.specs.declared.static_sets.TextForm.{TextForm}
use Rattle.text_forms.specs.declared.static_sets.TextForm.TheVariants.{Inline, Static, Dynamic}
use Rattle.text_forms.specs.Layout.{most_bits}
use Rattle.text_forms.specs.Tables.{Tables, entry_hash, form_of_text}
use Rattle.text_forms.specs.Word.{inline_word, static_word, ticket_of, IsTicket}

-- an atom, by its text, its word, and for a dynamic text of a set without a name the bits of the bucket that the word came from
pub record AtomValue : Type 0 where
  pub text : List ℕ
  pub word : ℕ
  pub bits : Option ℕ

-- the word is the ticket of some serial in the bucket of the hash, the hash modulo 2 ^ bits
pub record IsTicketOfHash (hash bits word : ℕ) : Type 0 where
  pub few : bits ≤ most_bits
  pub serial : ℕ
  pub given : IsTicket serial (hash % 2 ^ bits)
  pub is : word ≡ ticket_of serial (hash % 2 ^ bits)

-- in a set without a name: the word is a ticket of the text's hash, by the bits, which such a text has
abbrev pub IsTicketOfBits : Tables → List ℕ → Option ℕ → ℕ → Type 0
IsTicketOfBits t text None word = ⊥
IsTicketOfBits t text (Some bits) word = IsTicketOfHash (entry_hash t text) bits word

-- the word of a form: its own, without bits, or for a dynamic text one that the set may give it
abbrev pub IsWordOfForm : (List ℕ → Option ℕ → ℕ → Type 0) → List ℕ → TextForm → Option ℕ → ℕ → Type 0
IsWordOfForm is_ticket text (Inline own) bits word = (bits ≡ None) × (word ≡ inline_word own)
IsWordOfForm is_ticket text (Static index) bits word = (bits ≡ None) × (word ≡ static_word index)
IsWordOfForm is_ticket text (Dynamic hash) bits word = is_ticket text bits word

-- the word is one that an atom of the text may have, under the tables, by what a set may give as the word of a dynamic text
abbrev pub IsWordOf : Tables → (List ℕ → Option ℕ → ℕ → Type 0) → List ℕ → Option ℕ → ℕ → Type 0
IsWordOf t is_ticket text bits word = IsWordOfForm is_ticket text (form_of_text t text) bits word
