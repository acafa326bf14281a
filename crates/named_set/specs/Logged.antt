-- The cells of a bucket that are linked, and the log of all that ever were.
-- The log only grows: a link adds its cell, and nothing takes one out. Beside it stands which of its cells have no share left, and never
-- will. So a text's next cell is linked only after the last share of the one before has gone.
use Rattle.std.specs.Prelude.{◌≡◌, ◌≢◌, ◌⊎◌, ℕ, ◌+◌, ◌<◌, List, [], ◌∷◌, length, slice_index_or, Option, Some, slice_get}
use Rattle.std.specs.List.{AllByRecursion}
use Rattle.text_forms.specs.Tables.{Tables, bucket_of, entry_hash}
use Rattle.text_forms.specs.Word.{IsTicket, ticket_of}
use Rattle.counted_cell.specs.Counting.{CellName}
use Rattle.counted_cell.specs.Cell.{Cell}
use Rattle.counted_cell.specs.CellLog.{Entry}
use Rattle.counted_cell.specs.CellEntry.{entry_of}
use Rattle.counted_cell.specs.declared.cell_log.LogSeen.{LogSeen}
use Rattle.named_set.specs.Places.{IsNew}

-- what a lock keeps: the number of the bucket, where its cells are linked, the log, and which of its cells have no share left
pub record Kept : Type 0 where
  pub number : ℕ
  pub places : List (Option Cell)
  pub entries : List Entry
  pub gone : List CellName

-- the name is one of those whose cells have no share left
abbrev pub IsGone : List CellName → CellName → Type 0
IsGone gone name = AllByRecursion (λ u. u ≢ name) gone → ⊥

-- The cell stands in the log of the bucket of this number, one below its serial, and its ticket is that of the serial and the bucket.
-- What stands before it with its text is gone: when it was linked, no share of another cell of its text was left.
pub record IsLogged (number : ℕ) (es : List Entry) (gone : List CellName) (c : Cell) : Type 0 where
  pub place : ℕ
  pub given : IsTicket (place + 1) number
  pub ticket : c.label.ticket ≡ ticket_of (place + 1) number
  pub stands : slice_get es place ≡ Some (entry_of c)
  pub alone : (i : ℕ) (e : Entry) → i < place → slice_get es i ≡ Some e → e.text ≡ c.text → IsGone gone e.name

-- the entry is that of a linked cell
abbrev pub IsLinked : Entry → List Cell → Type 0
IsLinked e [] = ⊥
IsLinked e (c ∷ cs) = (entry_of c ≡ e) ⊎ IsLinked e cs

-- linked cells stand in the log, and each entry of the log is gone or linked
pub record IsKept (number : ℕ) (linked : List Cell) (es : List Entry) (gone : List CellName) : Type 0 where
  pub logged : AllByRecursion (IsLogged number es gone) linked
  pub settled : (i : ℕ) (e : Entry) → slice_get es i ≡ Some e → IsGone gone e.name ⊎ IsLinked e linked

-- the cell has the hash of its text, whose bucket this is, one of so many, and is one of those to which a share may be added
pub record IsOf (t : Tables) (may : CellName → Type 0) (buckets : ℕ) (number : ℕ) (c : Cell) : Type 0 where
  pub hash : c.label.hash ≡ entry_hash t c.text
  pub bucket : bucket_of t buckets c.text ≡ number
  pub granted : may c.name

-- what a held word has: the hash of its text, and something that was seen of the log of its text's bucket, in which its cell stands
pub record IsSeen (t : Tables) (logs : List ℕ) (s : LogSeen) (c : Cell) : Type 0 where
  pub hash : c.label.hash ≡ entry_hash t c.text
  pub named : s.name ≡ slice_index_or logs (bucket_of t (length logs) c.text) 0
  pub logged : IsLogged (bucket_of t (length logs) c.text) s.entries s.gone c

-- no text is linked that wasn't
abbrev pub LinksNoMore : List Cell → List Cell → Type 0
LinksNoMore before after = (text : List ℕ) → IsNew text before → IsNew text after
