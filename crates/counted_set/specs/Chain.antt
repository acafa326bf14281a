-- What clauses see of a bucket.
use Rattle.std.specs.Prelude.{◌≡◌, ◌≢◌, ℕ, ◌/◌, ◌%◌, ◌^◌, ◌≤◌, List, [], ◌∷◌, length}
use Rattle.std.specs.List.{AllByRecursion}
use Rattle.text_forms.specs.Layout.{most_bits, ticket_unit}
use Rattle.text_forms.specs.Tables.{Tables, entry_hash}
use Rattle.text_forms.specs.Word.{ticket_of, IsTicket}
use Rattle.counted_cell.specs.Counting.{CellName}

-- an entry: its ticket, its text, the hash of the text, the bits of the number of buckets that its bucket is one of, the limit of its holders (how
-- many shares of it there may be at a time), and the name of its cell, which no other entry has
pub record Linked : Type 0 where
  pub ticket : ℕ
  pub text : List ℕ
  pub hash : ℕ
  pub bits : ℕ
  pub limit : ℕ
  pub name : CellName

-- a bucket: the bits of the number of buckets that it is one of, its entries, newest first, and the last serial that it gave, at first 0
pub record Chain : Type 0 where
  pub bits : ℕ
  pub entries : List Linked
  pub last : ℕ

-- the serial of a ticket
abbrev pub serial_of : ℕ → ℕ
serial_of ticket = ticket / ticket_unit

-- the hash is that of the text under the tables, and the ticket is that of its serial in the bucket of the hash, which is the hash modulo 2 ^ bits
pub record IsRight (t : Tables) (e : Linked) : Type 0 where
  pub few : e.bits ≤ most_bits
  pub hash : e.hash ≡ entry_hash t e.text
  pub ticket : e.ticket ≡ ticket_of (serial_of e.ticket) (e.hash % 2 ^ e.bits)
  pub given : IsTicket (serial_of e.ticket) (e.hash % 2 ^ e.bits)

-- it is right, with these bits, and its cell is one of those to which a share may be added
abbrev pub IsRightOf : Tables → (CellName → Type 0) → ℕ → Linked → Type 0
IsRightOf t may bits e = (e.bits ≡ bits) × IsRight t e × may e.name

-- no entry has this serial
abbrev pub IsNew : ℕ → List Linked → Type 0
IsNew serial es = AllByRecursion (λ e. serial_of e.ticket ≢ serial) es

-- no two entries have the same serial
abbrev pub SerialsDiffer : List Linked → Type 0
SerialsDiffer [] = Unit {0}
SerialsDiffer (e ∷ es) = IsNew (serial_of e.ticket) es × SerialsDiffer es

-- what a bucket keeps under a static type with these tables, if shares may be added to these cells
pub record IsKept (t : Tables) (may : CellName → Type 0) (c : Chain) : Type 0 where
  pub few : c.bits ≤ most_bits
  pub right : AllByRecursion (IsRightOf t may c.bits) c.entries
  pub differ : SerialsDiffer c.entries
  pub bound : AllByRecursion (λ e. serial_of e.ticket ≤ c.last) c.entries
  pub number : length c.entries ≤ c.last
