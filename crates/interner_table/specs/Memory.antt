-- The bytes that a table takes.
use Rattle.std.specs.Prelude.{◌≡◌, ℕ, ◌+◌, ◌*◌, ◌≤◌, length, min}
use Rattle.std.specs.List.{sum_by}
use Rattle.interner_table.specs.Kept.{Kept}

-- A table keeps two maps, of texts and of tickets, which grow by groups of nine places.
abbrev pub group_places : ℕ
group_places = 9

-- the bytes of a group of the map of texts: its part of the index, and nine places with their texts' addresses, tickets and holders
abbrev pub text_group_size : ℕ
text_group_size = 64 + 9 * (8 + 24 + 16)

-- the bytes of a group of the map of tickets
abbrev pub ticket_group_size : ℕ
ticket_group_size = 64 + 9 * (8 + 8)

-- Each bucket's last serial, the texts, and of each map some groups, which have a place for each text. Beside a ticket is a value
-- without bytes, and all of those are one block, for which a byte is asked.
pub record IsMemory (kept : Kept) (bytes : ℕ) : Type 0 where
  pub texts : ℕ
  pub tickets : ℕ
  pub places_of_texts : length kept.pairs ≤ texts * group_places
  pub places_of_tickets : length kept.pairs ≤ tickets * group_places
  pub sum : bytes ≡ 8 * length kept.lasts + sum_by (λ pair. length pair.0) kept.pairs + texts * text_group_size + tickets * ticket_group_size + min tickets 1
