-- What contracts see of a cell, through its owner and through each of its shares.
use Rattle.std.specs.Prelude.{◌≡◌, ℕ, ◌+◌, ◌-◌, ◌%◌, ◌^◌, ◌<◌, List}
use denote.RawPtr.{◌+ₚ◌}
use Rattle.counted_cell.specs.Counting.{CellName}
use Rattle.counted_cell.specs.Text.{limit_in, limit_size, somes, text_in}
use Rattle.counted_cell.specs.declared.label.Label.{Label}
use Rattle.counted_cell.specs.declared.content.Content.{Content}
use Rattle.counted_cell.specs.declared.cell_ref.CellRef.{CellRef}

-- its name, which no other cell has, and what never changes in it; the note is a number that its maker chose, for clauses only
pub record Cell : Type 0 where
  pub name : CellName
  pub label : Label
  pub note : ℕ
  pub text : List ℕ

-- the cell to which a reference leads
abbrev pub cell_of : CellRef Content → Cell
cell_of r = record { name = r.name; label = record { hash = r.value.hash; ticket = r.value.ticket; limit = r.name.limit }; note = r.value.note.number; text = text_in r.value.text.sized (somes r.value.text.places.slots) }

-- a share: its cell, and its number, which no other share of that cell ever has
pub record OneShare : Type 0 where
  pub cell : Cell
  pub number : ℕ

-- the share that a reference is
abbrev pub share_of : CellRef Content → OneShare
share_of r = record { cell = cell_of r; number = r.number }

-- the bytes before the text
abbrev pub header_size : ℕ
header_size = 32

-- the bytes of the text come right after what is before them, so nothing keeps where they are (for private contracts)
abbrev pub IsBehind : CellRef Content → Type 0
IsBehind r = r.value.text.places.at ≡ r.ptr +ₚ header_size

-- the limit that the cell's count is kept to is the one in its block (for private contracts)
abbrev pub IsLimited : CellRef Content → Type 0
IsLimited r = (limit_in r.value.text.sized (somes r.value.text.places.slots) ≡ r.name.limit) × (r.name.limit < 2 ^ 63)

abbrev pub header_align : ℕ
header_align = 8

-- the most bytes that a text may have
abbrev pub most_bytes : ℕ
most_bytes = 2 ^ 62 - 1

-- the most bytes behind a header: those of a text and of a limit (for private contracts)
abbrev pub most_behind : ℕ
most_behind = most_bytes + 8

-- the bytes of a block that has n behind its header
abbrev pub padded_size : ℕ → ℕ
padded_size n = header_size + n + (header_align - (header_size + n) % header_align) % header_align

-- the bytes of a block with this limit, whose text has n bytes
abbrev pub block_size : ℕ → ℕ → ℕ
block_size limit n = padded_size (n + limit_size limit)
