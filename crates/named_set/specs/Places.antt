-- Where linked cells stand, and how one is found by its hash.
use Rattle.std.specs.Prelude.{◌≡◌, ◌≢◌, ℕ, ◌*◌, ◌^◌, ◌/◌, ◌%◌, List, [], ◌∷◌, Option, Some, None, slice_get}
use Rattle.counted_cell.specs.Cell.{Cell}

-- the cells that stand at places, of which each has one or none
abbrev pub cells_in : List (Option Cell) → List Cell
cells_in [] = []
cells_in (None ∷ places) = cells_in places
cells_in (Some c ∷ places) = c ∷ cells_in places

-- the cell stands there
abbrev pub HasCell : List (Option Cell) → ℕ → Cell → Type 0
HasCell places at c = slice_get places at ≡ Some (Some c)

-- each cell of the text has this hash
abbrev pub HaveHash : List ℕ → ℕ → List Cell → Type 0
HaveHash text hash cells = (i : ℕ) (c : Cell) → slice_get cells i ≡ Some c → c.text ≡ text → c.label.hash ≡ hash

-- no cell of the text is linked
abbrev pub IsNew : List ℕ → List Cell → Type 0
IsNew text linked = (i : ℕ) (c : Cell) → slice_get linked i ≡ Some c → c.text ≢ text

-- where a cell of the text stands
abbrev pub FoundAt : List (Option Cell) → List ℕ → Option ℕ → Type 0
FoundAt places text (Some at) = (c : Cell) × HasCell places at c × (c.text ≡ text)
FoundAt places text None = IsNew text (cells_in places)

-- what an index knows of a hash: the upper half of its product with a number, in 64 bits
abbrev pub short_hash : (multiplier hash : ℕ) → ℕ
short_hash multiplier hash = hash * multiplier % 2 ^ 64 / 2 ^ 32
