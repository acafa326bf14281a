-- An index of cells by their hashes.
use Rattle.std.specs.Prelude.{◌≡◌, ℕ, ◌+◌, ◌-◌, ◌*◌, ◌^◌, ◌/◌, ◌<◌, List, length, min, Option, Some, None, slice_get, ⊤}
use Rattle.counted_cell.specs.Cell.{Cell}
use Rattle.named_set.specs.Places.{short_hash}
use Rattle.named_set.specs.declared.slots.Slot.{Slot}
use Rattle.named_set.specs.declared.slots.Slot.TheVariants.{Empty, Gone, Full}

-- the cell at a place
abbrev pub cell_at : Slot → Option Cell
cell_at Empty = None
cell_at Gone = None
cell_at (Full short c) = Some c

-- a look goes on below it
abbrev pub IsTaken : Slot → Type 0
IsTaken Empty = ⊥
IsTaken Gone = ⊤
IsTaken (Full short c) = ⊤

-- it has no cell
abbrev pub IsFree : Slot → Type 0
IsFree Empty = ⊤
IsFree Gone = ⊤
IsFree (Full short c) = ⊥

-- of so many places, as many lie at the one where a hash belongs, or below
abbrev pub reach : (places short : ℕ) → ℕ
reach places short = min places (min ((places - 8) * short) (2 ^ 64 - 1) / 2 ^ 32 + 9)

-- from the place where a hash belongs down to another, none is empty
abbrev pub ArePassed : List Slot → (at short : ℕ) → Type 0
ArePassed slots at short = (j : ℕ) (s : Slot) → at < j → j < reach (length slots) short → slice_get slots j ≡ Some s → IsTaken s

-- a cell stands where a look for its hash comes by
pub record IsPlaced (multiplier : ℕ) (slots : List Slot) (at short : ℕ) (c : Cell) : Type 0 where
  pub hash : short ≡ short_hash multiplier c.label.hash
  pub below : at < reach (length slots) short
  pub passed : ArePassed slots at short

-- each cell stands where a look for its hash comes by
abbrev pub IsIndex : (multiplier : ℕ) → List Slot → Type 0
IsIndex multiplier slots = (at short : ℕ) (c : Cell) → slice_get slots at ≡ Some (Full short c) → IsPlaced multiplier slots at short c

-- each place with a cell has what the index knows of its hash
abbrev pub HaveShorts : (multiplier : ℕ) → List Slot → Type 0
HaveShorts multiplier slots = (at short : ℕ) (c : Cell) → slice_get slots at ≡ Some (Full short c) → short ≡ short_hash multiplier c.label.hash

-- a place without a cell, to which a look for the hash comes
pub record IsFreePlace (slots : List Slot) (at short : ℕ) : Type 0 where
  pub slot : Slot
  pub stands : slice_get slots at ≡ Some slot
  pub free : IsFree slot
  pub below : at < reach (length slots) short
  pub passed : ArePassed slots at short

-- no look that comes by at a place goes on below it: the next one is empty, or there is none
abbrev pub EndsAbove : List Slot → (at : ℕ) → Type 0
EndsAbove slots at = (j : ℕ) (s : Slot) → j + 1 ≡ at → slice_get slots j ≡ Some s → s ≡ Empty
