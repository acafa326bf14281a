-- What a `BlockRight` owns: the right to get the value back once the first lifetime has ended, and the way from the word and the value to the block.
use Rattle.std.specs.Prelude.{ℕ, ◌+◌, [], ◌∷◌}
use Rattle.std.specs.Mem.{type_size}
use base.Fraction.{full_share}
use base.Fml.{Fml, ffalse, fsep, fwand, flent}
use denote.RattleType.{RattleType}
use denote.Memory.{part_at}
use denote.RawPtr.{Ptr, block_ptr, null_ptr}
use Rattle.std.specs.Sync.RawAtomic.{word}
use Rattle.counted_cell.specs.Counting.{CellName, offset}
use Rattle.counted_cell.specs.contracts.header.Header.{the_row}

module _ (R : RattleType) (b o : ℕ) (x : R.Denot) where
  abbrev pub value_at : Fml
  value_at = part_at R full_share x b (o + offset R)

  -- the word at 0 and the value make the block
  abbrev pub way_back : Fml
  way_back = fwand (fsep (word b (o + 0) 0) value_at) (part_at (the_row R) full_share (record { count = 0; value = x }) b o)

-- the bytes of a header
abbrev pub header_bytes : RattleType → ℕ
header_bytes R = type_size (the_row R)

-- what it owns at p: the value once the first lifetime has ended, and the way back to the block
abbrev pub block_right_owns : (R : RattleType) → Ptr → R.Denot → CellName → Fml
block_right_owns R (block_ptr b o) x t = fsep (flent (t.value_life ∷ []) (value_at R b o x)) (way_back R b o x)
block_right_owns R null_ptr x t = ffalse
