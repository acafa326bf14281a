-- One block: a header, and bytes after it.
use Rattle.std.specs.Prelude.{◌≡◌, ℕ, ◌+◌, ◌^◌, ◌<◌}
use Rattle.std.specs.Mem.{type_size}
use mir.Syntax.{Ty, w8, ty_int, ty_array, ty_struct, tcons, tnil}
use mathlib.Core.List.{[]}
use mir.Raw.{raw}
use base.Fml.{Fml, ftrue, ffalse, fsep, fwand, froom}
use prog.Memory.{size, align, capped}
use denote.RattleType.{RattleType}
use denote.Memory.{lone}
use denote.RawPtr.{Ptr, block_ptr, null_ptr, room_for}

module _ (R : RattleType) where
  abbrev pub header : Ty
  header = raw (lone R.mir)

  -- the type that the block is allocated for
  abbrev pub whole_type : ℕ → Ty
  whole_type n = ty_struct [] (tcons header (tcons (ty_array (ty_int w8) n) tnil))

  -- it has s bytes, and is aligned to a
  abbrev pub IsWhole : ℕ → ℕ → ℕ → Type 0
  IsWhole n s a = (capped (size (whole_type n)) ≡ s) × (capped (align (whole_type n)) ≡ a) × (type_size R + n < 2 ^ 63)

  -- room for the header, and for the bytes
  abbrev pub rooms : ℕ → ℕ → ℕ → Fml
  rooms n b o = fsep (froom header b o) (fsep (froom (ty_array (ty_int w8) n) b (o + type_size R)) ftrue)

  -- together they are the block again
  abbrev pub way_back : ℕ → ℕ → ℕ → Fml
  way_back n b o = fwand (rooms n b o) (froom (whole_type n) b o)

  -- room for a header, at p
  abbrev pub room_owns : Ptr → Fml
  room_owns p = room_for header p

  -- the right to free the block
  abbrev pub free_right_owns : (Ty → Ptr → Fml) → Ptr → ℕ → Fml
  free_right_owns token (block_ptr b o) n = fsep (way_back n b o) (token (whole_type n) (block_ptr b o))
  free_right_owns token null_ptr n = ffalse
