-- A row of places behind a pointer: what its owner has, and what a `&` to it shows.
use Rattle.std.specs.Prelude.{◌≡◌, ℕ, ◌+◌, ◌*◌, ◌^◌, ◌≤◌, List, [], ◌∷◌, map, length, take, drop, Option, Some, None}
use Rattle.std.specs.Mem.{type_size}
use base.Fraction.{full_share}
use base.Fml.{Lft, Fml, ftrue, ffalse, fsep, flt, froom}
use mir.Raw.{raw}
use denote.RattleType.{RattleType}
use denote.Memory.{lone, part_at, shared_of}
use denote.Sharing.{nothing, said, beside}
use denote.RawPtr.{Ptr, block_ptr, null_ptr}

-- the len places from the index from on hold values
abbrev pub IsRun : {X : Type 0} → List (Option X) → ℕ → ℕ → Type 0
IsRun {X} cs from len = (from + len ≤ length cs) × ((xs : List X) × (take len (drop from cs) ≡ map Some xs))

module _ (R : RattleType) where
  -- one place, o bytes into the block b
  abbrev pub slot : ℕ → ℕ → Option R.Denot → Fml
  slot b o (Some x) = part_at R full_share x b o
  slot b o None = froom (raw (lone R.mir)) b o

  -- places side by side
  abbrev pub slots : ℕ → ℕ → List (Option R.Denot) → Fml
  slots b o [] = ftrue
  slots b o (c ∷ cs) = fsep (slot b o c) (slots b (o + type_size R) cs)

  abbrev pub slot_lent : ℕ → ℕ → Option R.Denot → Lft → Fml
  slot_lent b o (Some x) = shared_of R x b o
  slot_lent b o None = nothing

  abbrev pub slots_lent : ℕ → ℕ → List (Option R.Denot) → Lft → Fml
  slots_lent b o [] = nothing
  slots_lent b o (c ∷ cs) = beside (slot_lent b o c) (slots_lent b (o + type_size R) cs)

  -- the places take fewer than 2 ^ 63 bytes
  abbrev pub fit : List (Option R.Denot) → Fml
  fit cs = flt (length cs * type_size R) (2 ^ 63)

  -- what the owner of the row at p has: its places, side by side
  abbrev pub places_own : Ptr → List (Option R.Denot) → Fml
  places_own (block_ptr b o) cs = fsep (fit cs) (slots b o cs)
  places_own null_ptr cs = ffalse

  -- what a `&` to it shows: the values of the places that have one
  abbrev pub places_lent : Ptr → List (Option R.Denot) → Lft → Fml
  places_lent (block_ptr b o) cs = beside (said (fit cs)) (slots_lent b o cs)
  places_lent null_ptr cs = said ffalse
