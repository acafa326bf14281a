-- What the owner of a value at a pointer has.
use base.Fraction.{full_share}
use base.Fml.{Fml, ftrue, fsep, fex}
use denote.RattleType.{RattleType}
use denote.RawPtr.{Ptr, InBlock, lies_at}

-- p is in a block
abbrev pub placed : Ptr → Fml
placed p = fex (InBlock p) (λ _. ftrue)

-- the value lies at p, whole
abbrev pub placed_owns : (R : RattleType) → Ptr → R.Denot → Fml
placed_owns R p x = fsep (placed p) (lies_at R full_share p x)
