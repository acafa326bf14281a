-- What clauses see of a set: its limits, and the bits of the number of its buckets, of which there are 2 ^ bits. Its texts, and whatever else its
-- buckets keep, are behind locks, so that no clause sees them.
use Rattle.std.specs.Prelude.{ℕ}
use Rattle.text_forms.specs.Bounds.{Bounds}

-- a set: its limits, and the bits of the number of its buckets
pub record SetValue : Type 0 where
  pub limits : Bounds
  pub bits : ℕ
