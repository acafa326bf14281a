-- What clauses see of a `Limits`: the most holders of an entry, and the greatest serial of a bucket.
use Rattle.std.specs.Prelude.{ℕ, ◌<◌, ◌≤◌}
use Rattle.text_forms.specs.Layout.{holder_bound, serial_bound}

-- the most holders of an entry, and the greatest serial of a bucket
pub record Bounds : Type 0 where
  pub holders : ℕ
  pub serials : ℕ

-- each is at least 1, and below its bound
abbrev pub AreBounds : ℕ → ℕ → Type 0
AreBounds holders serials = (1 ≤ holders) × (holders < holder_bound) × (1 ≤ serials) × (serials < serial_bound)
