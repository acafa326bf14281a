-- What a loan has: nothing, or a `&` to a table for a lifetime of which it has a share.
use Prim.Native.Nat.{ℕ}
use mathlib.Core.List.{[], ◌∷◌}
use base.Fml.{Fml, Share, ftrue, fsep, fex, flft}
use denote.RawPtr.{Ptr}
use denote.Struct.Lending.{lent_at}
use Rattle.std.specs.Prelude.{Option, None, Some}
use Rattle.string_cache_c.specs.contracts.numbered_table.NumberedTable.{the_row}

-- nothing, or a share of a lifetime, and a `&` to the table for as long as that lasts
abbrev pub loan_has : ℕ → Ptr → Option the_row.Denot → Fml
loan_has life p None = ftrue
loan_has life p (Some numbered) = fex Share (λ share. fsep (flft (life ∷ []) share) (lent_at the_row p numbered (life ∷ [])))
