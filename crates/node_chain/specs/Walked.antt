-- A list with a place in it.
use Rattle.std.specs.Prelude.{◌≡◌, List, [], ◌∷◌, ◌++◌, Option, Some, None}
use Rattle.std.specs.Borrow.{Bor}

-- the items before the place, and those from it on
pub record Walked (X : Type 0) : Type 0 where
  pub passed : List X
  pub left : List X

module _ {X : Type 0} where
  -- the next item, if one is left
  abbrev pub IsNext : List X → Option (Bor X) → Type 0
  IsNext left None = left ≡ []
  IsNext left (Some x) = (rest : List X) × (left ≡ x.now ∷ rest)

  -- the next item is passed
  abbrev pub passed_by : Walked X → List X → Walked X
  passed_by w [] = w
  passed_by w (x ∷ rest) = record { passed = w.passed ++ x ∷ []; left = rest }

  -- the next item is taken out
  abbrev pub taken_out : Walked X → List X → Walked X
  taken_out w [] = w
  taken_out w (x ∷ rest) = record { passed = w.passed; left = rest }

  -- the place is before all items
  abbrev pub at_start : List X → Walked X
  at_start xs = record { passed = []; left = xs }

  -- an item becomes the next
  abbrev pub linked : Walked X → X → Walked X
  linked w x = record { passed = w.passed; left = x ∷ w.left }
