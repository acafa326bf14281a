-- Items in packs, with a place in them: a place among the packs, and one within the first pack that is left.
use Rattle.std.specs.Prelude.{◌≡◌, ℕ, ◌+◌, ◌<◌, List, [], ◌∷◌, ◌++◌, length, take, drop, Option, Some, None}
use Rattle.std.specs.Borrow.{Bor}
use Rattle.std.specs.List.{AllByRecursion}
use Rattle.node_chain.specs.Walked.{Walked}
use Rattle.node_chain.specs.declared.pack.Others.{Others}
use Rattle.node_chain.specs.declared.pack.Others.TheVariants as others

-- the number of items that a pack has room for
abbrev pub most_items : ℕ
most_items = 4

module _ {X : Type 0} where
  -- the items after the first
  abbrev pub others_of : Others X → List X
  others_of others.None = []
  others_of (others.One x) = x ∷ []
  others_of (others.Two x y) = x ∷ y ∷ []
  others_of (others.Three x y z) = x ∷ y ∷ z ∷ []

  -- the item at a place, if there is one
  abbrev pub IsAt : List X → ℕ → Option (Bor X) → Type 0
  IsAt xs at None = drop at xs ≡ []
  IsAt xs at (Some x) = drop at xs ≡ x.now ∷ drop (at + 1) xs

  -- the packs end to end
  abbrev pub joined : List (List X) → List X
  joined [] = []
  joined (p ∷ ps) = p ++ joined ps

  -- what comes before the place in the first pack
  abbrev pub before : ℕ → List (List X) → List X
  before at [] = []
  before at (p ∷ ps) = take at p

  -- what comes from the place on, in all packs
  abbrev pub from_on : ℕ → List (List X) → List X
  from_on at [] = []
  from_on at (p ∷ ps) = drop at p ++ joined ps

  -- the items of packs, seen from the place `at` in the first one that is left
  abbrev pub items_at : ℕ → Walked (List X) → Walked X
  items_at at w = record { passed = joined w.passed ++ before at w.left; left = from_on at w.left }

  -- the place is before an item of the first pack, if there is a pack
  abbrev pub IsWithin : ℕ → List (List X) → Type 0
  IsWithin at [] = at ≡ 0
  IsWithin at (p ∷ ps) = at < length p

  -- no pack is empty
  abbrev pub HaveItems : List (List X) → Type 0
  HaveItems ps = AllByRecursion (λ p. 0 < length p) ps

  -- the place is before an item or after all of them, and no pack is empty
  abbrev pub ArePacked : ℕ → Walked (List X) → Type 0
  ArePacked at w = IsWithin at w.left × HaveItems w.passed × HaveItems w.left
