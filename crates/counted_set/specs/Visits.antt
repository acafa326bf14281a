-- What a visit of a bucket's entries calls.
use Rattle.std.specs.Prelude.{◌≡◌, ℕ, List}
use Rattle.std.specs.Fn.{Called, Mut}
use Rattle.std.specs.List.{FoldsTo}
use denote.Ref.{Bor}
use Rattle.counted_set.specs.Chain.{Linked}

module _ {F : Type 0} (g : Mut F (Bor (List ℕ) × (ℕ × Unit {0})) (Unit {0})) where
  -- a call of f at this text, and at some number, may leave f'
  pub record CalledAtText (f : F) (text : List ℕ) (f' : F) : Type 0 where
    pub shown : Bor (List ℕ)
    pub number : ℕ
    pub shows : shown.now ≡ text
    pub called : Called g f (shown, (number, tt)) tt f'

  -- one call for each entry, in order, at its text
  abbrev pub VisitsEach : F → List Linked → F → Type 0
  VisitsEach f es f' = FoldsTo (λ p e q. CalledAtText p e.text q) f es f'
