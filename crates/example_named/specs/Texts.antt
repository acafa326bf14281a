-- What is said about many texts.
use Rattle.std.specs.Prelude.{◌≡◌, ℕ, List, [], ◌∷◌}
use Rattle.std.specs.List.{All}

-- the texts are all the same: that of the first
abbrev pub AreOneText : List (List ℕ) → Type 0
AreOneText [] = Unit {0}
AreOneText (first ∷ rest) = All (λ text. text ≡ first) rest
