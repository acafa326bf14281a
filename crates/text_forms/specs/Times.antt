-- How often a number occurs in a list.
use Rattle.std.specs.Prelude.{ℕ, ◌==◌, List, count_by}

-- how often a number is in a list: a word among those that a caller listed, a ticket in the bag of a world
abbrev pub times : ℕ → List ℕ → ℕ
times x xs = count_by (λ y. y == x) xs
