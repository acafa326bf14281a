-- Tables whose texts are behind references.
use Rattle.std.specs.Prelude.{ℕ, List, map}
use denote.Ref.{Bor}
use Rattle.text_forms.specs.Tables.{Tables}

-- the tables of a key, displacements, references to texts, and hash numbers
abbrev pub parts : ℕ → List (ℕ × ℕ) → List (Bor (List ℕ)) → List ℕ → Tables
parts key disps atoms hashes = record { key = key; disps = disps; atoms = map (λ text. text.now) atoms; hashes = hashes }
