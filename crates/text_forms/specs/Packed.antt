-- Static tables whose texts are all in one text.
use Rattle.std.specs.Prelude.{ℕ, List, [], ◌∷◌, map, slice_range, take, drop, length, Bool, true, ◌&&◌, eqb, leb, ◌-◌}
use borrow.Author.Text.{valid}
use Rattle.text_forms.specs.Tables.{Tables}

-- the tables of a key, displacements, one text, where each name begins and ends in it, and the hash numbers
abbrev pub packed : ℕ → List (ℕ × ℕ) → List ℕ → List (ℕ × ℕ) → List ℕ → Tables
packed key disps text spans hashes = record { key = key; disps = disps; atoms = map (λ span. slice_range text span.0 span.1) spans; hashes = hashes }

-- the spans follow one another from `at` on, and each cuts a whole text off the front of the rest, which begins at `at`
abbrev pub are_cut : ℕ → List (ℕ × ℕ) → List ℕ → Bool
are_cut at [] rest = true
are_cut at (span ∷ spans) rest =
    eqb at span.0 && (leb span.0 span.1 && (eqb (length (take (span.1 - span.0) rest)) (span.1 - span.0) && (valid (take (span.1 - span.0) rest) && are_cut span.1 spans (drop (span.1 - span.0) rest))))
