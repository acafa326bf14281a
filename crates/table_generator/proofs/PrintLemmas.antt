-- The lines of the texts, one after another.
use Rattle.std.proofs.Common.{◌≡◌, ℕ, ◌+◌, ◌<◌, ◌≤◌, zero, suc, List, [], ◌∷◌, ◌++◌, length, get_or, take, sym, refl, ap, ◌∙◌, arith, append_assoc}
use Rattle.std.proofs.lemmas.List.{append-nil}
use Rattle.table_generator.specs.TableText.{atom_line, atom_lines}

-- one hash more
pub atom_lines_more : (hashes : List ℕ) (texts : List (List ℕ)) (i : ℕ) → i < length hashes → i < length texts
    → atom_lines (take (i + 1) hashes) texts ≡ atom_lines (take i hashes) texts ++ atom_line (get_or hashes i 0) (get_or texts i [])
atom_lines_more hashes texts i below listed = let more : i + 1 ≡ suc i = omega arith in ap (λ n. atom_lines (take n hashes) texts) more ∙ next hashes texts i below listed
  where
    next : (hashes : List ℕ) (texts : List (List ℕ)) (i : ℕ) → i < length hashes → i < length texts
        → atom_lines (take (suc i) hashes) texts ≡ atom_lines (take i hashes) texts ++ atom_line (get_or hashes i 0) (get_or texts i [])
    next [] texts i below listed = absurd (omega (arith, below))
    next (h ∷ hashes) [] i below listed = absurd (omega (arith, listed))
    next (h ∷ hashes) (t ∷ texts) zero below listed = append-nil (atom_line h t)
    next (h ∷ hashes) (t ∷ texts) (suc i) below listed =
        ap (λ v. atom_line h t ++ v) (next hashes texts i (omega (arith, below)) (omega (arith, listed)))
        ∙ sym (append_assoc (atom_line h t) (atom_lines (take i hashes) texts) (atom_line (get_or hashes i 0) (get_or texts i [])))

-- a hash without a text has no line
pub atom_lines_past : (hashes : List ℕ) (texts : List (List ℕ)) (i : ℕ) → length texts ≤ i → atom_lines (take (i + 1) hashes) texts ≡ atom_lines (take i hashes) texts
atom_lines_past hashes texts i past = let more : i + 1 ≡ suc i = omega arith in ap (λ n. atom_lines (take n hashes) texts) more ∙ next hashes texts i past
  where
    next : (hashes : List ℕ) (texts : List (List ℕ)) (i : ℕ) → length texts ≤ i → atom_lines (take (suc i) hashes) texts ≡ atom_lines (take i hashes) texts
    next [] texts zero past = refl
    next [] texts (suc i) past = refl
    next (h ∷ hashes) [] zero past = refl
    next (h ∷ hashes) [] (suc i) past = refl
    next (h ∷ hashes) (t ∷ texts) zero past = absurd (omega (arith, past))
    next (h ∷ hashes) (t ∷ texts) (suc i) past = ap (λ v. atom_line h t ++ v) (next hashes texts i (omega (arith, past)))

-- a line at the end
pub line_behind : (front middle lines line all : List ℕ) → all ≡ lines ++ line → (front ++ (middle ++ lines)) ++ line ≡ front ++ (middle ++ all)
line_behind front middle lines line all is = append_assoc front (middle ++ lines) line ∙ ap (λ v. front ++ v) (append_assoc middle lines line ∙ ap (λ v. middle ++ v) (sym is))
