-- A row of bytes that is filled from its beginning.
use Rattle.std.proofs.Common.{◌≡◌, ℕ, zero, suc, ◌+◌, ◌<◌, List, [], ◌∷◌, map, length, replicate, get_or, set, take, drop, sym, refl, ap, ◌∙◌, arith}
use Rattle.std.specs.Prelude.{Option, Some, None}
use Rattle.std.proofs.lemmas.List.{get_or-take, get_or-drop}
use Rattle.counted_cell.specs.Text.{somes, begun}

module _ {X : Type 0} where
  pub begun-none : (xs : List X) → begun xs zero ≡ replicate (length xs) None
  begun-none [] = refl
  begun-none (x ∷ xs) = ap (λ l. None ∷ l) (begun-none xs)

  pub begun-all : (xs : List X) → begun xs (length xs) ≡ map Some xs
  begun-all [] = refl
  begun-all (x ∷ xs) = ap (λ l. Some x ∷ l) (begun-all xs)

  pub begun-length : (xs : List X) (i : ℕ) → length (begun xs i) ≡ length xs
  begun-length [] i = refl
  begun-length (x ∷ xs) zero = ap suc (begun-length xs zero)
  begun-length (x ∷ xs) (suc i) = ap suc (begun-length xs i)

  pub begun-next : (xs : List X) (i : ℕ) → get_or (begun xs i) i None ≡ None
  begun-next [] i = refl
  begun-next (x ∷ xs) zero = refl
  begun-next (x ∷ xs) (suc i) = begun-next xs i

  pub begun-more : (xs : List X) (i : ℕ) (d : X) → i < length xs → set (begun xs i) i (Some (get_or xs i d)) ≡ begun xs (suc i)
  begun-more [] i d lt = absurd (omega arith)
  begun-more (x ∷ xs) zero d lt = refl
  begun-more (x ∷ xs) (suc i) d lt = ap (λ l. Some x ∷ l) (begun-more xs i d (omega arith))

  pub somes-map : (xs : List X) → somes (map Some xs) ≡ xs
  somes-map [] = refl
  somes-map (x ∷ xs) = ap (λ l. x ∷ l) (somes-map xs)

  pub take-map : (xs : List X) → take (length xs) (map Some xs) ≡ map Some xs
  take-map [] = refl
  take-map (x ∷ xs) = ap (λ l. Some x ∷ l) (take-map xs)

  pub only_map : (xs ys : List X) (cs : List (Option X)) → cs ≡ map Some xs → take (length xs) (drop zero cs) ≡ map Some ys → ys ≡ xs
  only_map xs ys cs e f = sym (somes-map ys) ∙ ap somes (sym f ∙ ap (λ l. take (length xs) l) e ∙ take-map xs) ∙ somes-map xs

  pub map-length : (xs : List X) → length (map Some xs) ≡ length xs
  map-length [] = refl
  map-length (x ∷ xs) = ap suc (map-length xs)

-- what part of some bytes has is what they have
pub part-of : (all bytes : List ℕ) (from i : ℕ) → take (length bytes) (drop from all) ≡ bytes → i < length bytes → get_or bytes i 0 ≡ get_or all (from + i) 0
part-of all bytes from i is lt =
    sym (ap (λ (l : List ℕ). get_or l i 0) is) ∙ get_or-take (length bytes) (drop from all) i 0 lt ∙ get_or-drop from all i 0
