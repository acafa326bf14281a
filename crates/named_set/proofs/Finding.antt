-- Where the cells of two rows stand, and in which order they stand once one was added or taken out.
use Rattle.std.proofs.Common.{◌≡◌, ◌⊎◌, inl, inr, ℕ, zero, suc, ◌+◌, ◌-◌, ◌≤◌, List, [], ◌∷◌, ◌++◌, length, Some, Result, Ok, Err, OnOk, OnErr, slice_get, sym, subst, arith}
use Rattle.std.specs.List.{swap_remove}
use Rattle.std.specs.List.Sorted.{IsPermutation}
use Rattle.std.proofs.lemmas.List.{append_assoc}
use Rattle.std.proofs.lemmas.List.Sorted.{IsPermutation-sym, IsPermutation-trans, IsPermutation-to_front, IsPermutation-middle, IsPermutation-append_right, IsPermutation-cons, IsPermutation-swap_remove}
use Rattle.std.proofs.lemmas.Option.{slice_get_within, get_or_from_slice_get}
use Rattle.counted_cell.specs.Cell.{Cell}
use Rattle.named_set.specs.Places.{HaveHash, IsNew}

-- what stands in a list of two stands in the first or in the second
pub get_left : {A : Type 0} (xs ys : List A) (k : ℕ) (x : A) → slice_get xs k ≡ Some x → slice_get (xs ++ ys) k ≡ Some x
get_left [] ys k x at = absurd (cc at)
get_left (y ∷ xs) ys zero x at = at
get_left (y ∷ xs) ys (suc k) x at = get_left xs ys k x at

pub get_right : {A : Type 0} (xs ys : List A) (k : ℕ) (x : A) → slice_get ys k ≡ Some x → slice_get (xs ++ ys) (length xs + k) ≡ Some x
get_right [] ys k x at = let e : k ≡ 0 + k = omega arith in subst (λ i. slice_get ys i ≡ Some x) e at
get_right (y ∷ xs) ys k x at = let e : suc (length xs + k) ≡ length (y ∷ xs) + k = omega arith in subst (λ i. slice_get (y ∷ (xs ++ ys)) i ≡ Some x) e (get_right xs ys k x at)

pub get_either : {A : Type 0} (xs ys : List A) (k : ℕ) (x : A) → slice_get (xs ++ ys) k ≡ Some x → (slice_get xs k ≡ Some x) ⊎ ((length xs ≤ k) × (slice_get ys (k - length xs) ≡ Some x))
get_either [] ys k x at = let e : k ≡ k - 0 = omega arith in inr (omega arith, subst (λ i. slice_get ys i ≡ Some x) e at)
get_either (y ∷ xs) ys zero x at = inl at
get_either (y ∷ xs) ys (suc k) x at = further (get_either xs ys k x at)
  where
    further : (slice_get xs k ≡ Some x) ⊎ ((length xs ≤ k) × (slice_get ys (k - length xs) ≡ Some x)) → (slice_get (y ∷ xs) (suc k) ≡ Some x) ⊎ ((length (y ∷ xs) ≤ suc k) × (slice_get ys (suc k - length (y ∷ xs)) ≡ Some x))
    further (inl a) = inl a
    further (inr b) = let e : k - length xs ≡ suc k - length (y ∷ xs) = omega arith in inr (omega (arith, b.0), subst (λ i. slice_get ys i ≡ Some x) e b.1)

-- what stands behind the first stands in the second
pub get_behind : {A : Type 0} (xs ys : List A) (k : ℕ) (x : A) → length xs ≤ k → slice_get ys (k - length xs) ≡ Some x → slice_get (xs ++ ys) k ≡ Some x
get_behind xs ys k x le at =
    let same : length xs + (k - length xs) ≡ k = omega (arith, le) in
    subst (λ i. slice_get (xs ++ ys) i ≡ Some x) same (get_right xs ys (k - length xs) x at)

-- with one more
pub add_second : {A : Type 0} (xs ys : List A) (x : A) → IsPermutation (x ∷ (xs ++ ys)) (xs ++ (ys ++ x ∷ []))
add_second xs ys x =
    subst (λ zs. IsPermutation (x ∷ (xs ++ ys)) zs) (append_assoc xs ys (x ∷ [])) (IsPermutation-sym ((xs ++ ys) ++ x ∷ []) (x ∷ (xs ++ ys)) (IsPermutation-to_front (xs ++ ys) x))

-- without one
pub take_second : {A : Type 0} (xs ys : List A) (k : ℕ) (x : A) → slice_get ys k ≡ Some x → IsPermutation (xs ++ ys) (x ∷ (xs ++ swap_remove ys k x))
take_second xs ys k x at =
    IsPermutation-trans (xs ++ ys) (xs ++ x ∷ swap_remove ys k x) (x ∷ (xs ++ swap_remove ys k x))
    (IsPermutation-append_right xs ys (x ∷ swap_remove ys k x) (IsPermutation-swap_remove ys k x (slice_get_within ys k x at) (sym (get_or_from_slice_get ys k x x at))))
    (IsPermutation-middle xs x (swap_remove ys k x))

-- one of the second that goes to its end
pub moved_second : {A : Type 0} (xs ys : List A) (k : ℕ) (x : A) → slice_get ys k ≡ Some x → IsPermutation (xs ++ ys) (xs ++ (swap_remove ys k x ++ x ∷ []))
moved_second xs ys k x at =
    IsPermutation-trans (xs ++ ys) (x ∷ (xs ++ swap_remove ys k x)) (xs ++ (swap_remove ys k x ++ x ∷ [])) (take_second xs ys k x at) (add_second xs (swap_remove ys k x) x)

-- none is of the text, where none of the first and none of the second is
pub new_both : (xs ys : List Cell) (text : List ℕ) → IsNew text xs → IsNew text ys → IsNew text (xs ++ ys)
new_both xs ys text first second i c at same = or (get_either xs ys i c at)
  where
    or : (slice_get xs i ≡ Some c) ⊎ ((length xs ≤ i) × (slice_get ys (i - length xs) ≡ Some c)) → ⊥
    or (inl a) = first i c a same
    or (inr b) = second (i - length xs) c b.1 same

pub have_left : (xs ys : List Cell) (text : List ℕ) (hash : ℕ) → HaveHash text hash (xs ++ ys) → HaveHash text hash xs
have_left xs ys text hash have i c at same = have i c (get_left xs ys i c at) same

pub have_right : (xs ys : List Cell) (text : List ℕ) (hash : ℕ) → HaveHash text hash (xs ++ ys) → HaveHash text hash ys
have_right xs ys text hash have i c at same = have (length xs + i) c (get_right xs ys i c at) same

-- with one more, in another order before
pub added_after : {E : Type 0} (r : Result (Unit {0}) E) (x : Cell) (xs ys zs : List Cell) → IsPermutation xs ys → OnOk r (IsPermutation (x ∷ ys) zs) → OnOk r (IsPermutation (x ∷ xs) zs)
added_after (Ok u) x xs ys zs first second = IsPermutation-trans (x ∷ xs) (x ∷ ys) zs (IsPermutation-cons x xs ys first) second
added_after (Err e) x xs ys zs first second = tt

pub same_after : {E : Type 0} (r : Result (Unit {0}) E) (xs ys zs : List Cell) → IsPermutation xs ys → OnErr r (IsPermutation ys zs) → OnErr r (IsPermutation xs zs)
same_after (Ok u) xs ys zs first second = tt
same_after (Err e) xs ys zs first second = IsPermutation-trans xs ys zs first second
