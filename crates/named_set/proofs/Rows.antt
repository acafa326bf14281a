-- Beginnings of one row, and each of a list.
use Rattle.std.proofs.Common.{◌≡◌, ◌⊎◌, inl, inr, ℕ, zero, suc, ◌<◌, List, [], ◌∷◌, ◌++◌, length, Some, slice_get, refl, ap, arith}
use Rattle.std.specs.List.{AllByRecursion}
use mathlib.Core.List.{IsPrefix}

-- what stands in a beginning stands in the whole, at the same place
pub prefix_get : {A : Type 0} (xs ys : List A) (k : ℕ) (x : A) → IsPrefix xs ys → slice_get xs k ≡ Some x → slice_get ys k ≡ Some x
prefix_get [] ys k x p h = absurd cc
prefix_get (y ∷ xs) [] k x p h = absurd (cc (p.1))
prefix_get (y ∷ xs) (z ∷ ys) zero x p h = cc (p.1, h)
prefix_get (y ∷ xs) (z ∷ ys) (suc k) x p h = prefix_get xs ys k x (p.0, cc (p.1)) h

-- what stands in the whole below a place of a beginning stands in the beginning
pub prefix_back : {A : Type 0} (xs ys : List A) (k j : ℕ) (x y : A) → IsPrefix xs ys → slice_get xs k ≡ Some x → j < k → slice_get ys j ≡ Some y → slice_get xs j ≡ Some y
prefix_back [] ys k j x y p h lt g = absurd cc
prefix_back (a ∷ xs) [] k j x y p h lt g = absurd (cc (p.1))
prefix_back (a ∷ xs) (b ∷ ys) k zero x y p h lt g = cc (p.1, g)
prefix_back (a ∷ xs) (b ∷ ys) zero (suc j) x y p h lt g = absurd (omega arith)
prefix_back (a ∷ xs) (b ∷ ys) (suc k) (suc j) x y p h lt g = prefix_back xs ys k j x y (p.0, cc (p.1)) h (omega arith) g

-- what stands at a place of a row with one more stands there before, or is the one more
pub get_snoc : {A : Type 0} (xs : List A) (e : A) (k : ℕ) (x : A) → slice_get (xs ++ e ∷ []) k ≡ Some x → (slice_get xs k ≡ Some x) ⊎ ((k ≡ length xs) × (e ≡ x))
get_snoc [] e zero x h = inr (refl, cc h)
get_snoc [] e (suc k) x h = absurd (cc h)
get_snoc (y ∷ xs) e zero x h = inl h
get_snoc (y ∷ xs) e (suc k) x h = longer (get_snoc xs e k x h)
  where
    longer : (slice_get xs k ≡ Some x) ⊎ ((k ≡ length xs) × (e ≡ x)) → (slice_get (y ∷ xs) (suc k) ≡ Some x) ⊎ ((suc k ≡ length (y ∷ xs)) × (e ≡ x))
    longer (inl a) = inl a
    longer (inr b) = inr (ap suc b.0, b.1)

pub snoc_get : {A : Type 0} (xs : List A) (e : A) → slice_get (xs ++ e ∷ []) (length xs) ≡ Some e
snoc_get [] e = refl
snoc_get (x ∷ xs) e = snoc_get xs e

pub each_more : {A : Type 0} (P Q : A → Type 0) (xs : List A) → ((x : A) → P x → Q x) → AllByRecursion P xs → AllByRecursion Q xs
each_more P Q [] f all = tt
each_more P Q (x ∷ xs) f all = (f x all.0, each_more P Q xs f all.1)

pub each_at : {A : Type 0} (P : A → Type 0) (xs : List A) (k : ℕ) (x : A) → AllByRecursion P xs → slice_get xs k ≡ Some x → P x
each_at P [] k x all h = absurd cc
each_at {A} P (y ∷ xs) zero x all h = let same : y ≡ x = cc h in Rattle.std.proofs.Common.subst P same all.0
each_at P (y ∷ xs) (suc k) x all h = each_at P xs k x all.1 h

pub each_snoc : {A : Type 0} (P : A → Type 0) (xs : List A) (x : A) → AllByRecursion P xs → P x → AllByRecursion P (xs ++ x ∷ [])
each_snoc P [] x all p = (p, tt)
each_snoc P (y ∷ xs) x all p = (all.0, each_snoc P xs x all.1 p)
