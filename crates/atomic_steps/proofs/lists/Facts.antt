-- Facts about lists and tests that the proofs on steps use.
use Rattle.std.proofs.Common.{◌≡◌, ℕ, ◌+◌, ◌<◌, ◌≢◌, ◌⊎◌, inl, inr, Bool, true, false, cond, not, List, [], ◌∷◌, ◌++◌, length, get_or, Option, None, Some, refl, sym, ap, ◌∙◌, subst, arith, zero, suc}
use Rattle.std.specs.Prelude.{slice_set, ◌==◌, ◌||◌}
use Rattle.std.specs.List.{find, list_all, enumerate_from, AllByRecursion}
use Rattle.std.specs.Option.{unwrap_or}
use Rattle.std.proofs.lemmas.Bool.{and_parts, and_from, or_cases, false_from_ne_true, eqb-true, eq-eqb, cases_Bool, ne_eqb}
use Rattle.atomic_steps.specs.Steps.{◌>>=◌, only_if, has, with_one, without_one}
use Rattle.atomic_steps.specs.Sound.{At}
use Rattle.text_forms.specs.Times.{times}
use Rattle.atomic_steps.specs.declared.steps.StepReply.{StepReply}
use Rattle.atomic_steps.specs.World.{World}
use Rattle.text_forms.proofs.TimesLemmas.{times-cons}

or_right_only : (a b : Bool) → a ≡ false → (a || b) ≡ true → b ≡ true
or_right_only true b e h = absurd cc
or_right_only false b e h = h

pub false_is_true : {P : Type 0} → ◌≡◌ {A = Bool} false true → P
false_is_true e = absurd cc

-- ---- an outcome, case by case

pub bind_case : {A B : Type 0} (P : B → Type 0) (o : Option A) (f : A → Option B) (d : B) → P d → ((x : A) → o ≡ Some x → P (unwrap_or (f x) d)) → P (unwrap_or (o >>= f) d)
bind_case P None f d none some = none
bind_case P (Some x) f d none some = some x refl

pub guard_case : {B : Type 0} (P : B → Type 0) (b : Bool) (x d : B) → P d → (b ≡ true → P x) → P (unwrap_or (only_if b x) d)
guard_case P true x d is_not is = is refl
guard_case P false x d is_not is = is_not

pub if_case : {B : Type 0} (P : B → Type 0) (b : Bool) (x y : B) → (b ≡ true → P x) → (b ≡ false → P y) → P (cond b x y)
if_case P true x y is is_not = is refl
if_case P false x y is is_not = is_not refl

-- ---- places

module _ {X : Type 0} where
  pub at_set_same : (xs : List X) (k : ℕ) (x y : X) → At xs k x → At (slice_set xs k y) k y
  at_set_same [] k x y h = absurd (let e : None ≡ Some x = h in cc)
  at_set_same (z ∷ xs) zero x y h = refl
  at_set_same (z ∷ xs) (suc k) x y h = at_set_same xs k x y h

  pub at_set_cases : (xs : List X) (k : ℕ) (y : X) (j : ℕ) (z : X) → At (slice_set xs k y) j z → ((j ≡ k) × (z ≡ y)) ⊎ ((j ≢ k) × At xs j z)
  at_set_cases [] k y j z h = absurd (let e : None ≡ Some z = h in cc)
  at_set_cases (x ∷ xs) zero y zero z h = inl (refl, cc)
  at_set_cases (x ∷ xs) zero y (suc j) z h = inr (omega arith, h)
  at_set_cases (x ∷ xs) (suc k) y zero z h = inr (omega arith, h)
  at_set_cases (x ∷ xs) (suc k) y (suc j) z h =
      elim (at_set_cases xs k y j z h) [ inl (e, f) ↦ inl (ap suc e, f) | inr (n, a) ↦ inr (omega arith, a) ]

  pub at_set_other : (xs : List X) (k : ℕ) (y : X) (j : ℕ) (z : X) → j ≢ k → At xs j z → At (slice_set xs k y) j z
  at_set_other [] k y j z n a = a
  at_set_other (x ∷ xs) zero y zero z n a = absurd (n refl)
  at_set_other (x ∷ xs) zero y (suc j) z n a = a
  at_set_other (x ∷ xs) (suc k) y zero z n a = a
  at_set_other (x ∷ xs) (suc k) y (suc j) z n a = at_set_other xs k y j z (λ e. n (ap suc e)) a

  pub at_push_old : (xs : List X) (y : X) (k : ℕ) (x : X) → At xs k x → At (xs ++ y ∷ []) k x
  at_push_old [] y k x h = absurd (let e : None ≡ Some x = h in cc)
  at_push_old (z ∷ xs) y zero x h = h
  at_push_old (z ∷ xs) y (suc k) x h = at_push_old xs y k x h

  pub at_push_cases : (xs : List X) (y : X) (j : ℕ) (z : X) → At (xs ++ y ∷ []) j z → At xs j z ⊎ ((j ≡ length xs) × (z ≡ y))
  at_push_cases [] y zero z h = inr (refl, cc)
  at_push_cases [] y (suc j) z h = absurd (let e : None ≡ Some z = h in cc)
  at_push_cases (x ∷ xs) y zero z h = inl h
  at_push_cases (x ∷ xs) y (suc j) z h =
      elim (at_push_cases xs y j z h) [ inl a ↦ inl a | inr (e, f) ↦ inr (ap suc e, f) ]

  pub at_push_new : (xs : List X) (y : X) → At (xs ++ y ∷ []) (length xs) y
  at_push_new [] y = refl
  at_push_new (x ∷ xs) y = at_push_new xs y

  pub at_one : (xs : List X) (k : ℕ) (x y : X) → At xs k x → At xs k y → x ≡ y
  at_one xs k x y h g = let e : Some x ≡ Some y = sym h ∙ g in cc

  -- ---- the first that passes

  pub find-set : (p : X → Bool) (xs : List X) (k : ℕ) (x y : X) → At xs k x → p x ≡ false → p y ≡ false → find p (slice_set xs k y) ≡ find p xs
  find-set p [] k x y h px py = refl
  find-set p (z ∷ xs) zero x y h px py =
      let e : z ≡ x = cc in
      let pz : p z ≡ false = ap p e ∙ px in
      rw (py, pz) refl
  find-set p (z ∷ xs) (suc k) x y h px py = ap (cond (p z) (Some z)) (find-set p xs k x y h px py)

  pub find-push : (p : X → Bool) (xs : List X) (y : X) → p y ≡ false → find p (xs ++ y ∷ []) ≡ find p xs
  find-push p [] y py = rw py refl
  find-push p (z ∷ xs) y py = ap (cond (p z) (Some z)) (find-push p xs y py)

  pub find-is : (p : X → Bool) (xs : List X) (k : ℕ) (x : X) → At xs k x → p x ≡ true → ((j : ℕ) (z : X) → At xs j z → p z ≡ true → j ≡ k) → find p xs ≡ Some x
  find-is p [] k x h px one = h
  find-is p (z ∷ xs) zero x h px one =
      let e : z ≡ x = cc in
      let pz : p z ≡ true = ap p e ∙ px in
      rw pz h
  find-is p (z ∷ xs) (suc k) x h px one =
      if_case (λ o. o ≡ Some x) (p z) (Some z) (find p xs)
      (λ pz. absurd (let e : zero ≡ suc k = one zero z refl pz in omega arith))
      (λ pz. find-is p xs k x h px (λ j v a pv. let e : suc j ≡ suc k = one (suc j) v a pv in omega arith))

  pub find-none : (p : X → Bool) (xs : List X) → ((j : ℕ) (z : X) → At xs j z → p z ≡ true → ⊥) → find p xs ≡ None
  find-none p [] none = refl
  find-none p (z ∷ xs) none =
      if_case (λ o. o ≡ None) (p z) (Some z) (find p xs)
      (λ pz. absurd (none zero z refl pz))
      (λ pz. find-none p xs (λ j v a pv. none (suc j) v a pv))

  pub find-all : (p : X → Bool) (P : X → Type 0) (xs : List X) (x : X) → find p xs ≡ Some x → AllByRecursion P xs → P x
  find-all p P [] x h all = absurd (let e : None ≡ Some x = h in cc)
  find-all p P (z ∷ xs) x h all =
      if_case (λ o. o ≡ Some x → P x) (p z) (Some z) (find p xs)
      (λ pz e. let f : z ≡ x = cc in subst P f all.0)
      (λ pz e. find-all p P xs x e all.1) h

  pub all_at : (P : X → Type 0) (xs : List X) (k : ℕ) (x : X) → At xs k x → AllByRecursion P xs → P x
  all_at P [] k x at all = absurd (let e : ◌≡◌ {A = Option X} None (Some x) = at in cc)
  all_at P (y ∷ ys) zero x at all = subst P (let e : ◌≡◌ {A = Option X} (Some y) (Some x) = at in cc) all.0
  all_at P (y ∷ ys) (suc k) x at all = all_at P ys k x at all.1

  pub all_push : (P : X → Type 0) (xs : List X) (y : X) → AllByRecursion P xs → P y → AllByRecursion P (xs ++ y ∷ [])
  all_push P [] y all py = (py, tt)
  all_push P (z ∷ xs) y all py = (all.0, all_push P xs y all.1 py)

  pub all_weaker : (P Q : X → Type 0) → ((x : X) → P x → Q x) → (xs : List X) → AllByRecursion P xs → AllByRecursion Q xs
  all_weaker P Q h [] all = all
  all_weaker P Q h (z ∷ xs) all = (h z all.0, all_weaker P Q h xs all.1)

  -- a test of each numbered element, at one of them
  pub numbered_at : (p : ℕ × X → Bool) (xs : List X) (n k : ℕ) (x : X) → list_all p (enumerate_from n xs) ≡ true → At xs k x → p (n + k, x) ≡ true
  numbered_at p [] n k x h a = absurd (let e : None ≡ Some x = a in cc)
  numbered_at p (z ∷ xs) n zero x h a =
      let e : z ≡ x = cc in
      let all = and_parts (p (n, z)) _ h in
      let same : ◌≡◌ {A = ℕ × X} (n, z) (n + 0, x) = pair (omega arith) e in
      sym (ap p same) ∙ all.0
    where
      pair : {m k : ℕ} {u v : X} → m ≡ k → u ≡ v → ◌≡◌ {A = ℕ × X} (m, u) (k, v)
      pair e f i = (e i, f i)
  numbered_at p (z ∷ xs) n (suc k) x h a =
      let all = and_parts (p (n, z)) _ h in
      let e : n + 1 + k ≡ n + suc k = omega arith in
      subst (λ (m : ℕ). p (m, x) ≡ true) e (numbered_at p xs (n + 1) k x all.1 a)

-- ---- the bag

pub times-without_one_same : (x : ℕ) (xs : List ℕ) → has xs x ≡ true → times x xs ≡ times x (without_one x xs) + 1
times-without_one_same x [] h = absurd (let e : false ≡ true = h in cc)
times-without_one_same x (y ∷ xs) h =
    if_case (λ ys. times x (y ∷ xs) ≡ times x ys + 1) (y == x) xs (y ∷ without_one x xs)
    (λ t. rw (times-cons x y xs, t) (omega arith))
    (λ t. let later : has xs x ≡ true = or_right_only (y == x) (has xs x) t h in
    rw (times-cons x y xs, times-cons x y (without_one x xs), times-without_one_same x xs later) (omega arith))

pub times-without_one_other : (x t : ℕ) (xs : List ℕ) → x ≢ t → times t (without_one x xs) ≡ times t xs
times-without_one_other x t [] h = refl
times-without_one_other x t (y ∷ xs) h =
    if_case (λ ys. times t ys ≡ times t (y ∷ xs)) (y == x) xs (y ∷ without_one x xs)
    (λ e. let same : y ≡ x = eqb-true y x e in
    let test : (y == t) ≡ false = false_from_ne_true (y == t) (λ i. h (sym same ∙ eqb-true y t i)) in
    rw (times-cons t y xs, test) (omega arith))
    (λ e. rw (times-cons t y xs, times-cons t y (without_one x xs), times-without_one_other x t xs h) refl)

-- it has a number just where that stands in it at least once
pub has-times : (x : ℕ) (xs : List ℕ) → has xs x ≡ true → 0 < times x xs
has-times x xs h = omega (arith, times-without_one_same x xs h)

pub times-with_one_same : (x : ℕ) (xs : List ℕ) → times x (with_one x xs) ≡ times x xs + 1
times-with_one_same x [] =
    let hit : (x == x) ≡ true = eq-eqb x x refl in
    rw (times-cons x x [], hit) refl
times-with_one_same x (y ∷ xs) =
    if_case (λ ys. times x ys ≡ times x (y ∷ xs) + 1) (y == x) (x ∷ y ∷ xs) (y ∷ with_one x xs)
    (λ t. let hit : (x == x) ≡ true = eq-eqb x x refl in rw (times-cons x x (y ∷ xs), hit) (omega arith))
    (λ t. rw (times-cons x y (with_one x xs), times-cons x y xs, times-with_one_same x xs) (omega arith))

pub times-with_one_other : (x t : ℕ) (xs : List ℕ) → x ≢ t → times t (with_one x xs) ≡ times t xs
times-with_one_other x t [] h =
    let miss : (x == t) ≡ false = ne_eqb x t h in
    rw (times-cons t x [], miss) refl
times-with_one_other x t (y ∷ xs) h =
    if_case (λ ys. times t ys ≡ times t (y ∷ xs)) (y == x) (x ∷ y ∷ xs) (y ∷ with_one x xs)
    (λ e. let miss : (x == t) ≡ false = ne_eqb x t h in rw (times-cons t x (y ∷ xs), miss) (omega arith))
    (λ e. rw (times-cons t y (with_one x xs), times-cons t y xs, times-with_one_other x t xs h) refl)

-- a number that stands in it is one that it has
pub times-has : (x : ℕ) (xs : List ℕ) → 0 < times x xs → has xs x ≡ true
times-has x [] h = absurd (omega arith)
times-has x (y ∷ xs) h =
    elim (cases_Bool (y == x)) [
      | inl hit ↦ rw hit refl
      | inr miss ↦
          let rest : 0 < times x xs = (let c = times-cons x y xs in let d : ◌≡◌ {A = ℕ} (cond (y == x) 1 0) 0 = ap (λ (b : Bool). cond {A = ℕ} b 1 0) miss in omega (arith, c, d, h)) in
          rw miss (times-has x xs rest)
    ]

-- ---- an outcome, followed

pub none_then : {A B : Type 0} (o : Option A) (f : A → Option B) (d : B) → o ≡ None → unwrap_or (o >>= f) d ≡ d
none_then o f d e = ap (λ p. unwrap_or (p >>= f) d) e

pub some_then : {A B : Type 0} (o : Option A) (f : A → Option B) (d : B) (x : A) → o ≡ Some x → unwrap_or (o >>= f) d ≡ unwrap_or (f x) d
some_then o f d x e = ap (λ p. unwrap_or (p >>= f) d) e

pub test_fails : {B : Type 0} (b : Bool) (x d : B) → b ≡ false → unwrap_or (only_if b x) d ≡ d
test_fails b x d e = ap (λ c. unwrap_or (only_if c x) d) e

pub test_holds : {B : Type 0} (b : Bool) (x d : B) → b ≡ true → unwrap_or (only_if b x) d ≡ x
test_holds b x d e = ap (λ c. unwrap_or (only_if c x) d) e

pub replied : (r : StepReply) (w v : World) → w ≡ v → ◌≡◌ {A = StepReply × World} (r, w) (r, v)
replied r w v e = λ i. (r, e i)

pub replied_both : {r r' : StepReply} {u v : World} → r ≡ r' → u ≡ v → ◌≡◌ {A = StepReply × World} (r, u) (r', v)
replied_both f g i = (f i, g i)

pub get_or_at : {X : Type 0} (xs : List X) (k : ℕ) (d x : X) → At xs k x → get_or xs k d ≡ x
get_or_at {X} [] k d x at = absurd (let e : ◌≡◌ {A = Option X} None (Some x) = at in cc)
get_or_at (y ∷ xs) zero d x at = cc
get_or_at (y ∷ xs) (suc k) d x at = get_or_at xs k d x at

-- ---- tests of numbers

pub has_first : (a b : Bool) → a ≡ true → (a || b) ≡ true
has_first true b e = refl
has_first false b e = absurd (let f : false ≡ true = e in cc)

pub has_then : (a b : Bool) → b ≡ true → (a || b) ≡ true
has_then true b e = refl
has_then false b e = e

pub implied : (a b : Bool) → (a ≡ true → b ≡ true) → (not a || b) ≡ true
implied true b h = h refl
implied false b h = refl

pub has_old : (xs : List ℕ) (x y : ℕ) → has xs y ≡ true → has (xs ++ x ∷ []) y ≡ true
has_old [] x y h = absurd (let f : false ≡ true = h in cc)
has_old (z ∷ xs) x y h = elim (or_cases (z == y) (has xs y) h) [
  | inl e ↦ has_first (z == y) (has (xs ++ x ∷ []) y) e
  | inr e ↦ has_then (z == y) (has (xs ++ x ∷ []) y) (has_old xs x y e)
]

pub has_new : (xs : List ℕ) (x y : ℕ) → x ≡ y → has (xs ++ x ∷ []) y ≡ true
has_new [] x y e = has_first (x == y) false (eq-eqb x y e)
has_new (z ∷ xs) x y e = has_then (z == y) (has (xs ++ x ∷ []) y) (has_new xs x y e)

pub numbered_all : {X : Type 0} (p : ℕ × X → Bool) (xs : List X) (n : ℕ) → ((k : ℕ) (x : X) → At xs k x → p (n + k, x) ≡ true) → list_all p (enumerate_from n xs) ≡ true
numbered_all {X} p [] n h = refl
numbered_all {X} p (x ∷ xs) n h =
    let zero_more : n + 0 ≡ n = omega arith in
    and_from (p (n, x)) (list_all p (enumerate_from (n + 1) xs)) (subst (λ (m : ℕ). p (m, x) ≡ true) zero_more (h zero x refl))
    (numbered_all p xs (n + 1) (λ k y at. let e : n + suc k ≡ n + 1 + k = omega arith in subst (λ (m : ℕ). p (m, y) ≡ true) e (h (suc k) y at)))
