-- A bucket's list, as the items of its entries.
use Rattle.std.proofs.Common.{◌≡◌, ℕ, ◌+◌, ◌<◌, ◌≤◌, inl, inr, Bool, true, false, cond, not, List, [], ◌∷◌, ◌++◌, length, map, reverse, Option, None, Some, refl, sym, ap, ◌∙◌, subst, arith, zero, suc}
use Rattle.std.specs.Prelude.{slice_set, ◌==◌}
use Rattle.std.specs.List.{filter, enumerate_from, AllByRecursion}
use Rattle.std.proofs.lemmas.Bool.{eq-eqb, or_cases, false_from_ne_true, cases_Bool, ne_eqb}
use Rattle.std.proofs.lemmas.List.{reverse-append}
use Rattle.std.proofs.lemmas.List.Elements.{filter-append}
use Rattle.std.proofs.lemmas.Option.{none-some}
use Rattle.atomic_steps.specs.World.{WorldEntry}
use Rattle.atomic_steps.specs.Steps.{has, is_linked_in}
use Rattle.atomic_steps.specs.Sound.{At}
use Rattle.atomic_steps.specs.PassSteps.{Item, item}
use Rattle.atomic_steps.proofs.lists.Facts.{has_first, has_then, if_case, false_is_true}
use Rattle.atomic_steps.proofs.worlds.Apart.{SameIn}

abbrev pub numbers : List Item → List ℕ
numbers [] = []
numbers (e ∷ es) = e.number ∷ numbers es

-- numbers that fall, from below n
abbrev pub Falls : ℕ → List Item → Type 0
Falls n [] = Unit {0}
Falls n (e ∷ es) = (e.number < n) × Falls e.number es

-- the items of the bucket's entries, of a list that is numbered from n, the oldest first
abbrev pub items : ℕ → ℕ → List WorldEntry → List Item
items bucket n es = map item (filter (λ (numbered : ℕ × WorldEntry). is_linked_in bucket numbered.1) (enumerate_from n es))

items_in : (bucket n : ℕ) (x : WorldEntry) (xs : List WorldEntry) → is_linked_in bucket x ≡ true → items bucket n (x ∷ xs) ≡ item (n, x) ∷ items bucket (n + 1) xs
items_in bucket n x xs e =
    let rest = filter (λ (numbered : ℕ × WorldEntry). is_linked_in bucket numbered.1) (enumerate_from (n + 1) xs) in
    ap (λ (c : Bool). map item (cond c ((n, x) ∷ rest) rest)) e

items_out : (bucket n : ℕ) (x : WorldEntry) (xs : List WorldEntry) → is_linked_in bucket x ≡ false → items bucket n (x ∷ xs) ≡ items bucket (n + 1) xs
items_out bucket n x xs e =
    let rest = filter (λ (numbered : ℕ × WorldEntry). is_linked_in bucket numbered.1) (enumerate_from (n + 1) xs) in
    ap (λ (c : Bool). map item (cond c ((n, x) ∷ rest) rest)) e

-- ---- what changes the list, and what doesn't

item_is : (n : ℕ) (x y : WorldEntry) → y.text ≡ x.text → y.ticket ≡ x.ticket → item (n, x) ≡ item (n, y)
item_is n x y text ticket = λ i. record { number = n; ticket = sym ticket i; text = sym text i }

pub items_same : (bucket n : ℕ) (es es' : List WorldEntry) → SameIn bucket es es' → items bucket n es ≡ items bucket n es'
items_same bucket n [] [] same = refl
items_same bucket n [] (y ∷ ys) same =
    let out : is_linked_in bucket y ≡ false = false_from_ne_true (is_linked_in bucket y) (λ h. absurd (none-some _ (same.back zero y refl h).1)) in
    items_same bucket (n + 1) [] ys (record { forth = λ k x at h. absurd (none-some x at); back = λ k z at h. absurd (none-some _ (same.back (suc k) z at h).1) })
    ∙ sym (items_out bucket n y ys out)
items_same bucket n (x ∷ xs) [] same =
    let out : is_linked_in bucket x ≡ false = false_from_ne_true (is_linked_in bucket x) (λ h. absurd (none-some _ (same.forth zero x refl h).1)) in
    items_out bucket n x xs out
    ∙ items_same bucket (n + 1) xs [] (record { forth = λ k z at h. absurd (none-some _ (same.forth (suc k) z at h).1); back = λ k y at h. absurd (none-some y at) })
items_same bucket n (x ∷ xs) (y ∷ ys) same =
    let rest = items_same bucket (n + 1) xs ys (record { forth = λ k z at h. same.forth (suc k) z at h; back = λ k z at h. same.back (suc k) z at h }) in
    elim (cases_Bool (is_linked_in bucket x)) [
      | inl inside ↦
          let f = same.forth zero x refl inside in
          let is : y ≡ f.0 = (let e : Some y ≡ Some f.0 = f.1 in cc) in
          let here : item (n, x) ≡ item (n, y) = item_is n x y (ap (λ (v : WorldEntry). v.text) is ∙ f.3) (ap (λ (v : WorldEntry). v.ticket) is ∙ f.4) in
          items_in bucket n x xs inside ∙ (λ i. here i ∷ rest i) ∙ sym (items_in bucket n y ys (ap (is_linked_in bucket) is ∙ f.2))
      | inr out ↦
          let out' : is_linked_in bucket y ≡ false = false_from_ne_true (is_linked_in bucket y) (λ h.
          let b = same.back zero y refl h in
          let is : x ≡ b.0 = (let e : Some x ≡ Some b.0 = b.1 in cc) in
          false_is_true (sym out ∙ ap (is_linked_in bucket) is ∙ b.2)) in
          items_out bucket n x xs out ∙ rest ∙ sym (items_out bucket n y ys out')
    ]

-- a new entry in the bucket is the last
pub items_push : (bucket n : ℕ) (es : List WorldEntry) (y : WorldEntry) → is_linked_in bucket y ≡ true → items bucket n (es ++ y ∷ []) ≡ items bucket n es ++ item (n + length es, y) ∷ []
items_push bucket n [] y inside =
    let e : n ≡ n + 0 = omega arith in
    items_in bucket n y [] inside ∙ ap (λ (m : ℕ). item (m, y) ∷ []) e
items_push bucket n (x ∷ xs) y inside =
    let e : n + 1 + length xs ≡ n + length (x ∷ xs) = omega arith in
    let rest = items_push bucket (n + 1) xs y inside ∙ ap (λ (m : ℕ). items bucket (n + 1) xs ++ item (m, y) ∷ []) e in
    elim (cases_Bool (is_linked_in bucket x)) [
      | inl here ↦
          items_in bucket n x (xs ++ y ∷ []) here ∙ ap (λ (is : List Item). item (n, x) ∷ is) rest
          ∙ sym (ap (λ (is : List Item). is ++ item (n + length (x ∷ xs), y) ∷ []) (items_in bucket n x xs here))
      | inr out ↦
          items_out bucket n x (xs ++ y ∷ []) out ∙ rest
          ∙ sym (ap (λ (is : List Item). is ++ item (n + length (x ∷ xs), y) ∷ []) (items_out bucket n x xs out))
    ]

abbrev pub is_other : ℕ → Item → Bool
is_other number e = not (e.number == number)

filter_in : (p : Item → Bool) (x : Item) (xs : List Item) → p x ≡ true → filter p (x ∷ xs) ≡ x ∷ filter p xs
filter_in p x xs e = ap (λ (c : Bool). cond c (x ∷ filter p xs) (filter p xs)) e

filter_out : (p : Item → Bool) (x : Item) (xs : List Item) → p x ≡ false → filter p (x ∷ xs) ≡ filter p xs
filter_out p x xs e = ap (λ (c : Bool). cond c (x ∷ filter p xs) (filter p xs)) e

-- items that are numbered from n have no number below
none_below : (bucket n : ℕ) (es : List WorldEntry) (number : ℕ) → number < n → filter (is_other number) (items bucket n es) ≡ items bucket n es
none_below bucket n [] number below = refl
none_below bucket n (x ∷ xs) number below =
    let rest = none_below bucket (n + 1) xs number (omega (arith, below)) in
    elim (cases_Bool (is_linked_in bucket x)) [
      | inl inside ↦
          ap (filter (is_other number)) (items_in bucket n x xs inside)
          ∙ filter_in (is_other number) (item (n, x)) (items bucket (n + 1) xs) (ap not (ne_eqb n number (omega (arith, below))))
          ∙ ap (λ (is : List Item). item (n, x) ∷ is) rest ∙ sym (items_in bucket n x xs inside)
      | inr out ↦ ap (filter (is_other number)) (items_out bucket n x xs out) ∙ rest ∙ sym (items_out bucket n x xs out)
    ]

-- an entry that stands in the list no more is missing, and all else stays
pub items_cut : (bucket n : ℕ) (es : List WorldEntry) (k : ℕ) (x y : WorldEntry) → At es k x → is_linked_in bucket y ≡ false
    → items bucket n (slice_set es k y) ≡ filter (is_other (n + k)) (items bucket n es)
items_cut bucket n [] k x y at out = absurd (none-some x at)
items_cut bucket n (z ∷ zs) zero x y at out =
    let e : n ≡ n + 0 = omega arith in
    let rest : filter (is_other n) (items bucket (n + 1) zs) ≡ items bucket (n + 1) zs = none_below bucket (n + 1) zs n (omega arith) in
    items_out bucket n y zs out ∙ sym rest
    ∙ elim (cases_Bool (is_linked_in bucket z)) [
      | inl here ↦
          let goes : is_other n (item (n, z)) ≡ false = ap not (eq-eqb n n refl) in
          sym (filter_out (is_other n) (item (n, z)) (items bucket (n + 1) zs) goes) ∙ sym (ap (filter (is_other n)) (items_in bucket n z zs here))
      | inr out' ↦ sym (ap (filter (is_other n)) (items_out bucket n z zs out'))
    ]
    ∙ ap (λ (m : ℕ). filter (is_other m) (items bucket n (z ∷ zs))) e
items_cut bucket n (z ∷ zs) (suc k) x y at out =
    let e : n + 1 + k ≡ n + suc k = omega arith in
    let rest = items_cut bucket (n + 1) zs k x y at out ∙ ap (λ (m : ℕ). filter (is_other m) (items bucket (n + 1) zs)) e in
    elim (cases_Bool (is_linked_in bucket z)) [
      | inl here ↦
          items_in bucket n z (slice_set zs k y) here ∙ ap (λ (is : List Item). item (n, z) ∷ is) rest
          ∙ sym (filter_in (is_other (n + suc k)) (item (n, z)) (items bucket (n + 1) zs) (ap not (ne_eqb n (n + suc k) (omega arith))))
          ∙ sym (ap (filter (is_other (n + suc k))) (items_in bucket n z zs here))
      | inr out' ↦
          items_out bucket n z (slice_set zs k y) out' ∙ rest ∙ sym (ap (filter (is_other (n + suc k))) (items_out bucket n z zs out'))
    ]

pub filter_reverse : (p : Item → Bool) (es : List Item) → reverse (filter p es) ≡ filter p (reverse es)
filter_reverse p [] = refl
filter_reverse p (e ∷ es) =
    let turned : reverse (e ∷ es) ≡ reverse es ++ e ∷ [] = reverse-append (e ∷ []) es in
    let both : filter p (reverse (e ∷ es)) ≡ filter p (reverse es) ++ filter p (e ∷ []) = ap (filter p) turned ∙ filter-append p (reverse es) (e ∷ []) in
    elim (cases_Bool (p e)) [
      | inl stays ↦
          ap reverse (filter_in p e es stays) ∙ reverse-append (e ∷ []) (filter p es) ∙ ap (λ (is : List Item). is ++ e ∷ []) (filter_reverse p es)
          ∙ sym (both ∙ ap (λ (is : List Item). filter p (reverse es) ++ is) (filter_in p e [] stays))
      | inr goes ↦
          ap reverse (filter_out p e es goes) ∙ filter_reverse p es ∙ sym (append_nothing (filter p (reverse es)))
          ∙ sym (both ∙ ap (λ (is : List Item). filter p (reverse es) ++ is) (filter_out p e [] goes))
    ]
  where
    append_nothing : (es : List Item) → es ++ [] ≡ es
    append_nothing [] = refl
    append_nothing (e ∷ es) = ap (λ (is : List Item). e ∷ is) (append_nothing es)

-- ---- one item cut out of numbers that fall

none_above : (n top : ℕ) (es : List Item) → top ≤ n → Falls top es → filter (is_other n) es ≡ es
none_above n top [] le falls = refl
none_above n top (e ∷ es) le falls =
    filter_in (is_other n) e es (ap not (ne_eqb e.number n (let h = falls.0 in omega (arith, h, le))))
    ∙ ap (λ (is : List Item). e ∷ is) (none_above n e.number es (let h = falls.0 in omega (arith, h, le)) falls.1)

later_below : (top : ℕ) (front : List Item) (e : Item) (rest : List Item) → Falls top (front ++ e ∷ rest) → e.number < top
later_below top [] e rest falls = falls.0
later_below top (f ∷ front) e rest falls = let h = later_below f.number front e rest falls.1 in let g = falls.0 in omega (arith, h, g)

pub cut_out : (top : ℕ) (front : List Item) (e : Item) (rest : List Item) → Falls top (front ++ e ∷ rest) → filter (is_other e.number) (front ++ e ∷ rest) ≡ front ++ rest
cut_out top [] e rest falls =
    filter_out (is_other e.number) e rest (ap not (eq-eqb e.number e.number refl)) ∙ none_above e.number e.number rest (omega arith) falls.1
cut_out top (f ∷ front) e rest falls =
    filter_in (is_other e.number) f (front ++ e ∷ rest) (ap not (ne_eqb f.number e.number (let h = later_below f.number front e rest falls.1 in omega (arith, h))))
    ∙ ap (λ (is : List Item). f ∷ is) (cut_out f.number front e rest falls.1)

-- ---- where its items stand

-- The item is of this entry, of a list that is numbered from n.
pub record IsThere (bucket n : ℕ) (xs : List WorldEntry) (e : Item) : Type 0 where
  pub k : ℕ
  pub entry : WorldEntry
  pub number : e.number ≡ n + k
  pub at : At xs k entry
  pub inside : is_linked_in bucket entry ≡ true
  pub text : entry.text ≡ e.text

pub record IsListed (bucket n : ℕ) (xs : List WorldEntry) (l : List Item) : Type 0 where
  pub each : AllByRecursion (IsThere bucket n xs) l
  pub all : (k : ℕ) (x : WorldEntry) → At xs k x → is_linked_in bucket x ≡ true → has (numbers l) (n + k) ≡ true
  pub falls : Falls (n + length xs) l

one_later : (bucket n : ℕ) (x : WorldEntry) (xs : List WorldEntry) (l : List Item) → AllByRecursion (IsThere bucket (n + 1) xs) l → AllByRecursion (IsThere bucket n (x ∷ xs)) l
one_later bucket n x xs [] all = tt
one_later bucket n x xs (e ∷ l) all =
    let s = all.0 in
    (record { k = suc s.k; entry = s.entry; number = (let m = s.number in omega (arith, m)); at = s.at; inside = s.inside; text = s.text }, one_later bucket n x xs l all.1)

has_last : (l : List Item) (e : Item) (n : ℕ) → e.number ≡ n → has (numbers (l ++ e ∷ [])) n ≡ true
has_last [] e n is = has_first (e.number == n) false (eq-eqb e.number n is)
has_last (x ∷ l) e n is = has_then (x.number == n) (has (numbers (l ++ e ∷ [])) n) (has_last l e n is)

has_before : (l : List Item) (e : Item) (n : ℕ) → has (numbers l) n ≡ true → has (numbers (l ++ e ∷ [])) n ≡ true
has_before [] e n h = false_is_true h
has_before (x ∷ l) e n h = elim (or_cases (x.number == n) (has (numbers l) n) h) [
  | inl i ↦ has_first (x.number == n) (has (numbers (l ++ e ∷ [])) n) i
  | inr i ↦ has_then (x.number == n) (has (numbers (l ++ e ∷ [])) n) (has_before l e n i)
]

all_last : (P : Item → Type 0) (l : List Item) (e : Item) → AllByRecursion P l → P e → AllByRecursion P (l ++ e ∷ [])
all_last P [] e all pe = (pe, tt)
all_last P (x ∷ l) e all pe = (all.0, all_last P l e all.1 pe)

-- numbers that fall, and a smaller one
falls_last : (bucket n top : ℕ) (xs : List WorldEntry) (l : List Item) (e : Item) → AllByRecursion (IsThere bucket n xs) l → e.number < n → e.number < top → Falls top l → Falls top (l ++ e ∷ [])
falls_last bucket n top xs [] e all less below falls = (below, tt)
falls_last bucket n top xs (x ∷ l) e all less below falls =
    (falls.0, falls_last bucket n x.number xs l e all.1 less (let m = all.0.number in omega (arith, m, less)) falls.1)

pub listed : (bucket n : ℕ) (xs : List WorldEntry) → IsListed bucket n xs (reverse (items bucket n xs))
listed bucket n [] = record { each = tt; all = λ k x at h. absurd (let e : ◌≡◌ {A = Option WorldEntry} None (Some x) = at in cc); falls = tt }
listed bucket n (x ∷ xs) =
    let numbered = filter (λ (numbered : ℕ × WorldEntry). is_linked_in bucket numbered.1) (enumerate_from (n + 1) xs) in
    let rest = items bucket (n + 1) xs in
    let was = listed bucket (n + 1) xs in
    let top : n + 1 + length xs ≡ n + length (x ∷ xs) = omega arith in
    let later = one_later bucket n x xs (reverse rest) was.each in
    let falls : Falls (n + length (x ∷ xs)) (reverse rest) = subst (λ (m : ℕ). Falls m (reverse rest)) top was.falls in
    if_case (λ l. IsListed bucket n (x ∷ xs) (reverse (map item l))) (is_linked_in bucket x) ((n, x) ∷ numbered) numbered
    (λ yes_in.
    let is : reverse rest ++ item (n, x) ∷ [] ≡ reverse (item (n, x) ∷ rest) = sym (reverse-append (item (n, x) ∷ []) rest) in
    let first : IsThere bucket n (x ∷ xs) (item (n, x)) = record { k = 0; entry = x; number = omega arith; at = refl; inside = yes_in; text = refl } in
    subst (IsListed bucket n (x ∷ xs)) is (record {
      each = all_last (IsThere bucket n (x ∷ xs)) (reverse rest) (item (n, x)) later first;
      all = all_in rest was yes_in;
      falls = falls_last bucket (n + 1) (n + length (x ∷ xs)) xs (reverse rest) (item (n, x)) was.each (omega arith) (omega arith) falls;
    }))
    (λ out. record {
      each = later;
      all = all_out rest was out;
      falls = falls;
    })
  where
    shifted : (j : ℕ) (l : List Item) → has (numbers l) (n + 1 + j) ≡ true → has (numbers l) (n + suc j) ≡ true
    shifted j l h = let e : n + 1 + j ≡ n + suc j = omega arith in sym (ap (has (numbers l)) e) ∙ h

    all_in : (rest : List Item) → IsListed bucket (n + 1) xs (reverse rest) → is_linked_in bucket x ≡ true → (k : ℕ) (y : WorldEntry) → At (x ∷ xs) k y → is_linked_in bucket y ≡ true → has (numbers (reverse rest ++ item (n, x) ∷ [])) (n + k) ≡ true
    all_in rest was i zero y at h = let e : n ≡ n + 0 = omega arith in has_last (reverse rest) (item (n, x)) (n + 0) e
    all_in rest was i (suc j) y at h = has_before (reverse rest) (item (n, x)) (n + suc j) (shifted j (reverse rest) (was.all j y at h))

    all_out : (rest : List Item) → IsListed bucket (n + 1) xs (reverse rest) → is_linked_in bucket x ≡ false → (k : ℕ) (y : WorldEntry) → At (x ∷ xs) k y → is_linked_in bucket y ≡ true → has (numbers (reverse rest)) (n + k) ≡ true
    all_out rest was out zero y at h = absurd (let e : x ≡ y = cc in let clash : true ≡ false = sym h ∙ ap (is_linked_in bucket) (sym e) ∙ out in cc)
    all_out rest was out (suc j) y at h = shifted j (reverse rest) (was.all j y at h)
