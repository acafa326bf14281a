-- A text goes, and the last one comes in its place.
use Rattle.std.proofs.Common.{◌≡◌, ◌≢◌, ◌∙◌, ap, sym, subst, refl, arith, ℕ, suc, zero, ◌+◌, ◌-◌, ◌^◌, ◌<◌, ◌≤◌, ◌⊎◌, inl, inr, List, [], ◌∷◌, length, map, take, set, None, Some, true≢false}
use Rattle.std.specs.Prelude.{slice_get, slice_index, String, string_bytes, ◌==◌, slice_index_or}
use Rattle.std.specs.List.{swap_remove, sum_by}
use Rattle.std.specs.Option.{option_map}
use Rattle.std.specs.Map.{lookup, update}
use Rattle.std.specs.Str.{bytes_eq}
use Rattle.std.specs.String.{string_eq}
use Rattle.std.specs.HashMap.{HashMap, Updates}
use Rattle.std.proofs.lemmas.Bool.{eqb-true, eq-eqb, cases_Bool}
use Rattle.std.proofs.lemmas.List.{length-take, length-map}
use Rattle.std.proofs.lemmas.List.Sums.{sum_by-swap_remove}
use Rattle.std.proofs.lemmas.Option.{slice_get-map, slice_get-get_or, slice_get_past, slice_get_within, get_or_from_slice_get, same_Some, none-some}
use Rattle.indexmap.proofs.MapLemmas.{swap_remove-default}
use Rattle.indexmap.proofs.SetLemmas.{map-swap_remove}
use Rattle.text_forms.specs.Map.{Holding}
use Rattle.text_forms.specs.Tables.{Tables}
use Rattle.interner_table.specs.Kept.{Pair, pairs_of, tickets_of, IsGiven, IsKeptTable}
use Rattle.interner_table.proofs.kept.Pairs.{at-pairs, updates-pairs}

-- ys is xs, whose last element, at n, came to the place `at` and left its own
pub record Swapped {X : Type 0} (xs ys : List X) (at n : ℕ) : Type 0 where
  pub moved : at < n → slice_get ys at ≡ slice_get xs n
  pub kept : (j : ℕ) → j ≢ at → j < n → slice_get ys j ≡ slice_get xs j
  pub past : (j : ℕ) → n ≤ j → slice_get ys j ≡ None

module _ {X : Type 0} where
  take-in : (xs : List X) (n j : ℕ) → j < n → slice_get (take n xs) j ≡ slice_get xs j
  take-in [] zero j h = refl
  take-in [] (suc n) j h = refl
  take-in (x ∷ xs) zero j h = absurd (omega arith)
  take-in (x ∷ xs) (suc n) zero h = refl
  take-in (x ∷ xs) (suc n) (suc j) h = take-in xs n j (omega arith)

  set-same : (xs : List X) (i : ℕ) (y : X) → i < length xs → slice_get (set xs i y) i ≡ Some y
  set-same [] i y h = absurd (omega arith)
  set-same (x ∷ xs) zero y h = refl
  set-same (x ∷ xs) (suc i) y h = set-same xs i y (omega arith)

  set-other : (xs : List X) (i j : ℕ) (y : X) → j ≢ i → slice_get (set xs i y) j ≡ slice_get xs j
  set-other [] i j y h = refl
  set-other (x ∷ xs) zero zero y h = absurd (h refl)
  set-other (x ∷ xs) zero (suc j) y h = refl
  set-other (x ∷ xs) (suc i) zero y h = refl
  set-other (x ∷ xs) (suc i) (suc j) y h = set-other xs i j y (λ e. h (ap suc e))

  pub swapped : (xs : List X) (at n : ℕ) (d : X) → at < length xs → n + 1 ≡ length xs → Swapped xs (swap_remove xs at d) at n
  swapped xs at n d within e =
      let last : length xs - 1 ≡ n = omega arith in
      subst (λ k. Swapped xs (take k (set xs at (slice_index_or xs k d))) at n) (sym last) (record {
        moved = λ h. take-in (set xs at (slice_index_or xs n d)) n at h ∙ set-same xs at (slice_index_or xs n d) within ∙ sym (slice_get-get_or xs n d (omega arith));
        kept = λ j apart h. take-in (set xs at (slice_index_or xs n d)) n j h ∙ set-other xs at j (slice_index_or xs n d) apart;
        past = λ j h. slice_get_past (take n (set xs at (slice_index_or xs n d))) j (let l = length-take n (set xs at (slice_index_or xs n d)) in omega (arith, l, h));
      })

pub map-swapped : {X A : Type 0} (f : X → A) (xs ys : List X) (at n : ℕ) → Swapped xs ys at n → Swapped (map f xs) (map f ys) at n
map-swapped f xs ys at n s = record {
  moved = λ h. slice_get-map f ys at ∙ ap (option_map f) (s.moved h) ∙ sym (slice_get-map f xs n);
  kept = λ j apart h. slice_get-map f ys j ∙ ap (option_map f) (s.kept j apart h) ∙ sym (slice_get-map f xs j);
  past = λ j h. slice_get-map f ys j ∙ ap (option_map f) (s.past j h);
}

-- what stands anywhere afterwards, stood somewhere before
pub from-where : {X : Type 0} (xs ys : List X) (at n : ℕ) → Swapped xs ys at n → (j : ℕ) (x : X) → slice_get ys j ≡ Some x
    → (j < n) × (((j ≢ at) × (slice_get xs j ≡ Some x)) ⊎ ((j ≡ at) × (slice_get xs n ≡ Some x)))
from-where xs ys at n s j x h = (
  inside,
  elim (cases_Bool (j == at)) [
    | inl same ↦ let e = eqb-true j at same in inr (e, sym (s.moved (subst (λ (k : ℕ). k < n) e inside)) ∙ ap (slice_get ys) (sym e) ∙ h)
    | inr apart ↦ let ne : j ≢ at = λ e. true≢false (sym (eq-eqb j at e) ∙ apart) in inl (ne, sym (s.kept j ne inside) ∙ h)
  ],
)
  where
    inside : j < n
    inside = elim (below j n) [
      | inl less ↦ less
      | inr more ↦ absurd (none-some _ (sym (s.past j more) ∙ h))
    ]
      where
        below : (a b : ℕ) → (a < b) ⊎ (b ≤ a)
        below zero zero = inr (omega arith)
        below zero (suc b) = inl (omega arith)
        below (suc a) zero = inr (omega arith)
        below (suc a) (suc b) = elim (below a b) [
          | inl l ↦ inl (omega arith)
          | inr m ↦ inr (omega arith)
        ]

module _ {Y S : Type 0} (t : Tables) (lasts : List ℕ) (m n : HashMap (String Y) Holding S) (tickets left : List ℕ) (bytes at ticket : ℕ) (taken : String Y × Holding)
    (entry : slice_get m.entries at ≡ Some taken) (entries : n.entries ≡ swap_remove m.entries at taken) (len : length n.entries + 1 ≡ length m.entries)
    (removed : left ≡ swap_remove tickets at ticket) {bits : ℕ} (kept : IsKeptTable t bits lasts (pairs_of m.entries) tickets bytes) where
  pairs-swapped : Swapped (pairs_of m.entries) (pairs_of n.entries) at (length n.entries)
  pairs-swapped = map-swapped (λ e. (string_bytes e.0, e.1)) m.entries n.entries at (length n.entries)
      (subst (λ es. Swapped m.entries es at (length n.entries)) (sym entries) (swapped m.entries at (length n.entries) taken (slice_get_within m.entries at taken entry) len))

  stays : (P : Pair → Type 0) → ((j : ℕ) (pair : Pair) → slice_get (pairs_of m.entries) j ≡ Some pair → P pair) → (j : ℕ) (pair : Pair) → slice_get (pairs_of n.entries) j ≡ Some pair → P pair
  stays P all j pair h = elim (from-where (pairs_of m.entries) (pairs_of n.entries) at (length n.entries) pairs-swapped j pair h).1 [
    | inl old ↦ all j pair old.1
    | inr new ↦ all (length n.entries) pair new.1
  ]

  abbrev gone : Pair
  gone = (string_bytes taken.0, taken.1)

  some-pairs : 0 < length (pairs_of m.entries)
  some-pairs = let same = length-map {B = Pair} m.entries (λ (e : String Y × Holding). (string_bytes e.0, e.1)) in omega (arith, len, same)

  pairs-left : pairs_of n.entries ≡ swap_remove (pairs_of m.entries) at gone
  pairs-left = ap pairs_of entries ∙ map-swap_remove (λ (e : String Y × Holding). (string_bytes e.0, e.1)) m.entries at taken (omega (arith, len))

  some-tickets : 0 < length (tickets_of (pairs_of m.entries))
  some-tickets = let same = length-map (pairs_of m.entries) (λ (pair : Pair). pair.1.ticket) in let some = some-pairs in omega (arith, some, same)

  tickets-left : left ≡ tickets_of (pairs_of n.entries)
  tickets-left = removed ∙ ap (λ ts. swap_remove ts at ticket) kept.index
      ∙ swap_remove-default (tickets_of (pairs_of m.entries)) at ticket gone.1.ticket some-tickets
      ∙ sym (map-swap_remove (λ (pair : Pair). pair.1.ticket) (pairs_of m.entries) at gone some-pairs) ∙ ap tickets_of (sym pairs-left)

  -- the last ticket came in its place, or it was the last
  pub order-left : (own : ℕ) → tickets_of (pairs_of n.entries) ≡ swap_remove (tickets_of (pairs_of m.entries)) at own
  order-left own = sym tickets-left ∙ removed ∙ ap (λ ts. swap_remove ts at ticket) kept.index ∙ swap_remove-default (tickets_of (pairs_of m.entries)) at ticket own some-tickets

  there : slice_get (pairs_of m.entries) at ≡ Some gone
  there = at-pairs m.entries at taken.0 taken.1 entry

  bytes-left : sum_by (λ (pair : Pair). length pair.0) (pairs_of n.entries) + length (string_bytes taken.0) ≡ bytes
  bytes-left = ap (λ ps. sum_by (λ (pair : Pair). length pair.0) ps + length (string_bytes taken.0)) pairs-left
      ∙ ap (λ (pair : Pair). sum_by (λ (pair : Pair). length pair.0) (swap_remove (pairs_of m.entries) at gone) + length pair.0) (sym (get_or_from_slice_get (pairs_of m.entries) at gone gone there))
      ∙ sum_by-swap_remove (λ (pair : Pair). length pair.0) (pairs_of m.entries) at gone (slice_get_within (pairs_of m.entries) at gone there) ∙ sym kept.counted

  -- its bytes were counted
  pub bytes-there : length (string_bytes taken.0) ≤ bytes
  bytes-there = let sum = bytes-left in omega (arith, sum)

  pub kept-taken : IsKeptTable t bits lasts (pairs_of n.entries) left (bytes - length (string_bytes taken.0))
  kept-taken = record {
    buckets = kept.buckets;
    few = kept.few;
    given = stays (λ pair. IsGiven t (length lasts) (slice_index lasts) pair.0 pair.1) kept.given;
    short = stays (λ pair. length pair.0 < 2 ^ 64) kept.short;
    index = tickets-left;
    counted = (let sum = bytes-left in omega (arith, sum));
  }

-- what it does to the look-ups
pub taken-map : {Y S : Type 0} (m n : HashMap (String Y) Holding S) (at : ℕ) (taken : String Y × Holding) (pair : Pair) → slice_get m.entries at ≡ Some taken → slice_get (pairs_of m.entries) at ≡ Some pair
    → Updates string_eq m n taken.0 None → (q : List ℕ) → lookup (bytes_eq q) (pairs_of n.entries) ≡ update bytes_eq (λ t. lookup (bytes_eq t) (pairs_of m.entries)) pair.0 None q
taken-map m n at taken pair entry there updates q =
    updates-pairs m n (string_bytes taken.0) None updates q
    ∙ ap (λ t. update bytes_eq (λ t. lookup (bytes_eq t) (pairs_of m.entries)) t None q) (ap (λ (x : Pair). x.0) (same_Some _ _ (sym (at-pairs m.entries at taken.0 taken.1 entry) ∙ there)))
