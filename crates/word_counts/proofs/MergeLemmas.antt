-- The counts of lists of words, merged, are those of the words joined.
use Rattle.std.proofs.Common.{◌≡◌, ℕ, ◌+◌, ◌<◌, ◌≤◌, ◌^◌, Bool, true, false, cond, ◌||◌, List, [], ◌∷◌, ◌++◌, length, length-append, drop, take, map, refl, sym, ap, ap₂, append_assoc, append-nil, ◌∙◌, subst, arith, is_eq, is_lt, Ordering, Less, Equal, Greater}
use Rattle.std.specs.Prelude.{Option, Some, None, MatchOption, Result, Ok, Err, IfOk, IsOkAnd, option_to_list, unwrap_or}
use Rattle.std.specs.Cmp.Lexicographic.{bytes_decides, nat_list_eq_equiv, nat_list_cmp_total}
use Rattle.std.specs.List.{All, AllByRecursion, list_any}
use Rattle.std.specs.List.Sorted.{IsStrictlySortedBy}
use Rattle.std.specs.Map.{keys_of, lookup}
use Rattle.std.specs.Ordering.{match_ordering, ordering_reverse}
use Rattle.std.specs.Str.{bytes_eq}
use Rattle.std.proofs.lemmas.List.{map-append, nil_from_length, take-append-drop}
use Rattle.std.proofs.lemmas.List.Elements.{All-cons, All-head, All-tail, All-nil}
use Rattle.std.proofs.lemmas.List.Folds.{list_any-append}
use Rattle.std.proofs.lemmas.List.Sums.{sum_by-append, count_by-le-length}
use Rattle.std.proofs.lemmas.Map.Text.{is_eq-slice_cmp}
use mathlib.Core.Bool.{true≢false}
use Rattle.string_cache.specs.AtomValue.{AtomValue}
use Rattle.word_counts.specs.MergedCounts.{AreCountsOf, AreCountsOfFew, first_order, merged}
use Rattle.word_counts.specs.WordCounts.{counted_texts, distinct_words, word_counts}
use Rattle.word_counts.specs.Words.{times_seen}
use Rattle.word_counts.proofs.WordCountLemmas.{by_bytes, below_later, counts_law, counts_are, found_counts, none_seen}

-- each word of the pairs is above k
abbrev Above : List ℕ → List (List ℕ × ℕ) → Type 0
Above k es = AllByRecursion (λ y. by_bytes k y ≡ Less) (keys_of es)

-- ---- the order

above_merged : (k : List ℕ) (xs ys : List (List ℕ × ℕ)) → Above k xs → Above k ys → Above k (merged xs ys)
above_merged k [] ys f g = g
above_merged k (a ∷ xs) [] f g = f
above_merged k (a ∷ xs) (b ∷ ys) f g =
    let less = above_merged k xs (b ∷ ys) f.1 g in
    let same = above_merged k xs ys f.1 g.1 in
    let more = above_merged k (a ∷ xs) ys f g.1 in
    elim (by_bytes a.0 b.0) as (λ o. Above k (match_ordering o (a ∷ merged xs (b ∷ ys)) ((a.0, a.1 + b.1) ∷ merged xs ys) (b ∷ merged (a ∷ xs) ys))) [
      | Less ↦ (f.0, less)
      | Equal ↦ (f.0, same)
      | Greater ↦ (g.0, more)
    ]

equal_keys : (a b : List ℕ) → by_bytes a b ≡ Equal → a ≡ b
equal_keys a b e = (bytes_decides a b).0 (sym (is_eq-slice_cmp a b) ∙ ap is_eq e)

sorted_merged : (xs ys : List (List ℕ × ℕ)) → IsStrictlySortedBy by_bytes (keys_of xs) → IsStrictlySortedBy by_bytes (keys_of ys) → IsStrictlySortedBy by_bytes (keys_of (merged xs ys))
unfolding IsStrictlySortedBy
sorted_merged [] ys f g = g
sorted_merged (a ∷ xs) [] f g = f
sorted_merged (a ∷ xs) (b ∷ ys) f g =
    let less = sorted_merged xs (b ∷ ys) f.1 g in
    let same = sorted_merged xs ys f.1 g.1 in
    let more = sorted_merged (a ∷ xs) ys f g.1 in
    elim (by_bytes a.0 b.0) as (λ o. by_bytes a.0 b.0 ≡ o → IsStrictlySortedBy by_bytes (keys_of (match_ordering o (a ∷ merged xs (b ∷ ys)) ((a.0, a.1 + b.1) ∷ merged xs ys) (b ∷ merged (a ∷ xs) ys)))) [
      | Less ↦ λ e. (above_merged a.0 xs (b ∷ ys) f.0 (e, below_later a.0 b.0 (keys_of ys) e g.0), less)
      | Equal ↦ λ e. (above_merged a.0 xs ys f.0 (subst (λ k. Above k ys) (sym (equal_keys a.0 b.0 e)) g.0), same)
      | Greater ↦ λ e.
          let under : by_bytes b.0 a.0 ≡ Less = nat_list_cmp_total.antisymm b.0 a.0 ∙ ap ordering_reverse e in
          (above_merged b.0 (a ∷ xs) ys (under, below_later b.0 a.0 (keys_of xs) under f.0) g.0, more)
    ] refl

-- ---- the numbers

-- a number that is there in either, added where it is in both
abbrev plus : Option ℕ → Option ℕ → Option ℕ
plus None o = o
plus (Some m) None = Some m
plus (Some m) (Some n) = Some (m + n)

plus_none : (o : Option ℕ) → plus o None ≡ o
plus_none None = refl
plus_none (Some m) = refl

front_first : (c : Bool) (n : ℕ) (rest fs ys : Option ℕ) → (c ≡ true → ys ≡ None) → rest ≡ plus fs ys → cond c (Some n) rest ≡ plus (cond c (Some n) fs) ys
front_first true n rest fs ys none is = sym (ap (plus (Some n)) (none refl))
front_first false n rest fs ys none is = is

back_first : (c : Bool) (n : ℕ) (rest fs ys : Option ℕ) → (c ≡ true → fs ≡ None) → rest ≡ plus fs ys → cond c (Some n) rest ≡ plus fs (cond c (Some n) ys)
back_first true n rest fs ys none is = sym (ap (λ f. plus f (Some n)) (none refl))
back_first false n rest fs ys none is = is

both_first : (c d : Bool) (m n : ℕ) (rest fs ys : Option ℕ) → c ≡ d → rest ≡ plus fs ys → cond c (Some (m + n)) rest ≡ plus (cond c (Some m) fs) (cond d (Some n) ys)
both_first true true m n rest fs ys same is = refl
both_first true false m n rest fs ys same is = absurd (true≢false same)
both_first false true m n rest fs ys same is = absurd (true≢false (sym same))
both_first false false m n rest fs ys same is = is

-- no word above k is k
absent : (k q : List ℕ) (es : List (List ℕ × ℕ)) → Above k es → bytes_eq q k ≡ true → lookup (bytes_eq q) es ≡ None
absent k q [] h same = refl
absent k q (e ∷ es) h same =
    let other : bytes_eq q e.0 ≡ false = nat_list_eq_equiv.congr q k e.0 same ∙ sym (is_eq-slice_cmp k e.0) ∙ ap is_eq h.0 in
    ap (λ b. cond b (Some e.1) (lookup (bytes_eq q) es)) other ∙ absent k q es h.1 same

lookup_merged : (q : List ℕ) (xs ys : List (List ℕ × ℕ)) → IsStrictlySortedBy by_bytes (keys_of xs) → IsStrictlySortedBy by_bytes (keys_of ys)
    → lookup (bytes_eq q) (merged xs ys) ≡ plus (lookup (bytes_eq q) xs) (lookup (bytes_eq q) ys)
unfolding IsStrictlySortedBy
lookup_merged q [] ys f g = refl
lookup_merged q (a ∷ xs) [] f g = sym (plus_none (lookup (bytes_eq q) (a ∷ xs)))
lookup_merged q (a ∷ xs) (b ∷ ys) f g =
    let less = lookup_merged q xs (b ∷ ys) f.1 g in
    let same = lookup_merged q xs ys f.1 g.1 in
    let more = lookup_merged q (a ∷ xs) ys f g.1 in
    elim (by_bytes a.0 b.0) as (λ o. by_bytes a.0 b.0 ≡ o → lookup (bytes_eq q) (match_ordering o (a ∷ merged xs (b ∷ ys)) ((a.0, a.1 + b.1) ∷ merged xs ys) (b ∷ merged (a ∷ xs) ys)) ≡ plus (lookup (bytes_eq q) (a ∷ xs)) (lookup (bytes_eq q) (b ∷ ys))) [
      | Less ↦ λ e. front_first (bytes_eq q a.0) a.1 _ _ _ (absent a.0 q (b ∷ ys) (e, below_later a.0 b.0 (keys_of ys) e g.0)) less
      | Equal ↦ λ e. both_first (bytes_eq q a.0) (bytes_eq q b.0) a.1 b.1 _ _ _ (ap (bytes_eq q) (equal_keys a.0 b.0 e)) same
      | Greater ↦ λ e.
          let under : by_bytes b.0 a.0 ≡ Less = nat_list_cmp_total.antisymm b.0 a.0 ∙ ap ordering_reverse e in
          back_first (bytes_eq q b.0) b.1 _ _ _ (absent b.0 q (a ∷ xs) (under, below_later b.0 a.0 (keys_of xs) under f.0)) more
    ] refl

-- ---- the counts

plus_found : (a b : Bool) (m n : ℕ) → (a ≡ false → m ≡ 0) → (b ≡ false → n ≡ 0) → plus (cond a (Some m) None) (cond b (Some n) None) ≡ cond (a || b) (Some (m + n)) None
plus_found true true m n f g = refl
plus_found true false m n f g = ap Some (omega (arith, g refl))
plus_found false true m n f g = ap Some (omega (arith, f refl))
plus_found false false m n f g = refl

pub merged_counts : (xs ys : List (List ℕ)) → merged (word_counts xs) (word_counts ys) ≡ word_counts (xs ++ ys)
merged_counts xs ys =
    let front = counts_law xs in
    let back = counts_law ys in
    counts_are (merged (word_counts xs) (word_counts ys)) (xs ++ ys) (sorted_merged (word_counts xs) (word_counts ys) front.in_order back.in_order)
    (λ q. lookup_merged q (word_counts xs) (word_counts ys) front.in_order back.in_order
    ∙ ap (λ o. plus o (lookup (bytes_eq q) (word_counts ys))) (found_counts q xs)
    ∙ ap (λ o. plus (cond (list_any (bytes_eq q) xs) (Some (times_seen xs q)) None) o) (found_counts q ys)
    ∙ plus_found (list_any (bytes_eq q) xs) (list_any (bytes_eq q) ys) (times_seen xs q) (times_seen ys q) (none_seen q xs) (none_seen q ys)
    ∙ ap (λ b. cond b (Some (times_seen xs q + times_seen ys q)) None) (sym (list_any-append (bytes_eq q) xs ys))
    ∙ ap (λ n. cond (list_any (bytes_eq q) (xs ++ ys)) (Some n) None) (sym (sum_by-append (λ (x : List ℕ). cond (bytes_eq q x) 1 0) xs ys)))

-- no number is above that of all words
pub counts_fit : (words : List (List ℕ)) → length words < 2 ^ 63 → All (λ pair. pair.1 < 2 ^ 63) (word_counts words)
counts_fit words small = each (distinct_words words)
  where
    each : (ks : List (List ℕ)) → All (λ (pair : List ℕ × ℕ). pair.1 < 2 ^ 63) (map (λ word. (word, times_seen words word)) ks)
    each [] = All-nil (λ (pair : List ℕ × ℕ). pair.1 < 2 ^ 63)
    each (k ∷ ks) = All-cons (λ (pair : List ℕ × ℕ). pair.1 < 2 ^ 63) (k, times_seen words k) (map (λ word. (word, times_seen words word)) ks) (omega (arith, small, count_by-le-length (bytes_eq k) words)) (each ks)

-- ---- one step

merged_none : (front : List (List ℕ × ℕ)) → merged front [] ≡ front
merged_none [] = refl
merged_none (p ∷ front) = refl

abbrev step : List ℕ × ℕ → List (List ℕ × ℕ) → List ℕ × ℕ → List (List ℕ × ℕ) → Ordering → List (List ℕ × ℕ)
step p front q back o = match_ordering o (p ∷ merged front (q ∷ back)) ((p.0, p.1 + q.1) ∷ merged front back) (q ∷ merged (p ∷ front) back)

first_less : (p : List ℕ × ℕ) (front back : List (List ℕ × ℕ)) → first_order (p ∷ front) back ≡ Less → merged (p ∷ front) back ≡ p ∷ merged front back
first_less p front [] e = ap (λ l. p ∷ l) (sym (merged_none front))
first_less p front (q ∷ back) e = ap (step p front q back) e

-- ---- what is left of a list whose first pair was taken

abbrev Fit : List (AtomValue × ℕ) → Type 0
Fit pairs = All (λ pair. pair.1 < 2 ^ 63) (counted_texts pairs)

pub rest_fits : (old new : List (AtomValue × ℕ)) → new ≡ drop 1 old → Fit old → Fit new
rest_fits [] new rest fit = subst Fit (sym rest) fit
rest_fits (p ∷ old) new rest fit = subst Fit (sym rest) (All-tail (λ (pair : List ℕ × ℕ). pair.1 < 2 ^ 63) (p.0.text, p.1) (counted_texts old) fit)

pub first_fits : (p : AtomValue × ℕ) (old new : List (AtomValue × ℕ)) → old ≡ p ∷ new → Fit old → p.1 < 2 ^ 63
first_fits p old new is fit = All-head (λ (pair : List ℕ × ℕ). pair.1 < 2 ^ 63) (p.0.text, p.1) (counted_texts new) (subst Fit is fit)

-- where nothing was taken, nothing was there
none_first : {A : Type 0} (l : List A) → l ≡ drop 1 l → l ≡ []
none_first [] e = refl
none_first (x ∷ l) e = absurd (omega (arith, ap length e))

pub takes_less : (back : List (List ℕ × ℕ)) (old new : List (AtomValue × ℕ)) (o : Option (AtomValue × ℕ)) → old ≡ option_to_list o ++ new → new ≡ drop 1 old → first_order (counted_texts old) back ≡ Less
    → MatchOption o (merged (counted_texts old) back ≡ []) (λ pair. merged (counted_texts old) back ≡ (pair.0.text, pair.1) ∷ merged (counted_texts new) back)
takes_less back old new None is rest less = absurd (true≢false (sym (ap is_lt less) ∙ ap (λ l. is_lt (first_order (counted_texts l) back)) (none_first old (is ∙ rest))))
takes_less back old new (Some p) is rest less =
    ap (λ l. merged (counted_texts l) back) is ∙ first_less (p.0.text, p.1) (counted_texts new) back (ap (λ l. first_order (counted_texts l) back) (sym is) ∙ less)

-- the pair that comes first goes behind those that are merged
pub merges_one : (done : List (AtomValue × ℕ)) (p : AtomValue × ℕ) (before after whole : List (List ℕ × ℕ)) → before ≡ (p.0.text, p.1) ∷ after → counted_texts done ++ before ≡ whole
    → counted_texts (done ++ (p ∷ [])) ++ after ≡ whole
merges_one done p before after whole is all =
    ap (λ l. l ++ after) (map-append (λ (x : AtomValue × ℕ). (x.0.text, x.1)) done (p ∷ [])) ∙ append_assoc (counted_texts done) ((p.0.text, p.1) ∷ []) after
    ∙ ap (λ l. counted_texts done ++ l) (sym is) ∙ all

-- ---- many lists

-- what holds of some lists and of a further one holds of all
pub gathered : {V C P D E F : Type 0} (items : D → List V) (t : V → C) (w : P → C) (lower : List P) (part : P) (all below : Result D E) (own : Result V F)
    → IfOk all (λ lists. IsOkAnd below (λ before. IsOkAnd own (λ last. items lists ≡ items before ++ (last ∷ [])))) → IfOk below (λ before. map t (items before) ≡ map w lower) → IfOk own (λ last. t last ≡ w part)
    → IfOk all (λ lists. map t (items lists) ≡ map w (lower ++ (part ∷ [])))
gathered items t w lower part (Err e) below own are before last = are
gathered items t w lower part (Ok lists) (Err e) own are before last = absurd are
gathered items t w lower part (Ok lists) (Ok b) (Err f) are before last = absurd are
gathered items t w lower part (Ok lists) (Ok b) (Ok l) are before last =
    ap (map t) are ∙ map-append t (items b) (l ∷ []) ∙ ap₂ ◌++◌ before (ap (λ c. c ∷ []) last) ∙ sym (map-append w lower (part ∷ []))

abbrev FitsHalf : List (List ℕ × ℕ) → Type 0
FitsHalf counts = All (λ pair. pair.1 < 2 ^ 63) counts

two_fit : (done : List (List (List ℕ × ℕ))) (a b : List (List ℕ × ℕ)) (rest : List (List (List ℕ × ℕ))) (ws : List (List ℕ)) → length ws < 2 ^ 63 → AreCountsOf ws (done ++ (a ∷ b ∷ rest)) → FitsHalf a × FitsHalf b
two_fit [] a b rest ws few (p, more, is, first, (q, last, then, second, _)) = (
  subst FitsHalf (sym first) (counts_fit p (omega (arith, few, ap length is, length-append p more))),
  subst FitsHalf (sym second) (counts_fit q (omega (arith, few, ap length is, length-append p more, ap length then, length-append q last))),
)
two_fit (d ∷ done) a b rest ws few (p, more, is, first, others) = two_fit done a b rest more (omega (arith, few, ap length is, length-append p more)) others

two_merged : (done : List (List (List ℕ × ℕ))) (a b : List (List ℕ × ℕ)) (rest : List (List (List ℕ × ℕ))) (ws : List (List ℕ)) → AreCountsOf ws (done ++ (a ∷ b ∷ rest)) → AreCountsOf ws (done ++ (merged a b ∷ rest))
two_merged [] a b rest ws (p, more, is, first, (q, last, then, second, others)) =
    (p ++ q, last, is ∙ ap (λ l. p ++ l) then ∙ sym (append_assoc p q last), ap (λ l. merged l b) first ∙ ap (merged (word_counts p)) second ∙ merged_counts p q, others)
two_merged (d ∷ done) a b rest ws (p, more, is, first, others) = (p, more, is, first, two_merged done a b rest more others)

-- some lists are done, and those at the front of the others come next
module _ {V : Type 0} (t : V → List (List ℕ × ℕ)) (done lists rest : List V) where
  -- the first goes behind those that are done
  pub first_done : (a : V) (ws : List (List ℕ)) → lists ≡ a ∷ rest → AreCountsOf ws (map t done ++ map t lists) → AreCountsOf ws (map t (done ++ (a ∷ [])) ++ map t rest)
  first_done a ws is counts =
      subst (AreCountsOf ws) (ap (λ l. map t done ++ map t l) is ∙ sym (ap (λ l. l ++ map t rest) (map-append t done (a ∷ [])) ∙ append_assoc (map t done) (t a ∷ []) (map t rest))) counts

  -- the first two do, merged
  pub pair_done : (a b c : V) (ws : List (List ℕ)) → lists ≡ a ∷ b ∷ rest → t c ≡ merged (t a) (t b) → AreCountsOf ws (map t done ++ map t lists) → AreCountsOf ws (map t (done ++ (c ∷ [])) ++ map t rest)
  pair_done a b c ws is both counts =
      let two = two_merged (map t done) (t a) (t b) (map t rest) ws (subst (λ l. AreCountsOf ws (map t done ++ map t l)) is counts) in
      subst (AreCountsOf ws) (sym (ap (λ l. l ++ map t rest) (map-append t done (c ∷ [])) ∙ append_assoc (map t done) (t c ∷ []) (map t rest) ∙ ap (λ l. map t done ++ (l ∷ map t rest)) both)) two

  -- and their numbers fit
  pub pair_fits : (a b : V) (all : List (List (List ℕ × ℕ))) → AreCountsOfFew all → ((ws : List (List ℕ)) → AreCountsOf ws all → AreCountsOf ws (map t done ++ map t lists)) → lists ≡ a ∷ b ∷ rest
      → FitsHalf (t a) × FitsHalf (t b)
  pair_fits a b all (ws, few, counts) whole is = two_fit (map t done) (t a) (t b) (map t rest) ws few (subst (λ l. AreCountsOf ws (map t done ++ map t l)) is (whole ws counts))

module _ {V : Type 0} (t : V → List (List ℕ × ℕ)) where
  -- all are done
  pub all_done : (done lists rest : List V) (ws : List (List ℕ)) → lists ≡ rest → rest ≡ drop 1 lists → AreCountsOf ws (map t done ++ map t lists) → AreCountsOf ws (map t done)
  all_done done lists rest ws is left counts =
      subst (AreCountsOf ws) (ap (λ l. map t done ++ map t l) (none_first lists (is ∙ left)) ∙ append-nil (map t done)) counts

  -- one list is left, or none was there
  pub last_counts : (lists rest : List V) (o : Option V) (none : V) (ws : List (List ℕ)) → lists ≡ option_to_list o ++ rest → rest ≡ drop 1 lists → length lists ≤ 1 → t none ≡ [] → AreCountsOf ws (map t lists)
      → t (unwrap_or o none) ≡ word_counts ws
  last_counts lists rest (Some a) none ws is left few nothing counts =
      let one : lists ≡ a ∷ [] = is ∙ ap (λ l. a ∷ l) (nil_from_length rest (omega (arith, few, ap length is))) in
      of_one (subst (λ l. AreCountsOf ws (map t l)) one counts)
    where
      of_one : AreCountsOf ws (t a ∷ []) → t a ≡ word_counts ws
      of_one (p, more, whole, first, ended) = first ∙ ap word_counts (sym (whole ∙ ap (λ l. p ++ l) ended ∙ append-nil p))
  last_counts lists rest None none ws is left few nothing counts =
      nothing ∙ ap word_counts (sym (subst (λ l. AreCountsOf ws (map t l)) (none_first lists (is ∙ left)) counts))

-- ---- the lists in two halves

-- the words are those of some lists and then those of others
abbrev Halves : List (List ℕ) → List (List (List ℕ × ℕ)) → List (List (List ℕ × ℕ)) → Type 0
Halves ws xs ys = (p : List (List ℕ)) × (q : List (List ℕ)) × (ws ≡ p ++ q) × AreCountsOf p xs × AreCountsOf q ys

halves : (xs ys : List (List (List ℕ × ℕ))) (ws : List (List ℕ)) → AreCountsOf ws (xs ++ ys) → Halves ws xs ys
halves [] ys ws counts = ([], ws, refl, refl, counts)
halves (x ∷ xs) ys ws (part, rest, is, first, others) = behind (halves xs ys rest others)
  where
    behind : Halves rest xs ys → Halves ws (x ∷ xs) ys
    behind (p, q, both, front, back) = (part ++ p, q, is ∙ ap (λ l. part ++ l) both ∙ sym (append_assoc part p q), (part, p, refl, first, front), back)

few_halves : (xs ys : List (List (List ℕ × ℕ))) (ws : List (List ℕ)) → length ws < 2 ^ 63 → Halves ws xs ys → AreCountsOfFew xs × AreCountsOfFew ys
few_halves xs ys ws few (p, q, both, front, back) = (
  (p, omega (arith, few, ap length both, length-append p q), front),
  (q, omega (arith, few, ap length both, length-append p q), back),
)

counts_of_halves : (xs ys : List (List (List ℕ × ℕ))) (a b c : List (List ℕ × ℕ)) (ws : List (List ℕ)) → Halves ws xs ys → ((p : List (List ℕ)) → AreCountsOf p xs → a ≡ word_counts p)
    → ((q : List (List ℕ)) → AreCountsOf q ys → b ≡ word_counts q) → c ≡ merged a b → c ≡ word_counts ws
counts_of_halves xs ys a b c ws (p, q, both, front, back) of_front of_back is =
    is ∙ ap (λ l. merged l b) (of_front p front) ∙ ap (merged (word_counts p)) (of_back q back) ∙ merged_counts p q ∙ ap word_counts (sym both)

-- the numbers of lists that are so few fit once these are one
pub few_fit : (xs : List (List (List ℕ × ℕ))) (a : List (List ℕ × ℕ)) → AreCountsOfFew xs → ((ws : List (List ℕ)) → AreCountsOf ws xs → a ≡ word_counts ws) → FitsHalf a
few_fit xs a (ws, few, counts) is = subst FitsHalf (sym (is ws counts)) (counts_fit ws few)

module _ {V : Type 0} (t : V → List (List ℕ × ℕ)) (n : ℕ) (lists front back : List V) where
  cut : front ≡ take n lists → back ≡ drop n lists → map t lists ≡ map t front ++ map t back
  cut first rest = ap (map t) (sym (take-append-drop n lists) ∙ sym (ap₂ ◌++◌ first rest)) ∙ map-append t front back

  pub both_few : front ≡ take n lists → back ≡ drop n lists → AreCountsOfFew (map t lists) → AreCountsOfFew (map t front) × AreCountsOfFew (map t back)
  both_few first rest (ws, few, counts) = few_halves (map t front) (map t back) ws few (halves (map t front) (map t back) ws (subst (AreCountsOf ws) (cut first rest) counts))

  pub both_counts : (a b c : List (List ℕ × ℕ)) (ws : List (List ℕ)) → front ≡ take n lists → back ≡ drop n lists → AreCountsOf ws (map t lists) → ((p : List (List ℕ)) → AreCountsOf p (map t front) → a ≡ word_counts p)
      → ((q : List (List ℕ)) → AreCountsOf q (map t back) → b ≡ word_counts q) → c ≡ merged a b → c ≡ word_counts ws
  both_counts a b c ws first rest counts = counts_of_halves (map t front) (map t back) a b c ws (halves (map t front) (map t back) ws (subst (AreCountsOf ws) (cut first rest) counts))
