-- The counts of words: their order, their members and their total; and what determines them.
use Rattle.std.proofs.Common.{◌≡◌, ℕ, ◌+◌, ◌<◌, Bool, T, true, false, cond, ◌||◌, ◌&&◌, List, [], ◌∷◌, length, map, refl, sym, ap, ◌∙◌, subst, arith, ◌↔◌, BTreeMap, HashMap, is_eq, is_lt, Ordering, Less, Equal, Greater}
use Rattle.std.specs.Prelude.{Option, Some, None, Result, Ok, Err, IfOk, unwrap_or}
use Rattle.std.specs.BTreeMap.{IsFromIterResult}
use Rattle.std.specs.FinMap.Entries.{same_entries, find, is_sorted, below_all}
use Rattle.std.specs.BTreeSet.{insert_key}
use Rattle.std.specs.Cmp.{eq_by_cmp_equiv, IsTotalOrder}
use Rattle.std.specs.Cmp.Lexicographic.{slice_cmp, bytes_decides, nat_list_eq_equiv, nat_list_cmp_total, on_texts}
use Rattle.std.specs.List.{All, AllByRecursion, Contains, IsDistinct, list_any, sum, sum_by}
use Rattle.std.specs.List.Sorted.{IsStrictlySortedBy}
use Rattle.std.specs.Map.{keys_of, values_of, lookup}
use Rattle.std.specs.Option.{option_map, IfSome}
use Rattle.std.specs.Ordering.{nat_cmp, match_ordering, eq_by_cmp, ordering_reverse}
use Rattle.std.specs.Str.{bytes_eq}
use Rattle.std.proofs.lemmas.List.Elements.{All-head, All-tail, All-cons, All-nil}
use Rattle.std.proofs.lemmas.List.Sums.{sum_by-cons}
use Rattle.std.proofs.lemmas.Map.Keys.{IsDistinct-head, IsDistinct-tail, IsDistinct-from_sorted}
use Rattle.std.proofs.lemmas.Map.Lookups.{exact_bytes}
use Rattle.std.proofs.lemmas.Map.Made.{update_all_none, is_member-Decides}
use Rattle.std.proofs.lemmas.Map.Text.{is_eq-slice_cmp}
use Rattle.string_cache.specs.AtomValue.{AtomValue}
use mathlib.Core.Bool.{true≢false}
use denote.Ref.{Bor}
use Rattle.word_counts.specs.Tally.{IsTallyOf}
use Rattle.word_counts.specs.WordCounts.{distinct_words, word_counts, AreWordCounts, counted_texts}
use Rattle.word_counts.specs.Words.{times_seen}
use Rattle.word_counts.proofs.TallyLemmas.{same_word, IsOwn, number_in}

abbrev pub by_bytes : List ℕ → List ℕ → Ordering
by_bytes a b = slice_cmp nat_cmp a b

-- ---- the distinct words

all_below : (x k : List ℕ) (ks : List (List ℕ)) → by_bytes x k ≡ Less → AllByRecursion (λ y. by_bytes x y ≡ Less) ks → AllByRecursion (λ y. by_bytes x y ≡ Less) (insert_key by_bytes ks k)
all_below x k [] less h = (less, tt)
all_below x k (y ∷ ys) less h =
    let later = all_below x k ys less h.1 in
    elim (by_bytes k y) as (λ o. AllByRecursion (λ z. by_bytes x z ≡ Less) (match_ordering o (k ∷ y ∷ ys) (y ∷ ys) (y ∷ insert_key by_bytes ys k))) [
      | Less ↦ (less, h)
      | Equal ↦ h
      | Greater ↦ (h.0, later)
    ]

pub below_later : (k x : List ℕ) (ks : List (List ℕ)) → by_bytes k x ≡ Less → AllByRecursion (λ y. by_bytes x y ≡ Less) ks → AllByRecursion (λ y. by_bytes k y ≡ Less) ks
below_later k x [] less h = tt
below_later k x (y ∷ ys) less h = (nat_list_cmp_total.trans k x y less h.0, below_later k x ys less h.1)

sorted_insert : (ks : List (List ℕ)) (k : List ℕ) → IsStrictlySortedBy by_bytes ks → IsStrictlySortedBy by_bytes (insert_key by_bytes ks k)
unfolding IsStrictlySortedBy
sorted_insert [] k h = (tt, tt)
sorted_insert (x ∷ xs) k h =
    let later = sorted_insert xs k h.1 in
    elim (by_bytes k x) as (λ o. by_bytes k x ≡ o → IsStrictlySortedBy by_bytes (match_ordering o (k ∷ x ∷ xs) (x ∷ xs) (x ∷ insert_key by_bytes xs k))) [
      | Less ↦ λ e. ((e, below_later k x xs e h.0), h)
      | Equal ↦ λ e. h
      | Greater ↦ λ e. (all_below x k xs (nat_list_cmp_total.antisymm x k ∙ ap ordering_reverse e) h.0, later)
    ] refl

pub sorted_words : (words : List (List ℕ)) → IsStrictlySortedBy by_bytes (distinct_words words)
unfolding IsStrictlySortedBy
sorted_words [] = tt
sorted_words (w ∷ words) = sorted_insert (distinct_words words) w (sorted_words words)

either : (a b c : Bool) → (a || (b || c)) ≡ (b || (a || c))
either true true c = refl
either true false c = refl
either false b c = refl

absorbs : (a b : Bool) → (a || b) ≡ (a || (a || b))
absorbs true b = refl
absorbs false b = refl

member_insert : (q k : List ℕ) (ks : List (List ℕ)) → list_any (bytes_eq q) (insert_key by_bytes ks k) ≡ (bytes_eq q k || list_any (bytes_eq q) ks)
member_insert q k [] = refl
member_insert q k (x ∷ xs) =
    let later = member_insert q k xs in
    elim (by_bytes k x) as (λ o. by_bytes k x ≡ o → list_any (bytes_eq q) (match_ordering o (k ∷ x ∷ xs) (x ∷ xs) (x ∷ insert_key by_bytes xs k)) ≡ (bytes_eq q k || (bytes_eq q x || list_any (bytes_eq q) xs))) [
      | Less ↦ λ e. refl
      | Equal ↦ λ e.
          let same : k ≡ x = (bytes_decides k x).0 (sym (is_eq-slice_cmp k x) ∙ ap is_eq e) in
          absorbs (bytes_eq q x) (list_any (bytes_eq q) xs) ∙ ap (λ w. bytes_eq q w || (bytes_eq q x || list_any (bytes_eq q) xs)) (sym same)
      | Greater ↦ λ e. ap (λ b. bytes_eq q x || b) later ∙ either (bytes_eq q x) (bytes_eq q k) (list_any (bytes_eq q) xs)
    ] refl

pub member_words : (q : List ℕ) (words : List (List ℕ)) → list_any (bytes_eq q) (distinct_words words) ≡ list_any (bytes_eq q) words
member_words q [] = refl
member_words q (w ∷ words) = member_insert q w (distinct_words words) ∙ ap (λ b. bytes_eq q w || b) (member_words q words)

-- ---- the counts

abbrev with_numbers : List (List ℕ) → List (List ℕ) → List (List ℕ × ℕ)
with_numbers words ks = map (λ word. (word, times_seen words word)) ks

keys_stay : (words ks : List (List ℕ)) → keys_of (with_numbers words ks) ≡ ks
keys_stay words [] = refl
keys_stay words (k ∷ ks) = ap (λ l. k ∷ l) (keys_stay words ks)

lookup_with : (q : List ℕ) (words ks : List (List ℕ)) → lookup (bytes_eq q) (with_numbers words ks) ≡ cond (list_any (bytes_eq q) ks) (Some (times_seen words q)) None
lookup_with q words [] = refl
lookup_with q words (k ∷ ks) =
    let later = lookup_with q words ks in
    elim (bytes_eq q k) as (λ b. bytes_eq q k ≡ b → cond b (Some (times_seen words k)) (lookup (bytes_eq q) (with_numbers words ks)) ≡ cond (b || list_any (bytes_eq q) ks) (Some (times_seen words q)) None) [
      | true ↦ λ e. ap (λ w. Some (times_seen words w)) (sym ((bytes_decides q k).0 e))
      | false ↦ λ e. later
    ] refl

pub found_counts : (q : List ℕ) (words : List (List ℕ)) → lookup (bytes_eq q) (word_counts words) ≡ cond (list_any (bytes_eq q) words) (Some (times_seen words q)) None
found_counts q words = lookup_with q words (distinct_words words) ∙ ap (λ b. cond b (Some (times_seen words q)) None) (member_words q words)

-- ---- their law

both : (P Q : Type 0) (a b : Bool) → (a ≡ true → P) × (P → a ≡ true) → (b ≡ true → Q) × (Q → b ≡ true) → a ≡ b → P ↔ Q
both P Q a b da db same = (λ p. db.0 (sym same ∙ da.1 p), λ q. da.0 (same ∙ db.1 q))

no_share : (w x : List ℕ) → bytes_eq x w ≡ true → (ks : List (List ℕ)) → AllByRecursion (λ y. is_eq (by_bytes x y) ≡ false) ks → list_any (bytes_eq w) ks ≡ false
no_share w x same [] h = refl
no_share w x same (k ∷ ks) h =
    let other : bytes_eq w k ≡ false = sym (nat_list_eq_equiv.congr x w k same) ∙ sym (is_eq-slice_cmp x k) ∙ h.0 in
    ap (λ b. b || list_any (bytes_eq w) ks) other ∙ no_share w x same ks h.1

abbrev share : List ℕ → List ℕ → ℕ
share w k = cond (bytes_eq k w) 1 0

neither : (a b : Bool) → (a || b) ≡ false → (a ≡ false) × (b ≡ false)
neither true b e = absurd (true≢false e)
neither false b e = (refl, e)

no_shares : (w : List ℕ) (ks : List (List ℕ)) → list_any (bytes_eq w) ks ≡ false → sum_by (share w) ks ≡ 0
no_shares w [] h = refl
no_shares w (k ∷ ks) h =
    let parts = neither (bytes_eq w k) (list_any (bytes_eq w) ks) h in
    sum_by-cons (share w) k ks ∙ ap (λ c. cond c 1 0 + sum_by (share w) ks) (nat_list_eq_equiv.symm k w ∙ parts.0) ∙ ap (λ n. 0 + n) (no_shares w ks parts.1)

one_share : (w : List ℕ) (ks : List (List ℕ)) → IsDistinct (eq_by_cmp by_bytes) ks → list_any (bytes_eq w) ks ≡ true → sum_by (share w) ks ≡ 1
one_share w [] d h = absurd (true≢false (sym h))
one_share w (k ∷ ks) d h =
    let rest = one_share w ks (IsDistinct-tail (eq_by_cmp by_bytes) k ks d) in
    let turned = nat_list_eq_equiv.symm k w in
    sum_by-cons (share w) k ks ∙ elim (bytes_eq w k) as (λ a. bytes_eq w k ≡ a → (a || list_any (bytes_eq w) ks) ≡ true → share w k + sum_by (share w) ks ≡ 1) [
      | true ↦ λ same e.
          ap (λ c. cond c 1 0 + sum_by (share w) ks) (turned ∙ same)
          ∙ ap (λ n. 1 + n) (no_shares w ks (no_share w k (turned ∙ same) ks (IsDistinct-head (eq_by_cmp by_bytes) k ks d)))
      | false ↦ λ same e. ap (λ c. cond c 1 0 + sum_by (share w) ks) (turned ∙ same) ∙ ap (λ n. 0 + n) (rest e)
    ] refl h

shares_seen : (w : List ℕ) (words ks : List (List ℕ)) → sum_by (λ k. times_seen (w ∷ words) k) ks ≡ sum_by (share w) ks + sum_by (λ k. times_seen words k) ks
shares_seen w words [] = refl
shares_seen w words (k ∷ ks) =
    omega (
      arith,
      sum_by-cons (λ (x : List ℕ). times_seen (w ∷ words) x) k ks,
      sum_by-cons (share w) k ks,
      sum_by-cons (λ (x : List ℕ). times_seen words x) k ks,
      sum_by-cons (λ (x : List ℕ). cond (bytes_eq k x) 1 0) w words,
      shares_seen w words ks,
    )

nothing_seen : (ks : List (List ℕ)) → sum_by (λ k. times_seen [] k) ks ≡ 0
nothing_seen [] = refl
nothing_seen (k ∷ ks) = sum_by-cons (λ (x : List ℕ). times_seen [] x) k ks ∙ ap (λ n. 0 + n) (nothing_seen ks)

all_seen : (words ks : List (List ℕ)) → IsDistinct (eq_by_cmp by_bytes) ks → AllByRecursion (λ w. list_any (bytes_eq w) ks ≡ true) words → sum_by (λ k. times_seen words k) ks ≡ length words
all_seen [] ks d h = nothing_seen ks
all_seen (w ∷ words) ks d h = shares_seen w words ks ∙ ap (λ n. n + sum_by (λ k. times_seen words k) ks) (one_share w ks d h.0) ∙ ap (λ n. 1 + n) (all_seen words ks d h.1) ∙ omega arith

or_right : (a b : Bool) → b ≡ true → (a || b) ≡ true
or_right true b e = refl
or_right false b e = e

listed : (all rest : List (List ℕ)) → ((q : List ℕ) → list_any (bytes_eq q) rest ≡ true → list_any (bytes_eq q) all ≡ true) → AllByRecursion (λ w. list_any (bytes_eq w) (distinct_words all) ≡ true) rest
listed all [] sub = tt
listed all (w ∷ rest) sub = (
  member_words w all ∙ sub w (ap (λ b. b || list_any (bytes_eq w) rest) (nat_list_eq_equiv.refl w)),
  listed all rest (λ q e. sub q (or_right (bytes_eq q w) (list_any (bytes_eq q) rest) e)),
)

values_with : (words ks : List (List ℕ)) → sum (values_of (with_numbers words ks)) ≡ sum_by (λ k. times_seen words k) ks
values_with words [] = refl
values_with words (k ∷ ks) =
    sum_by-cons (λ (x : ℕ). x) (times_seen words k) (values_of (with_numbers words ks)) ∙ ap (λ n. times_seen words k + n) (values_with words ks)
    ∙ sym (sum_by-cons (λ (x : List ℕ). times_seen words x) k ks)

places_with : (words ks : List (List ℕ)) → All (λ pair. pair.1 ≡ times_seen words pair.0) (with_numbers words ks)
places_with words [] = All-nil (λ (pair : List ℕ × ℕ). pair.1 ≡ times_seen words pair.0)
places_with words (k ∷ ks) = All-cons (λ (pair : List ℕ × ℕ). pair.1 ≡ times_seen words pair.0) (k, times_seen words k) (with_numbers words ks) refl (places_with words ks)

pub counts_law : (words : List (List ℕ)) → AreWordCounts words (word_counts words)
counts_law words =
    let ks = distinct_words words in
    record {
      in_order = subst (IsStrictlySortedBy by_bytes) (sym (keys_stay words ks)) (sorted_words words);
      member = λ word.
          subst (λ l. Contains l word ↔ Contains words word) (sym (keys_stay words ks))
          (both (Contains ks word) (Contains words word) (list_any (bytes_eq word) ks) (list_any (bytes_eq word) words)
          (is_member-Decides bytes_decides ks word) (is_member-Decides bytes_decides words word) (member_words word words));
      places = places_with words ks;
      total = values_with words ks ∙ all_seen words ks (IsDistinct-from_sorted by_bytes ks (sorted_words words)) (listed words words (λ q e. e));
    }

-- ---- what determines them

pub none_seen : (q : List ℕ) (words : List (List ℕ)) → list_any (bytes_eq q) words ≡ false → times_seen words q ≡ 0
none_seen q [] h = refl
none_seen q (w ∷ words) h =
    let parts = neither (bytes_eq q w) (list_any (bytes_eq q) words) h in
    sum_by-cons (λ (x : List ℕ). cond (bytes_eq q x) 1 0) w words ∙ ap (λ c. cond c 1 0 + times_seen words q) parts.0 ∙ ap (λ n. 0 + n) (none_seen q words parts.1)

some_seen : (q : List ℕ) (words : List (List ℕ)) → list_any (bytes_eq q) words ≡ true → 0 < times_seen words q
some_seen q [] h = absurd (true≢false (sym h))
some_seen q (w ∷ words) h =
    let rest = some_seen q words in
    subst (λ n. 0 < n) (sym (sum_by-cons (λ (x : List ℕ). cond (bytes_eq q x) 1 0) w words))
    (elim (bytes_eq q w) as (λ a. (a || list_any (bytes_eq q) words) ≡ true → 0 < cond a 1 0 + times_seen words q) [
      | true ↦ λ e. omega arith
      | false ↦ λ e. omega (arith, rest e)
    ] h)

-- a number that is there is above zero, so it is there just where the word was seen
found_is : (o : Option ℕ) (q : List ℕ) (words : List (List ℕ)) → IfSome o (λ n. 0 < n) → unwrap_or o 0 ≡ times_seen words q
    → o ≡ cond (list_any (bytes_eq q) words) (Some (times_seen words q)) None
found_is o q words positive is = by o (list_any (bytes_eq q) words) positive is refl
  where
    by : (o : Option ℕ) (b : Bool) → IfSome o (λ n. 0 < n) → unwrap_or o 0 ≡ times_seen words q → list_any (bytes_eq q) words ≡ b → o ≡ cond b (Some (times_seen words q)) None
    by None true p e m = absurd (omega (arith, e, some_seen q words m))
    by None false p e m = refl
    by (Some n) true p e m = ap Some e
    by (Some n) false p e m = absurd (omega (arith, p, e, none_seen q words m))

-- the library's own words for order and look-up
by_order : (q : List ℕ) (es : List (List ℕ × ℕ)) → find by_bytes q es ≡ lookup (bytes_eq q) es
by_order q [] = refl
by_order q (e ∷ es) = rw (is_eq-slice_cmp q e.0, by_order q es) refl

rising : (es : List (List ℕ × ℕ)) → IsStrictlySortedBy by_bytes (keys_of es) → T (is_sorted by_bytes es)
unfolding IsStrictlySortedBy
rising [] h = tt
rising (e ∷ es) h = subst T (sym (above e.0 es h.0)) (rising es h.1)
  where
    above : (k : List ℕ) (fs : List (List ℕ × ℕ)) → AllByRecursion (λ y. by_bytes k y ≡ Less) (keys_of fs) → (below_all by_bytes k fs && is_sorted by_bytes es) ≡ is_sorted by_bytes es
    above k [] h = refl
    above k (f ∷ fs) h = ap (λ o. (is_lt o && below_all by_bytes k fs) && is_sorted by_bytes es) h.0 ∙ above k fs h.1

pub counts_are : (counts : List (List ℕ × ℕ)) (words : List (List ℕ)) → IsStrictlySortedBy by_bytes (keys_of counts)
    → ((q : List ℕ) → lookup (bytes_eq q) counts ≡ cond (list_any (bytes_eq q) words) (Some (times_seen words q)) None) → counts ≡ word_counts words
counts_are counts words ordered found =
    same_entries by_bytes nat_list_cmp_total exact_bytes counts (word_counts words) (rising counts ordered)
    (rising (word_counts words) (subst (IsStrictlySortedBy by_bytes) (sym (keys_stay words (distinct_words words))) (sorted_words words)))
    (λ q. by_order q counts ∙ found q ∙ sym (found_counts q words) ∙ sym (by_order q (word_counts words)))

-- ---- the pairs of a tally, in order

abbrev pub by_texts : AtomValue → AtomValue → Ordering
by_texts a b = slice_cmp nat_cmp a.text b.text

-- an atom of the text
abbrev of_text : List ℕ → AtomValue
of_text text = record { text = text; word = 0; bits = None }

lookup_texts : (es : List (AtomValue × ℕ)) (text : List ℕ) → lookup (bytes_eq text) (counted_texts es) ≡ lookup (λ atom. is_eq (by_texts (of_text text) atom)) es
lookup_texts [] text = refl
lookup_texts (e ∷ es) text = rw (lookup_texts es text, is_eq-slice_cmp text e.0.text) refl

sorted_texts : (es : List (AtomValue × ℕ)) → IsStrictlySortedBy by_texts (keys_of es) → IsStrictlySortedBy by_bytes (keys_of (counted_texts es))
unfolding IsStrictlySortedBy
sorted_texts [] h = tt
sorted_texts (e ∷ es) h = (below e.0 es h.0, sorted_texts es h.1)
  where
    below : (a : AtomValue) (xs : List (AtomValue × ℕ)) → AllByRecursion (λ b. by_texts a b ≡ Less) (keys_of xs)
        → AllByRecursion (λ b. by_bytes a.text b ≡ Less) (keys_of (counted_texts xs))
    below a [] h = tt
    below a (x ∷ xs) h = (h.0, below a xs h.1)

-- the entries' own texts, found by their words
lookup_own : (es : List (Bor (List ℕ) × (AtomValue × ℕ))) → All IsOwn es → (q : List ℕ)
    → lookup (λ atom. is_eq (by_texts (of_text q) atom)) (values_of es) ≡ option_map (λ found. found.1) (lookup (λ key. bytes_eq q key.now) es)
lookup_own [] own q = refl
lookup_own (e ∷ es) own q =
    ap (λ b. cond b (Some e.1.1) (lookup (λ atom. is_eq (by_texts (of_text q) atom)) (values_of es))) (is_eq-slice_cmp q e.1.0.text ∙ ap (bytes_eq q) (All-head IsOwn e es own).0)
    ∙ ap (λ o. cond (bytes_eq q e.0.now) (Some e.1.1) o) (lookup_own es (All-tail IsOwn e es own) q)
    ∙ by (bytes_eq q e.0.now)
  where
    by : (b : Bool) → cond b (Some e.1.1) (option_map (λ found. found.1) (lookup (λ key. bytes_eq q key.now) es)) ≡ option_map (λ found. found.1) (cond b (Some e.1) (lookup (λ key. bytes_eq q key.now) es))
    by true = refl
    by false = refl

distinct_own : (es : List (Bor (List ℕ) × (AtomValue × ℕ))) → All IsOwn es → IsDistinct same_word (keys_of es) → IsDistinct (eq_by_cmp by_texts) (keys_of (values_of es))
unfolding IsDistinct
distinct_own [] own d = tt
distinct_own (e ∷ es) own d = (apart es (All-tail IsOwn e es own) d.0, distinct_own es (All-tail IsOwn e es own) d.1)
  where
    apart : (fs : List (Bor (List ℕ) × (AtomValue × ℕ))) → All IsOwn fs → AllByRecursion (λ key. same_word e.0 key ≡ false) (keys_of fs)
        → AllByRecursion (λ atom. is_eq (by_texts e.1.0 atom) ≡ false) (keys_of (values_of fs))
    apart [] o h = tt
    apart (f ∷ fs) o h =
        (rw (is_eq-slice_cmp e.1.0.text f.1.0.text, (All-head IsOwn e es own).0, (All-head IsOwn f fs o).0) h.0, apart fs (All-tail IsOwn f fs o) h.1)

positive_own : (es : List (Bor (List ℕ) × (AtomValue × ℕ))) → All IsOwn es → (q : List ℕ) → IfSome (option_map (λ found. found.1) (lookup (λ key. bytes_eq q key.now) es)) (λ n. 0 < n)
positive_own [] own q = tt
positive_own (e ∷ es) own q =
    let rest = positive_own es (All-tail IsOwn e es own) q in
    elim (bytes_eq q e.0.now) as (λ b. IfSome (option_map (λ found. found.1) (cond b (Some e.1) (lookup (λ key. bytes_eq q key.now) es))) (λ n. 0 < n)) [
      | true ↦ (All-head IsOwn e es own).1
      | false ↦ rest
    ]

as_number : (o : Option (AtomValue × ℕ)) → unwrap_or (option_map (λ found. found.1) o) 0 ≡ number_in o
as_number None = refl
as_number (Some v) = refl

module _ {S : Type 0} where
  pub pairs_are : (tally : HashMap (Bor (List ℕ)) (AtomValue × ℕ) S) (m : BTreeMap AtomValue ℕ) (words : List (List ℕ)) → IsTallyOf words tally
      → IsFromIterResult by_texts (values_of tally.entries) m → counted_texts m.entries ≡ word_counts words
  pairs_are tally m words is made =
      let own = is.labelled.own in
      let distinct = distinct_own tally.entries own is.labelled.distinct in
      let total : IsTotalOrder by_texts = on_texts (λ (a : AtomValue). a.text) in
      counts_are (counted_texts m.entries) words (sorted_texts m.entries made.1)
      (λ q. lookup_texts m.entries q ∙ made.0 (of_text q)
      ∙ update_all_none (eq_by_cmp_equiv total) (eq_by_cmp by_texts) (λ x y. refl) (values_of tally.entries) (of_text q) distinct
      ∙ lookup_own tally.entries own q
      ∙ found_is (option_map (λ found. found.1) (lookup (λ key. bytes_eq q key.now) tally.entries)) q words (positive_own tally.entries own q)
      (as_number (lookup (λ key. bytes_eq q key.now) tally.entries) ∙ is.numbers q))

pub if_ok_map : {A E : Type 0} {P Q : A → Type 0} → ((a : A) → P a → Q a) → (r : Result A E) → IfOk r P → IfOk r Q
if_ok_map f (Ok a) h = f a h
if_ok_map f (Err e) h = h

pub if_ok_both : {A E : Type 0} {P Q S : A → Type 0} → ((a : A) → P a → Q a → S a) → (r : Result A E) → IfOk r P → IfOk r Q → IfOk r S
if_ok_both f (Ok a) h k = f a h k
if_ok_both f (Err e) h k = h
