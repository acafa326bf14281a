-- An index of cells by their hashes finds each of them, and stays one when a cell is put in or taken out.
use Rattle.std.proofs.Common.{◌≡◌, ◌≢◌, ◌⊎◌, inl, inr, ℕ, zero, suc, ◌+◌, ◌-◌, ◌<◌, ◌≤◌, List, [], ◌∷◌, ◌++◌, map, length, take, drop, get_or, Option, option_map, Some, slice_get, set, refl, ap, sym, ◌∙◌, subst, arith}
use Rattle.std.specs.List.Sorted.{IsPermutation}
use Rattle.std.proofs.Math.Seq.{take-append_seam}
use Rattle.std.proofs.lemmas.Bool.{cases_eq, cases_lt}
use Rattle.std.proofs.lemmas.List.{length-set}
use Rattle.std.proofs.lemmas.List.Sorted.{IsPermutation-refl, IsPermutation-cons, IsPermutation-trans, IsPermutation-middle, length_permutation}
use Rattle.std.proofs.lemmas.Option.{slice_get-map, slice_get_read, slice_get-get_or, get_or_from_slice_get}
use Rattle.counted_cell.specs.Cell.{Cell}
use Rattle.named_set.specs.Places.{HasCell, HaveHash, IsNew, cells_in, short_hash}
use Rattle.named_set.specs.Slots.{ArePassed, EndsAbove, IsFree, IsFreePlace, IsIndex, IsPlaced, IsTaken, cell_at, reach}
use Rattle.named_set.specs.declared.slots.Slot.{Slot}
use Rattle.named_set.specs.declared.slots.Slot.TheVariants.{Empty, Gone, Full}

-- the cells of an index
abbrev pub cells_of : List Slot → List Cell
cells_of slots = cells_in (map cell_at slots)

-- from the place where a hash belongs down to this one, none is empty
abbrev pub AreTaken : List Slot → (below short : ℕ) → Type 0
AreTaken slots below short = (j : ℕ) (s : Slot) → below ≤ j → j < reach (length slots) short → slice_get slots j ≡ Some s → IsTaken s

-- nor is there a cell of the text
abbrev pub HaveNone : List Slot → (below short : ℕ) (text : List ℕ) → Type 0
HaveNone slots below short text = (j : ℕ) (c : Cell) → below ≤ j → slice_get slots j ≡ Some (Full short c) → c.text ≢ text

pub none_more : (slots : List Slot) (below at short : ℕ) (text : List ℕ) → at + 1 ≡ below → ((c : Cell) → slice_get slots at ≡ Some (Full short c) → c.text ≢ text) → HaveNone slots below short text → HaveNone slots at short text
none_more slots below at short text next here before j c le there = elim (cases_eq at j) [
  | inl same ↦ here c (subst (λ i. slice_get slots i ≡ Some (Full short c)) (sym same) there)
  | inr other ↦ before j c (omega arith) there
]

pub reach_within : (places short : ℕ) → reach places short ≤ places
reach_within places short = omega arith

-- what is read at a place stands there
pub read : (slots : List Slot) (below at short : ℕ) (s t : Slot) → at + 1 ≡ below → below ≤ reach (length slots) short → s ≡ get_or slots at s → s ≡ t → slice_get slots at ≡ Some t
read slots below at short s t next le is same = slice_get_read slots (length slots) at s refl (omega (arith, reach_within (length slots) short)) is ∙ ap (λ (u : Slot). Some u) same

pub stands_full : (slots : List Slot) (at short : ℕ) (c : Cell) → slice_get slots at ≡ Some (Full short c) → HasCell (map cell_at slots) at c
stands_full slots at short c there = slice_get-map cell_at slots at ∙ ap (option_map cell_at) there

-- a cell of the hash stands below the place where it belongs, or there
pub none_yet : (multiplier : ℕ) (slots : List Slot) (places below short : ℕ) (text : List ℕ) → IsIndex multiplier slots → places ≡ length slots → below ≡ reach places short → (below ≤ reach (length slots) short) × HaveNone slots below short text
none_yet multiplier slots places below short text index same is =
    let one : below ≡ reach (length slots) short = is ∙ ap (λ n. reach n short) same in
    (omega (arith, one), λ j c le there is_text. let lt = (index j short c there).below in omega (arith, one, lt))

-- each cell of an index stands at a place
pub cell_place : (slots : List Slot) (i : ℕ) (c : Cell) → slice_get (cells_of slots) i ≡ Some c → (at : ℕ) × (short : ℕ) × (slice_get slots at ≡ Some (Full short c))
cell_place [] i c at = absurd (cc at)
cell_place (Empty ∷ slots) i c at = let r = cell_place slots i c at in (suc r.0, r.1, r.2)
cell_place (Gone ∷ slots) i c at = let r = cell_place slots i c at in (suc r.0, r.1, r.2)
cell_place (Full short d ∷ slots) zero c at = let same : d ≡ c = cc at in (zero, short, ap (λ (e : Cell). Some (Full short e)) same)
cell_place (Full short d ∷ slots) (suc i) c at = let r = cell_place slots i c at in (suc r.0, r.1, r.2)

-- no cell of the hash stands below
abbrev pub Ends : List Slot → (below short : ℕ) → Type 0
Ends slots below short = (k : ℕ) (c : Cell) → k < below → slice_get slots k ≡ Some (Full short c) → ArePassed slots k short → ⊥

pub ends_zero : (slots : List Slot) (below short : ℕ) → below ≤ 0 → Ends slots below short
ends_zero slots below short none k c lt there passed = omega arith

pub ends_empty : (slots : List Slot) (below at short : ℕ) → at + 1 ≡ below → below ≤ reach (length slots) short → slice_get slots at ≡ Some Empty → Ends slots below short
ends_empty slots below at short next le empty k c lt there passed = elim (cases_eq at k) [
  | inl same ↦ cc (same, empty, there)
  | inr other ↦ passed at Empty (omega arith) (omega arith) empty
]

-- a look that ends there has come by at each cell of the text
pub none_found : (multiplier : ℕ) (slots : List Slot) (below short hash : ℕ) (text : List ℕ) → IsIndex multiplier slots → HaveHash text hash (cells_of slots) → short ≡ short_hash multiplier hash → HaveNone slots below short text → Ends slots below short → IsNew text (cells_of slots)
none_found multiplier slots below short hash text index have is none ends i c at same =
    let r = cell_place slots i c at in
    let placed = index r.0 r.1 c r.2 in
    let one : r.1 ≡ short = placed.hash ∙ (ap (short_hash multiplier) (have i c at same) ∙ sym is) in
    let there : slice_get slots r.0 ≡ Some (Full short c) = subst (λ s. slice_get slots r.0 ≡ Some (Full s c)) one r.2 in
    elim (cases_lt r.0 below) [
      | inl lt ↦ ends r.0 c lt there (subst (ArePassed slots r.0) one placed.passed)
      | inr le ↦ none r.0 c le there same
    ]

-- what stands at a place after one was written there or at another
pub get_set : {A : Type 0} (xs : List A) (at j : ℕ) (x y : A) → slice_get (set xs at x) j ≡ Some y → ((j ≡ at) × (x ≡ y)) ⊎ (slice_get xs j ≡ Some y)
get_set [] at j x y there = absurd (cc there)
get_set (z ∷ xs) zero zero x y there = inl (refl, cc there)
get_set (z ∷ xs) zero (suc j) x y there = inr there
get_set (z ∷ xs) (suc at) zero x y there = inr there
get_set (z ∷ xs) (suc at) (suc j) x y there = further (get_set xs at j x y there)
  where
    further : ((j ≡ at) × (x ≡ y)) ⊎ (slice_get xs j ≡ Some y) → ((suc j ≡ suc at) × (x ≡ y)) ⊎ (slice_get xs j ≡ Some y)
    further (inl a) = inl (ap suc a.0, a.1)
    further (inr b) = inr b

-- a place that is taken after a write passes each look that passed there before
taken_set : (slots : List Slot) (to at short : ℕ) (s : Slot) → IsTaken s → ArePassed slots at short → ArePassed (set slots to s) at short
taken_set slots to at short s taken passed j t gt lt there = elim (get_set slots to j s t there) [
  | inl new ↦ subst IsTaken new.1 taken
  | inr old ↦ passed j t gt (subst (λ n. j < reach n short) (length-set slots to s) lt) old
]

placed_set : (multiplier : ℕ) (slots : List Slot) (to at short : ℕ) (s : Slot) (c : Cell) → ArePassed (set slots to s) at short → IsPlaced multiplier slots at short c → IsPlaced multiplier (set slots to s) at short c
placed_set multiplier slots to at short s c passed placed =
    record { hash = placed.hash; below = subst (λ n. at < reach n short) (sym (length-set slots to s)) placed.below; passed = passed }

-- a cell that is put at a free place
put_index : (multiplier : ℕ) (slots : List Slot) (to short : ℕ) (c : Cell) → IsIndex multiplier slots → IsFreePlace slots to short → short ≡ short_hash multiplier c.label.hash → IsIndex multiplier (set slots to (Full short c))
put_index multiplier slots to short c index place hash at other d there = elim (get_set slots to at (Full short c) (Full other d) there) [
  | inl new ↦
      let is : short ≡ other = cc (new.1) in
      let one : c ≡ d = cc (new.1) in
      let placed : IsPlaced multiplier slots to short c = record { hash = hash; below = place.below; passed = place.passed } in
      let all = placed_set multiplier slots to to short (Full short c) c (taken_set slots to to short (Full short c) tt place.passed) placed in
      subst (λ i. IsPlaced multiplier (set slots to (Full short c)) i other d) (sym new.0)
      (subst (λ i. IsPlaced multiplier (set slots to (Full short c)) to i d) is (subst (λ (e : Cell). IsPlaced multiplier (set slots to (Full short c)) to short e) one all))
  | inr old ↦
      let placed = index at other d old in
      placed_set multiplier slots to at other (Full short c) d (taken_set slots to at other (Full short c) tt placed.passed) placed
]

-- the cells of an index with one more, at a free place
put_cells : (slots : List Slot) (to short : ℕ) (s : Slot) (c : Cell) → slice_get slots to ≡ Some s → IsFree s → IsPermutation (c ∷ cells_of slots) (cells_of (set slots to (Full short c)))
put_cells [] to short s c there free = absurd (cc there)
put_cells (Empty ∷ slots) zero short s c there free = IsPermutation-refl (c ∷ cells_of slots)
put_cells (Gone ∷ slots) zero short s c there free = IsPermutation-refl (c ∷ cells_of slots)
put_cells (Full other d ∷ slots) zero short s c there free = let same : s ≡ Full other d = cc there in absurd (subst IsFree same free)
put_cells (Empty ∷ slots) (suc to) short s c there free = put_cells slots to short s c there free
put_cells (Gone ∷ slots) (suc to) short s c there free = put_cells slots to short s c there free
put_cells (Full other d ∷ slots) (suc to) short s c there free =
    IsPermutation-trans (c ∷ (d ∷ cells_of slots)) (d ∷ (c ∷ cells_of slots)) (d ∷ cells_of (set slots to (Full short c)))
    (IsPermutation-middle (c ∷ []) d (cells_of slots)) (IsPermutation-cons d (c ∷ cells_of slots) (cells_of (set slots to (Full short c))) (put_cells slots to short s c there free))

-- there are no more cells than places
pub cells_fit : (slots : List Slot) → length (cells_of slots) ≤ length slots
cells_fit [] = omega arith
cells_fit (Empty ∷ slots) = omega (arith, cells_fit slots)
cells_fit (Gone ∷ slots) = omega (arith, cells_fit slots)
cells_fit (Full short c ∷ slots) = omega (arith, cells_fit slots)

-- so a free place is a place for one cell more
put_fits : (slots : List Slot) (to short : ℕ) (c : Cell) → IsFreePlace slots to short → (length (cells_of slots) + 1 ≡ length (cells_of (set slots to (Full short c)))) × (length (cells_of slots) + 1 ≤ length slots)
put_fits slots to short c place =
    let more = length_permutation (c ∷ cells_of slots) (cells_of (set slots to (Full short c))) (put_cells slots to short place.slot c place.stands place.free) in
    let fit = cells_fit (set slots to (Full short c)) in
    (omega (arith, more), omega (arith, more, fit, length-set slots to (Full short c)))

-- what an index is with a cell more
pub record IsMore (slots new : List Slot) (short : ℕ) (c : Cell) : Type 0 where
  pub index : (multiplier : ℕ) → IsIndex multiplier slots → short ≡ short_hash multiplier c.label.hash → IsIndex multiplier new
  pub cells : IsPermutation (c ∷ cells_of slots) (cells_of new)
  pub count : length (cells_of slots) + 1 ≡ length (cells_of new)
  pub fits : length (cells_of slots) + 1 ≤ length slots
  pub places : length new ≡ length slots

-- a cell was put at a free place
abbrev pub IsPut : (slots new : List Slot) (short : ℕ) → Cell → Type 0
IsPut slots new short c = (at : ℕ) × IsFreePlace slots at short × (new ≡ set slots at (Full short c))

-- which makes it such a one
pub put_more : (slots row new : List Slot) (short : ℕ) (c : Cell) → row ≡ slots → IsPut row new short c → IsMore slots new short c
put_more slots row new short c same put =
    let place = put.1 in
    let fits = put_fits row put.0 short c place in
    let more : IsMore row (set row put.0 (Full short c)) short c = record {
      index = λ multiplier index hash. put_index multiplier row put.0 short c index place hash;
      cells = put_cells row put.0 short place.slot c place.stands place.free;
      count = fits.0;
      fits = fits.1;
      places = length-set row put.0 (Full short c);
    } in
    subst (λ (before : List Slot). IsMore before new short c) same (subst (λ (after : List Slot). IsMore row after short c) (sym put.2) more)

-- places that were lent as a whole are what they were written to
pub written : (new old : List Slot) (n : ℕ) → n ≡ length new → new ≡ take n (new ++ drop (length new) old)
written new old n is = subst (λ k. new ≡ take k (new ++ drop (length new) old)) (sym is) (sym (take-append_seam new (drop (length new) old)))

-- a cell that is taken out leaves a place that is gone
pub take_gone : (multiplier : ℕ) (slots : List Slot) (to : ℕ) → IsIndex multiplier slots → IsIndex multiplier (set slots to Gone)
take_gone multiplier slots to index at short c there = elim (get_set slots to at Gone (Full short c) there) [
  | inl new ↦ absurd (cc (new.1))
  | inr old ↦ let placed = index at short c old in placed_set multiplier slots to at short Gone c (taken_set slots to at short Gone tt placed.passed) placed
]

-- or one that is empty, if no look goes on below it
pub take_empty : (multiplier : ℕ) (slots : List Slot) (to : ℕ) → IsIndex multiplier slots → EndsAbove slots to → IsIndex multiplier (set slots to Empty)
take_empty multiplier slots to index ends at short c there = elim (get_set slots to at Empty (Full short c) there) [
  | inl new ↦ absurd (cc (new.1))
  | inr old ↦ let placed = index at short c old in placed_set multiplier slots to at short Empty c (passed_by placed old) placed
]
  where
    -- the place below the one that was written is empty, and the cell doesn't stand there, nor below
    below_empty : IsPlaced multiplier slots at short c → slice_get slots at ≡ Some (Full short c) → at < to → to < reach (length slots) short → ⊥
    below_empty placed old lt within =
        let inside : to - 1 < length slots = omega (arith, reach_within (length slots) short, within) in
        let found = slice_get-get_or slots (to - 1) (Full short c) inside in
        let empty = ends (to - 1) (get_or slots (to - 1) (Full short c)) (omega arith) found in
        let stands : slice_get slots (to - 1) ≡ Some Empty = found ∙ ap (λ (s : Slot). Some s) empty in
        ends_empty slots to (to - 1) short (omega arith) (omega arith) stands at c lt old placed.passed

    passed_by : IsPlaced multiplier slots at short c → slice_get slots at ≡ Some (Full short c) → ArePassed (set slots to Empty) at short
    passed_by placed old j s gt lt here =
        let within : j < reach (length slots) short = subst (λ n. j < reach n short) (length-set slots to Empty) lt in
        elim (get_set slots to j Empty s here) [
          | inl new ↦ absurd (below_empty placed old (omega (arith, new.0)) (omega (arith, new.0)))
          | inr was ↦ placed.passed j s gt within was
        ]

-- the cells of an index without one
pub take_cells : (slots : List Slot) (to short : ℕ) (s : Slot) (c : Cell) → slice_get slots to ≡ Some (Full short c) → IsFree s → IsPermutation (cells_of slots) (c ∷ cells_of (set slots to s))
take_cells [] to short s c there free = absurd (cc there)
take_cells (t ∷ slots) zero short Empty c there free = let same : Full short c ≡ t = cc there in subst (λ (u : Slot). IsPermutation (cells_of (u ∷ slots)) (c ∷ cells_of slots)) same (IsPermutation-refl (c ∷ cells_of slots))
take_cells (t ∷ slots) zero short Gone c there free = let same : Full short c ≡ t = cc there in subst (λ (u : Slot). IsPermutation (cells_of (u ∷ slots)) (c ∷ cells_of slots)) same (IsPermutation-refl (c ∷ cells_of slots))
take_cells (t ∷ slots) zero short (Full other d) c there free = absurd free
take_cells (Empty ∷ slots) (suc to) short s c there free = take_cells slots to short s c there free
take_cells (Gone ∷ slots) (suc to) short s c there free = take_cells slots to short s c there free
take_cells (Full other d ∷ slots) (suc to) short s c there free =
    IsPermutation-trans (d ∷ cells_of slots) (d ∷ (c ∷ cells_of (set slots to s))) (c ∷ (d ∷ cells_of (set slots to s)))
    (IsPermutation-cons d (cells_of slots) (c ∷ cells_of (set slots to s)) (take_cells slots to short s c there free)) (IsPermutation-middle (d ∷ []) c (cells_of (set slots to s)))

-- what may stand where a cell was taken out
abbrev pub IsLeft : List Slot → (to : ℕ) → Slot → Type 0
IsLeft slots to s = (s ≡ Gone) ⊎ ((s ≡ Empty) × EndsAbove slots to)

left_free : (slots : List Slot) (to : ℕ) (s : Slot) → IsLeft slots to s → IsFree s
left_free slots to s (inl gone) = subst IsFree (sym gone) tt
left_free slots to s (inr empty) = subst IsFree (sym empty.0) tt

take_index : (multiplier : ℕ) (slots : List Slot) (to : ℕ) (s : Slot) → IsIndex multiplier slots → IsLeft slots to s → IsIndex multiplier (set slots to s)
take_index multiplier slots to s index (inl gone) = subst (λ (t : Slot). IsIndex multiplier (set slots to t)) (sym gone) (take_gone multiplier slots to index)
take_index multiplier slots to s index (inr empty) = subst (λ (t : Slot). IsIndex multiplier (set slots to t)) (sym empty.0) (take_empty multiplier slots to index empty.1)

pub take_keeps : (multiplier : ℕ) (slots : List Slot) (to short cells : ℕ) (s : Slot) (c : Cell) → IsIndex multiplier slots → cells ≡ length (cells_of slots) → slice_get slots to ≡ Some (Full short c) → IsLeft slots to s
    → IsIndex multiplier (set slots to s) × (cells - 1 ≡ length (cells_of (set slots to s)))
take_keeps multiplier slots to short cells s c index count there left =
    let less = length_permutation (cells_of slots) (c ∷ cells_of (set slots to s)) (take_cells slots to short s c there (left_free slots to s left)) in
    (take_index multiplier slots to s index left, omega (arith, count, less))

-- where a cell stands, a slot is full
full_stands : (slots : List Slot) (at : ℕ) (c : Cell) → HasCell (map cell_at slots) at c → (short : ℕ) × (slice_get slots at ≡ Some (Full short c))
full_stands [] at c there = absurd (cc there)
full_stands (Empty ∷ slots) zero c there = absurd (cc there)
full_stands (Gone ∷ slots) zero c there = absurd (cc there)
full_stands (Full short d ∷ slots) zero c there = let same : d ≡ c = cc there in (short, ap (λ (e : Cell). Some (Full short e)) same)
full_stands (s ∷ slots) (suc at) c there = full_stands slots at c there

pub cell_stands : (slots : List Slot) (places : List (Option Cell)) (at : ℕ) (c : Cell) → map cell_at slots ≡ places → HasCell places at c → (short : ℕ) × (slice_get slots at ≡ Some (Full short c))
cell_stands slots places at c is there = full_stands slots at c (subst (λ (v : List (Option Cell)). HasCell v at c) (sym is) there)

-- what is read there is that slot
pub reads_full : (slots : List Slot) (at short : ℕ) (c : Cell) (s : Slot) → slice_get slots at ≡ Some (Full short c) → s ≡ get_or slots at s → s ≡ Full short c
reads_full slots at short c s there is = is ∙ get_or_from_slice_get slots at (Full short c) s there

-- so there is a cell
pub cell_counts : (slots : List Slot) (at short : ℕ) (c : Cell) → slice_get slots at ≡ Some (Full short c) → 1 ≤ length (cells_of slots)
cell_counts slots at short c there =
    let more = length_permutation (cells_of slots) (c ∷ cells_of (set slots at Gone)) (take_cells slots at short Gone c there tt) in
    omega (arith, more)
