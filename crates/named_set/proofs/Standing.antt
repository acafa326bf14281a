-- Which cells stand at places.
use Rattle.std.proofs.Common.{◌≡◌, ℕ, zero, suc, ◌+◌, ◌≤◌, List, [], ◌∷◌, ◌++◌, length, length-append, map, replicate, Option, Some, None, slice_get, refl, ap, sym, ◌∙◌, subst, arith}
use Rattle.std.specs.List.Sorted.{IsPermutation}
use Rattle.std.proofs.lemmas.List.{append-nil, append_assoc, map-append}
use Rattle.std.proofs.lemmas.List.Sorted.{IsPermutation-append_right, IsPermutation-trans}
use Rattle.counted_cell.specs.Cell.{Cell}
use Rattle.named_set.specs.Places.{HasCell, cells_in, short_hash}
use Rattle.named_set.specs.Slots.{HaveShorts, IsIndex, cell_at}
use Rattle.named_set.specs.declared.slots.Slot.{Slot}
use Rattle.named_set.specs.declared.slots.Slot.TheVariants.{Empty, Gone, Full}
use Rattle.named_set.proofs.Finding.{get_left, get_right}

-- a cell that stands at a place is one of the cells
pub cell_stands : (places : List (Option Cell)) (at : ℕ) (c : Cell) → HasCell places at c → (k : ℕ) × (slice_get (cells_in places) k ≡ Some c)
cell_stands [] at c here = absurd (cc here)
cell_stands (None ∷ places) zero c here = absurd (cc here)
cell_stands (Some d ∷ places) zero c here = let same : d ≡ c = cc here in (zero, ap (λ (e : Cell). Some e) same)
cell_stands (None ∷ places) (suc at) c here = cell_stands places at c here
cell_stands (Some d ∷ places) (suc at) c here = let r = cell_stands places at c here in (suc r.0, r.1)

-- and each of the cells stands at a place
pub cell_place : (places : List (Option Cell)) (k : ℕ) (c : Cell) → slice_get (cells_in places) k ≡ Some c → (at : ℕ) × HasCell places at c
cell_place [] k c here = absurd (cc here)
cell_place (None ∷ places) k c here = let r = cell_place places k c here in (suc r.0, r.1)
cell_place (Some d ∷ places) zero c here = let same : d ≡ c = cc here in (zero, ap (λ (e : Cell). Some (Some e)) same)
cell_place (Some d ∷ places) (suc k) c here = let r = cell_place places k c here in (suc r.0, r.1)

-- those of two rows of places are those of both
pub cells_append : (xs ys : List (Option Cell)) → cells_in (xs ++ ys) ≡ cells_in xs ++ cells_in ys
cells_append [] ys = refl
cells_append (None ∷ xs) ys = cells_append xs ys
cells_append (Some c ∷ xs) ys = ap (λ cs. c ∷ cs) (cells_append xs ys)

-- cells that stand beside each other are all of them
pub cells_some : (cs : List Cell) → cells_in (map (λ c. Some c) cs) ≡ cs
cells_some [] = refl
cells_some (c ∷ cs) = ap (λ ds. c ∷ ds) (cells_some cs)

-- there are no more cells than places
pub cells_few : (places : List (Option Cell)) → length (cells_in places) ≤ length places
cells_few [] = omega arith
cells_few (None ∷ places) = omega (arith, cells_few places)
cells_few (Some c ∷ places) = omega (arith, cells_few places)

-- with cells that stand beside each other, behind
pub cells_both : (places : List (Option Cell)) (cs : List Cell) → cells_in (places ++ map (λ c. Some c) cs) ≡ cells_in places ++ cs
cells_both places cs = cells_append places (map (λ c. Some c) cs) ∙ ap (λ ds. cells_in places ++ ds) (cells_some cs)

pub moved_both : (p q : List (Option Cell)) (cs ds : List Cell) → IsPermutation (cells_in p ++ cs) (cells_in q ++ ds) → IsPermutation (cells_in (p ++ map (λ c. Some c) cs)) (cells_in (q ++ map (λ c. Some c) ds))
moved_both p q cs ds moved = subst (λ xs. IsPermutation xs (cells_in (q ++ map (λ c. Some c) ds))) (sym (cells_both p cs)) (subst (IsPermutation (cells_in p ++ cs)) (sym (cells_both q ds)) moved)

pub added_both : (p q : List (Option Cell)) (cs ds : List Cell) (x : Cell) → IsPermutation (x ∷ (cells_in p ++ cs)) (cells_in q ++ ds) → IsPermutation (x ∷ cells_in (p ++ map (λ c. Some c) cs)) (cells_in (q ++ map (λ c. Some c) ds))
added_both p q cs ds x added = subst (λ xs. IsPermutation (x ∷ xs) (cells_in (q ++ map (λ c. Some c) ds))) (sym (cells_both p cs)) (subst (IsPermutation (x ∷ (cells_in p ++ cs))) (sym (cells_both q ds)) added)

pub taken_both : (p q : List (Option Cell)) (cs ds : List Cell) (x : Cell) → IsPermutation (cells_in p ++ cs) (x ∷ (cells_in q ++ ds)) → IsPermutation (cells_in (p ++ map (λ c. Some c) cs)) (x ∷ cells_in (q ++ map (λ c. Some c) ds))
taken_both p q cs ds x taken = subst (λ xs. IsPermutation xs (x ∷ cells_in (q ++ map (λ c. Some c) ds))) (sym (cells_both p cs)) (subst (λ xs. IsPermutation (cells_in p ++ cs) (x ∷ xs)) (sym (cells_both q ds)) taken)

-- one of them stands there
pub some_stands : (cs : List Cell) (k : ℕ) (c : Cell) → slice_get cs k ≡ Some c → HasCell (map (λ d. Some d) cs) k c
some_stands [] k c at = absurd (cc at)
some_stands (d ∷ cs) zero c at = ap (λ (o : Option Cell). Some o) at
some_stands (d ∷ cs) (suc k) c at = some_stands cs k c at

-- places that are empty have no cells, and are an index
empty_cells : (n : ℕ) → cells_in (map cell_at (replicate n Empty)) ≡ []
empty_cells zero = refl
empty_cells (suc n) = empty_cells n

none_full : (n at short : ℕ) (c : Cell) → slice_get (replicate n Empty) at ≡ Some (Full short c) → ⊥
none_full zero at short c here = cc here
none_full (suc n) zero short c here = cc here
none_full (suc n) (suc at) short c here = none_full n at short c here

pub empty_index : (multiplier n : ℕ) (row : List Slot) → row ≡ replicate n Empty → IsIndex multiplier row × (cells_in (map cell_at row) ≡ [])
empty_index multiplier n row is = subst (λ (slots : List Slot). IsIndex multiplier slots × (cells_in (map cell_at slots) ≡ [])) (sym is) (λ at short c here. absurd (none_full n at short c here), empty_cells n)

-- the cells of places with one more, behind
pub more_places : (slots : List Slot) (s : Slot) → cells_in (map cell_at (slots ++ s ∷ [])) ≡ cells_in (map cell_at slots) ++ cells_in (cell_at s ∷ [])
more_places slots s = ap cells_in (map-append cell_at slots (s ∷ [])) ∙ cells_append (map cell_at slots) (cell_at s ∷ [])

popped : (slots rest : List Slot) (s : Slot) → slots ≡ rest ++ s ∷ [] → cells_in (map cell_at slots) ≡ cells_in (map cell_at rest) ++ cells_in (cell_at s ∷ [])
popped slots rest s is = ap (λ (t : List Slot). cells_in (map cell_at t)) is ∙ more_places rest s

-- the last one has a cell
pub popped_full : (slots rest : List Slot) (short : ℕ) (x : Cell) → slots ≡ rest ++ Full short x ∷ [] → cells_in (map cell_at slots) ≡ cells_in (map cell_at rest) ++ x ∷ []
popped_full slots rest short x is = popped slots rest (Full short x) is

-- or none
pub popped_free : (slots rest : List Slot) (s : Slot) → ((short : ℕ) (x : Cell) → s ≡ Full short x → ⊥) → slots ≡ rest ++ s ∷ [] → cells_in (map cell_at slots) ≡ cells_in (map cell_at rest)
popped_free slots rest Empty free is = popped slots rest Empty is ∙ append-nil (cells_in (map cell_at rest))
popped_free slots rest Gone free is = popped slots rest Gone is ∙ append-nil (cells_in (map cell_at rest))
popped_free slots rest (Full short x) free is = absurd (free short x refl)

-- so there is one less in front
pub counts_last : (xs zs : List Cell) (x : Cell) → xs ≡ zs ++ x ∷ [] → length xs ≡ length zs + 1
counts_last xs zs x is = ap length is ∙ length-append zs (x ∷ [])

-- and the last of the first goes to the others
pub moved_last : (all xs zs : List Cell) (x : Cell) (ys ws : List Cell) → xs ≡ zs ++ x ∷ [] → IsPermutation all (xs ++ ys) → IsPermutation (x ∷ ys) ws → IsPermutation all (zs ++ ws)
moved_last all xs zs x ys ws is before moved =
    let behind = IsPermutation-append_right zs (x ∷ ys) ws moved in
    let both : xs ++ ys ≡ zs ++ x ∷ ys = ap (λ vs. vs ++ ys) is ∙ append_assoc zs (x ∷ []) ys in
    IsPermutation-trans all (xs ++ ys) (zs ++ ws) before (subst (λ vs. IsPermutation vs (zs ++ ws)) (sym both) behind)

-- the others, and the last one, have what is known of their hashes
pub shorts_front : (multiplier : ℕ) (slots rest : List Slot) (s : Slot) → slots ≡ rest ++ s ∷ [] → HaveShorts multiplier slots → HaveShorts multiplier rest
shorts_front multiplier slots rest s is have at short c there =
    have at short c (subst (λ (t : List Slot). slice_get t at ≡ Some (Full short c)) (sym is) (get_left rest (s ∷ []) at (Full short c) there))

pub short_last : (multiplier : ℕ) (slots rest : List Slot) (short : ℕ) (x : Cell) → slots ≡ rest ++ Full short x ∷ [] → HaveShorts multiplier slots → short ≡ short_hash multiplier x.label.hash
short_last multiplier slots rest short x is have =
    have (length rest + 0) short x (subst (λ (t : List Slot). slice_get t (length rest + 0) ≡ Some (Full short x)) (sym is) (get_right rest (Full short x ∷ []) 0 (Full short x) refl))
