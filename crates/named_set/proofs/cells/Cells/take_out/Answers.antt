use Rattle.std.proofs.Common.{◌≡◌, ◌∷◌, ◌++◌, ◌<◌, ◌≤◌, ◌-◌, List, length, length-append, map, Option, Some, slice_get, refl, sym, subst, arith}
use Rattle.std.specs.List.Sorted.{IsPermutation}
use Rattle.std.proofs.lemmas.List.{length-map}
use Rattle.std.proofs.lemmas.List.Sorted.{IsPermutation-append_left}
use Rattle.std.proofs.lemmas.Option.{slice_get_read, slice_get_within}
use Rattle.counted_cell.specs.Cell.{Cell}
use Rattle.named_set.specs.Places.{HasCell, cells_in}
use Rattle.named_set.proofs.Finding.{get_behind, take_second}
use Rattle.named_set.proofs.Standing.{some_stands, taken_both}
use Rattle.named_set.proofs.cells.Cells.take_out.Goals as goal

pub returns-then-at-first-clause-others : goal.returns-then-at-first-clause-others
returns-then-at-first-clause-others c =
    let first = c.self.inside.slots in
    let rest = c.take.new.self in
    let items = c.self.inside.beside.items in
    let x = c.take.result in
    let taken : IsPermutation (cells_in first ++ items) (x ∷ (cells_in rest ++ items)) = IsPermutation-append_left items (cells_in first) (x ∷ cells_in rest) c.take.ensures.others in
    subst (λ (s : List (Option Cell)). IsPermutation (cells_in s) (x ∷ cells_in (rest ++ map (λ (d : Cell). Some d) items))) c.self.view_is (taken_both first rest items items x taken)

pub returns-else-at-first-clause-cell : goal.returns-else-at-first-clause-cell
returns-else-at-first-clause-cell c =
    let first = c.self.inside.slots in
    let items = c.self.inside.beside.items in
    let somes = map (λ (d : Cell). Some d) items in
    let x = c.swap_remove.result in
    let same : c.places-first.result ≡ length first = c.places-first.ensures.value in
    let le : length first ≤ c.args.at = omega (arith, c.if-at-first.false, same) in
    let within : c.args.at < length (first ++ somes) = subst (λ (s : List (Option Cell)). c.args.at < length s) (sym c.self.view_is) (slice_get_within c.args.self.now c.args.at (Some c.requires.0) c.requires.1) in
    let inner : c.args.at - c.places-first.result < length items = omega (arith, within, le, same, length-append first somes, length-map items (λ (d : Cell). Some d)) in
    let at : slice_get items (c.args.at - length first) ≡ Some x = subst (λ n. slice_get items (c.args.at - n) ≡ Some x) same (slice_get_read items (length items) (c.args.at - c.places-first.result) x refl inner c.swap_remove.ensures.value) in
    subst (λ (s : List (Option Cell)). HasCell s c.args.at x) c.self.view_is (get_behind first somes c.args.at (Some x) le (some_stands items (c.args.at - length first) x at))

pub returns-else-at-first-clause-others : goal.returns-else-at-first-clause-others
returns-else-at-first-clause-others c =
    let first = c.self.inside.slots in
    let items = c.self.inside.beside.items in
    let somes = map (λ (d : Cell). Some d) items in
    let rest = c.swap_remove.new.self.items in
    let x = c.swap_remove.result in
    let k = c.args.at - c.places-first.result in
    let same : c.places-first.result ≡ length first = c.places-first.ensures.value in
    let le : length first ≤ c.args.at = omega (arith, c.if-at-first.false, same) in
    let within : c.args.at < length (first ++ somes) = subst (λ (s : List (Option Cell)). c.args.at < length s) (sym c.self.view_is) (slice_get_within c.args.self.now c.args.at (Some c.requires.0) c.requires.1) in
    let inner : k < length items = omega (arith, within, le, same, length-append first somes, length-map items (λ (d : Cell). Some d)) in
    let at : slice_get items k ≡ Some x = slice_get_read items (length items) k x refl inner c.swap_remove.ensures.value in
    let taken : IsPermutation (cells_in first ++ items) (x ∷ (cells_in first ++ rest)) = rw (c.swap_remove.ensures.items) (take_second (cells_in first) items k x at) in
    subst (λ (s : List (Option Cell)). IsPermutation (cells_in s) (x ∷ cells_in (first ++ map (λ (d : Cell). Some d) rest))) c.self.view_is (taken_both first first items rest x taken)

pub returns-else-at-first-clause-before : goal.returns-else-at-first-clause-before
returns-else-at-first-clause-before c =
    let first = c.self.inside.slots in
    let items = c.self.inside.beside.items in
    let somes = map (λ (d : Cell). Some d) items in
    let rest = c.swap_remove.new.self in
    let same : c.places-first.result ≡ length first = c.places-first.ensures.value in
    let within : c.args.at < length (first ++ somes) = subst (λ (s : List (Option Cell)). c.args.at < length s) (sym c.self.view_is) (slice_get_within c.args.self.now c.args.at (Some c.requires.0) c.requires.1) in
    omega (arith, within, same, length-append first somes, length-map items (λ (d : Cell). Some d), length-append first (map (λ (d : Cell). Some d) rest.items), length-map rest.items (λ (d : Cell). Some d), c.swap_remove.ensures.len, rest.ok.0, c.self.inside.beside.ok.0)
