use Rattle.std.proofs.Common.{◌<◌, ◌∙◌, ◌++◌, ◌+◌, List, length, map, Option, Some, subst, sym, arith}
use Rattle.std.proofs.lemmas.List.{length-map}
use Rattle.std.proofs.lemmas.Option.{slice_get_within}
use Rattle.counted_cell.specs.Cell.{Cell}
use Rattle.named_set.specs.Places.{cells_in, HasCell, HaveHash, FoundAt, IsNew}
use Rattle.named_set.proofs.Finding.{get_left, get_right, have_left, have_right, new_both}
use Rattle.named_set.proofs.Standing.{cells_both, cells_some}
use Rattle.named_set.proofs.cells.Cells.position.Goals as goal

pub position-requires : goal.position-requires
position-requires c =
    let first = c.self.inside.slots in
    let items = c.self.inside.beside.items in
    let have : HaveHash c.args.text.now c.args.hash (cells_in first ++ items) = subst (λ (ds : List Cell). HaveHash c.args.text.now c.args.hash ds) (cells_both first items) (subst (λ (s : List (Option Cell)). HaveHash c.args.text.now c.args.hash (cells_in s)) (sym c.self.view_is) c.requires) in
    have_left (cells_in first) items c.args.text.now c.args.hash have

pub returns-in-Some : goal.returns-in-Some
returns-in-Some c =
    let first = c.self.inside.slots in
    let items = c.self.inside.beside.items in
    let found = c.in-Some.ensures in
    (found.0, subst (λ (s : List (Option Cell)). HasCell s c.in-Some.at found.0) c.self.view_is (get_left first (map (λ d. Some d) items) c.in-Some.at (Some found.0) found.1), found.2)

pub position_of-requires : goal.position_of-requires
position_of-requires c =
    let first = c.self.inside.slots in
    let items = c.self.inside.beside.items in
    let have : HaveHash c.args.text.now c.args.hash (cells_in first ++ items) = subst (λ (ds : List Cell). HaveHash c.args.text.now c.args.hash ds) (cells_both first items) (subst (λ (s : List (Option Cell)). HaveHash c.args.text.now c.args.hash (cells_in s)) (sym c.self.view_is) c.requires) in
    rw (c.as_slice.ensures.value) (have_right (cells_in first) items c.args.text.now c.args.hash have)

pub returns-in_err-at : goal.returns-in_err-at
returns-in_err-at c =
    let first = c.self.inside.slots in
    let items = c.self.inside.beside.items in
    let none : IsNew c.args.text.now items = subst (λ (ds : List Cell). IsNew c.args.text.now ds) (cells_some c.as_slice.result.now ∙ c.as_slice.ensures.value) c.in_err-at.ensures in
    let both : IsNew c.args.text.now (cells_in (first ++ map (λ d. Some d) items)) = subst (λ (ds : List Cell). IsNew c.args.text.now ds) (sym (cells_both first items)) (new_both (cells_in first) items c.args.text.now c.in_default.ensures none) in
    let new : IsNew c.args.text.now (cells_in c.args.self.now) = subst (λ (s : List (Option Cell)). IsNew c.args.text.now (cells_in s)) c.self.view_is both in
    subst (λ r. FoundAt c.args.self.now c.args.text.now r) (sym c.from_residual.ensures) new

pub overflow_add-result : goal.overflow_add-result
overflow_add-result c =
    let beside = c.self.inside.beside in
    let found = c.in_ok-at.ensures in
    let owners = c.as_slice.result.now in
    let within : c.in_ok-at.at < length (map (λ (d : Cell). Some d) owners) = slice_get_within (map (λ (d : Cell). Some d) owners) c.in_ok-at.at (Some found.0) found.1 in
    omega (arith, c.places.ensures.few, within, length-map owners (λ (d : Cell). Some d), c.as_slice.ensures.len, beside.ok.1, beside.small)

pub returns : goal.returns
returns c =
    let first = c.self.inside.slots in
    let items = c.self.inside.beside.items in
    let at = c.in_ok-at.at in
    let found = c.in_ok-at.ensures in
    let there : HasCell (map (λ (d : Cell). Some d) items) at found.0 = subst (λ (ds : List Cell). HasCell (map (λ (d : Cell). Some d) ds) at found.0) c.as_slice.ensures.value found.1 in
    let here : HasCell (first ++ map (λ (d : Cell). Some d) items) (c.places.result + at) found.0 = subst (λ n. HasCell (first ++ map (λ (d : Cell). Some d) items) (n + at) found.0) (sym c.places.ensures.value) (get_right first (map (λ (d : Cell). Some d) items) at (Some found.0) there) in
    (found.0, subst (λ (s : List (Option Cell)). HasCell s (c.places.result + at) found.0) c.self.view_is here, found.2)
