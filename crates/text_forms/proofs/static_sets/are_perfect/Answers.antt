use Rattle.std.proofs.Common.{◌≡◌, ℕ, ◌<◌, length, arith, sym, ◌∙◌, ap, refl}
use Rattle.text_forms.specs.Tables.{place_in, text_at}
use Rattle.text_forms.proofs.TableLemmas.{placed_static}
use borrow.Author.Count.{below_more}
use Rattle.text_forms.proofs.static_sets.are_perfect.Goals as goal

pub loop-index-preserved : goal.loop-index-preserved
loop-index-preserved g c =
    let t = g.S.StaticTables.tables in
    let i = c.loop-index.index in
    let place : c.look_up-place.result.0 ≡ place_in t (text_at t i) = c.look_up-place.ensures.place ∙ ap (place_in t) c.text_at.ensures in
    below_more (λ k. place_in t (text_at t k) ≡ k) i c.loop-index.invariant (sym place ∙ c.if-place-index.false)

pub returns-clause-perfect : goal.returns-clause-perfect
returns-clause-perfect g c =
    let t = g.S.StaticTables.tables in
    let placed : (i : ℕ) → i < length t.atoms → place_in t (text_at t i) ≡ i = λ i below. c.loop-index.invariant i (omega (arith, below, c.loop-index-test.false, c.count-index-end.ensures)) in (
      λ _. record {
        usable = g.met.S.StaticTables.usable;
        distinct = λ i j i_below j_below same. sym (placed i i_below) ∙ ap (place_in t) same ∙ placed j j_below;
        placed = placed;
      },
      λ _. refl,
    )

pub returns-clause-found : goal.returns-clause-found
returns-clause-found g c =
    let t = g.S.StaticTables.tables in
    λ _. placed_static t (λ i below. c.loop-index.invariant i (omega (arith, below, c.loop-index-test.false, c.count-index-end.ensures)))
