use Rattle.std.proofs.Common.{◌≡◌, ◌∷◌, [], length, sym, ap, ◌∙◌, append-nil, arith}
use Rattle.std.specs.Vec.Iter.{into_iter_items}
use Rattle.text_forms.specs.declared.faults.Fault.{Fault}
use Rattle.example_named.specs.Results.{oks}
use Rattle.example_named.proofs.AllOk.{oks_next, nothing_left}
use Rattle.example_named.proofs.results.all_ok.Goals as goal

pub loop-item-preserved : goal.loop-item-preserved
loop-item-preserved g c =
    let at = c.loop-item in
    let steps : into_iter_items at.item-iterator ≡ c.in-Some.item ∷ into_iter_items c.next.new.self = c.in-Some.ensures.steps.0 in (
      oks_next at.values.items c.push.new.self.items c.in_ok-value.value c.in-Some.item (into_iter_items at.item-iterator) (into_iter_items c.next.new.self) _ at.invariant.0 steps c.in_ok-value.was c.in_ok-push.ensures.items,
      let was = at.invariant.1 in
          let gone = c.in-Some.ensures.steps.1 in
          let short = ap length steps in
          omega arith,
    )

pub returns : goal.returns
returns g c =
    let at = c.loop-item in
    let empty : into_iter_items at.item-iterator ≡ [] = nothing_left _ (sym at.invariant.1 ∙ c.in-None.ensures.steps.0) in
    let all = sym (append-nil (oks {E = Fault} at.values.items)) ∙ rw empty at at.invariant.0 ∙ c.into_iter-item-iterator.ensures.into_iter_gives.0 in
    sym all
