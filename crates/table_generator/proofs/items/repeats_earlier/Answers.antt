use Rattle.std.proofs.Common.{◌∙◌, ◌<◌, ◌-◌, map, arith, sym}
use Rattle.table_generator.proofs.Doubles.{differs_by_hashes, differs_by_text, differs_from, none_before, repeats_at}
use Rattle.table_generator.proofs.items.repeats_earlier.Goals.{else-eq-via-then-eq+else-eq-2, else-eq-via-else-eq}
use Rattle.table_generator.proofs.items.repeats_earlier.Goals as goal

pub returns-then-earlier-pairs-clause-no : goal.returns-then-earlier-pairs-clause-no
returns-then-earlier-pairs-clause-no c =
    let at = c.loop-at.at - 1 in
    let low : at < c.args.index = omega (arith, c.loop-at-test.true, c.loop-at.auto.at) in
    none_before (λ item. item.text.now) (λ item. item.hashes) c.args.pairs c.args.items.now at c.args.index _ _ low c.requires.listed c.requires.grouped c.requires.alike
    c.if-earlier-pairs.true
    (λ k above. c.loop-at.invariant k (omega (arith, above, c.loop-at-test.true)))

pub returns-then-eq-2-clause-yes : goal.returns-then-eq-2-clause-yes
returns-then-eq-2-clause-yes c =
    let at = c.loop-at.at - 1 in
    let low : at < c.args.index = omega (arith, c.loop-at-test.true, c.loop-at.auto.at) in
    repeats_at (λ item. item.text.now) (λ item. item.hashes) c.args.items.now at c.args.index _ _ low c.requires.listed (sym c.eq-then-eq.ensures ∙ c.if-eq-2.true)

pub loop-at-preserved : goal.loop-at-preserved
loop-at-preserved c =
    let at = c.loop-at.at - 1 in
    let low : at < c.args.index = omega (arith, c.loop-at-test.true, c.loop-at.auto.at) in
    differs_from (map (λ item. item.text.now) c.args.items.now) at c.args.index
    (λ k above. c.loop-at.invariant k (omega (arith, above, c.loop-at-test.true)))
    (elim c.else-eq.branch [
      | else-eq-via-then-eq+else-eq-2 w ↦
          differs_by_text (λ item. item.text.now) (λ item. item.hashes) c.args.items.now at c.args.index _ _ low c.requires.listed (sym w.eq-then-eq.ensures ∙ w.if-eq-2.false)
      | else-eq-via-else-eq w ↦
          differs_by_hashes (λ item. item.text.now) (λ item. item.hashes) c.args.items.now at c.args.index _ _ low c.requires.listed c.requires.alike w.if-eq.ensures
    ])
