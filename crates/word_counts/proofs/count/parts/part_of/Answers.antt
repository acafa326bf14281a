use Rattle.std.proofs.Common.{◌≤◌, subst}
use Rattle.word_counts.specs.Parts.{words_of_sections}
use Rattle.word_counts.proofs.SectionLemmas.{before_all, before_fits, before_next, none_behind, told_by}
use Rattle.word_counts.proofs.count.parts.part_of.Goals as goal

pub overflow_add-behind : goal.overflow_add-behind
overflow_add-behind c = before_fits c.args.sections.now c.requires.sections c.loop-section.section-index _ c.loop-section-test.true c.loop-section.before c.loop-section.invariant.0

pub loop-section-preserved : goal.loop-section-preserved
loop-section-preserved c = (
  before_next c.args.sections.now c.requires.sections c.loop-section.section-index _ c.loop-section-test.true c.loop-section.before c.loop-section.invariant.0,
  c.if-from-behind.false,
)

pub returns-then-from-behind : goal.returns-then-from-behind
returns-then-from-behind c =
    told_by c.args.sections.now c.requires.sections c.loop-section.section-index _ c.loop-section-test.true c.loop-section.before c.loop-section.invariant.0 c.args.from c.args.to
    c.loop-section.invariant.1 c.requires.order

pub returns : goal.returns
returns c =
    let all = before_all c.args.sections.now c.loop-section.section-index c.loop-section-test.false c.loop-section.before c.loop-section.invariant.0 in
    none_behind (words_of_sections c.args.sections.now) c.args.from c.args.to (subst (λ n. n ≤ c.args.from) all c.loop-section.invariant.1)
