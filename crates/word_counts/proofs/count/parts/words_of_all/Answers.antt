use Rattle.word_counts.proofs.SectionLemmas.{before_all, before_fits, before_next}
use Rattle.word_counts.proofs.count.parts.words_of_all.Goals as goal

pub overflow_add-words : goal.overflow_add-words
overflow_add-words c = before_fits c.args.sections.now c.requires c.loop-section.section-index _ c.loop-section-test.true c.loop-section.words c.loop-section.invariant

pub loop-section-preserved : goal.loop-section-preserved
loop-section-preserved c = before_next c.args.sections.now c.requires c.loop-section.section-index _ c.loop-section-test.true c.loop-section.words c.loop-section.invariant

pub returns : goal.returns
returns c = before_all c.args.sections.now c.loop-section.section-index c.loop-section-test.false c.loop-section.words c.loop-section.invariant
