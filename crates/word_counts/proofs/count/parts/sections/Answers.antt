use Rattle.std.proofs.Common.{refl, rules, subst, sym}
use Rattle.word_counts.proofs.SectionLemmas.{Sectioned, section_next, sections_rests, sections_whole}
use Rattle.word_counts.proofs.count.parts.sections.Goals as goal

pub loop-rest-preserved : goal.loop-rest-preserved
loop-rest-preserved c =
    let behind = c.cut_off.result.1.now in (
      search rules,
      subst (Sectioned c.args.text.now behind) (sym c.in_ok-push.ensures.items)
          (section_next (record { own = c.cut_off.result.0; rest = c.loop-rest.rest; words = 0 }) behind refl c.cut_off.ensures.words c.loop-rest.invariant.1),
    )

pub returns-clause-words : goal.returns-clause-words
returns-clause-words c = sections_whole c.loop-rest.rest.now (search rules) c.loop-rest.invariant.1

pub returns-clause-rests : goal.returns-clause-rests
returns-clause-rests c = sections_rests c.loop-rest.rest.now (search rules) c.loop-rest.invariant.1
