use Rattle.std.proofs.Common.{◌∙◌, ap, subst, sym, length, arith}
use Rattle.std.proofs.lemmas.Grind.{common_steps}
use Rattle.word_counts.specs.Parts.{AreSections, words_of_sections}
use Rattle.word_counts.proofs.SectionLemmas.{all_counted, written_back}
use Rattle.word_counts.proofs.WordLemmas.{length-words-le}
use Rattle.word_counts.proofs.count.parts.counted_sections.Goals as goal

pub returns-clause-words : goal.returns-clause-words
returns-clause-words g c =
    let old = c.in_ok-sections.sections.items in
    let new = c.for_each_mut.new.s in
    let all = all_counted c.deref_mut.result.now new c.for_each_mut.auto.s (λ i d h. let call = (c.for_each_mut.ensures i d h).1 in grind (arith, common_steps, call)) in
    ap words_of_sections (written_back old new c.in_ok-sections.sections.len (c.for_each_mut.auto.s ∙ ap length c.deref_mut.ensures.value) c.in_ok-sections.sections.ok.0)
    ∙ all.0 ∙ ap words_of_sections c.deref_mut.ensures.value ∙ c.in_ok-sections.ensures.words

pub returns-clause-counted : goal.returns-clause-counted
returns-clause-counted g c =
    let old = c.in_ok-sections.sections.items in
    let new = c.for_each_mut.new.s in
    let all = all_counted c.deref_mut.result.now new c.for_each_mut.auto.s (λ i d h. let call = (c.for_each_mut.ensures i d h).1 in grind (arith, common_steps, call)) in
    let whole = all.0 ∙ ap words_of_sections c.deref_mut.ensures.value ∙ c.in_ok-sections.ensures.words in
    subst AreSections (sym (written_back old new c.in_ok-sections.sections.len (c.for_each_mut.auto.s ∙ ap length c.deref_mut.ensures.value) c.in_ok-sections.sections.ok.0)) (record {
      rests = all.1 (rw c.deref_mut.ensures.value c.in_ok-sections.ensures.rests);
      numbers = all.2;
      few = omega (arith, ap length whole, length-words-le c.args.text.now c.utf8.text, c.well_formed);
    })
