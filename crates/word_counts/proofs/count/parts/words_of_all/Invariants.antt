use Rattle.std.proofs.Common.{◌≡◌, length, take}
use Rattle.word_counts.specs.Parts.{words_of_sections}
use Rattle.word_counts.proofs.count.parts.words_of_all.Given as goal

abbrev pub invariant-loop-section : goal.invariant-loop-section
invariant-loop-section l = l.words ≡ length (words_of_sections (take l.section-index l.sections))
