use Rattle.std.proofs.Common.{◌≡◌, ◌≤◌, length, take}
use Rattle.word_counts.specs.Parts.{words_of_sections}
use Rattle.word_counts.proofs.count.parts.part_of.Given as goal

abbrev pub invariant-loop-section : goal.invariant-loop-section
invariant-loop-section l = (l.before ≡ length (words_of_sections (take l.section-index l.sections))) × (l.before ≤ l.from)
