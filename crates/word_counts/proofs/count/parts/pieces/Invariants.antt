use Rattle.word_counts.specs.Parts.{words_of_sections}
use Rattle.word_counts.proofs.PartLemmas.{Pieces}
use Rattle.word_counts.proofs.count.parts.pieces.Given as goal

abbrev pub invariant-loop-i : goal.invariant-loop-i
invariant-loop-i l = Pieces (words_of_sections l.sections) l.n l.i l.parts.items
