use Rattle.std.proofs.Common.{◌+◌, sym, subst}
use Rattle.word_counts.specs.Parts.{words_of_sections}
use Rattle.word_counts.proofs.PartLemmas.{Pieces, pieces_next}
use Rattle.word_counts.proofs.count.parts.pieces.Goals as goal

pub loop-i-preserved : goal.loop-i-preserved
loop-i-preserved c =
    let ws = words_of_sections c.args.sections.now in
    subst (Pieces ws c.args.n (c.loop-i.i + 1)) (sym c.in_ok-push.ensures.items)
    (pieces_next ws c.args.n c.loop-i.i c.loop-i.parts.items c.part_of.result c.loop-i.invariant c.requires.some c.words_of_all-words.result c.end_of_piece-from.result c.end_of_piece-to.result
    c.words_of_all-words.ensures c.end_of_piece-from.ensures.end c.end_of_piece-to.ensures.end c.part_of.ensures)
