use Rattle.std.proofs.Common.{◌+◌, length, arith}
use mathlib.Core.Logic.{⊎_elim}
use borrow.Author.Tests.{eqb-true}
use Rattle.core.proofs.slice.Flagged.{none_of_two}
use Rattle.core.proofs.str.Laws.{order}
use Rattle.std.proofs.lemmas.Str.Ascii.{IsAscii-from_reads}
use Rattle.string_cache_c.proofs.texts.is_short_ascii.Goals as goal

-- each place is in one of the four words
pub returns : goal.returns
returns c = λ none.
    let bytes = c.args.bytes.now in
    let both = none_of_two _ _ (eqb-true _ 0 none) in
    let front = none_of_two _ _ both.0 in
    let back = none_of_two _ _ both.1 in
    let long = c.if-bytes-lt8.false in
    let short = c.if-bytes-gt32.false in
    let second = c.min.ensures in
    let third = c.min-2.ensures in
    IsAscii-from_reads bytes (length bytes) (omega arith) (λ place there.
    ⊎_elim (λ in_first. c.high_bits.ensures front.0 place (omega arith) (omega arith))
    (λ behind. ⊎_elim (λ in_second. c.high_bits-2.ensures front.1 place (omega arith) (omega arith))
    (λ farther. ⊎_elim (λ in_third. c.high_bits-3.ensures back.0 place (omega arith) (omega arith))
    (λ last. c.high_bits-4.ensures back.1 place (omega arith) (omega arith))
    (order place (c.min-2.result + 8)))
    (order place (c.min.result + 8)))
    (order place 8))
