use Rattle.std.proofs.Common.{ap, ◌∙◌, nat_le, ℕ, slice_index}
use Rattle.std.specs.Int.Bits.{bit_and}
use borrow.Author.Tests.{leb-false}
use Rattle.core.proofs.slice.Flagged.{flags, high_flags}
use Rattle.string_cache_c.proofs.texts.high_bits.Goals as goal

-- no byte's high bit is set, where none of the word's is
pub returns : goal.returns
returns c = λ zero place from below.
    let bytes = c.args.bytes.now in
    let word = ap (λ (w : ℕ). bit_and w 0x8080_8080_8080_8080) c.word_at.ensures ∙ high_flags bytes c.type_inv.bytes c.args.at in
    leb-false 128 _ ((flags (λ (at : ℕ). nat_le 128 (slice_index bytes at)) c.args.at _ word).none zero place from below)
