use Rattle.std.proofs.Common.{◌≡◌, ◌+◌, ◌*◌, ◌/◌, ◌%◌, ◌^◌, length, take, drop, map, fold, get_or, [], arith, sym, ap, ◌∙◌}
use Rattle.std.proofs.Math.Seq.{take-length}
use Rattle.std.specs.Simd.{first_chunks}
use Rattle.text_forms.specs.Word.{bytes_value}
use Rattle.text_forms.specs.Phf.{absorb}
use Rattle.text_forms.proofs.words.BytesValue.{from_le_bytes-bytes_value}
use Rattle.text_forms.proofs.words.SipWords.{chunk_length, word_more, fold-append_one}
use Rattle.text_forms.proofs.phf.Sip.absorb_all.Goals as goal

pub loop-word-preserved : goal.loop-word-preserved
loop-word-preserved c =
    let bytes = c.args.bytes.now in
    let words = c.as_chunks.result.0.now in
    let i = c.loop-word.word-index in
    let size : length (get_or words i []) ≡ 8 = ap (λ ws. length (get_or ws i [])) c.as_chunks.ensures.front ∙ chunk_length (length bytes / 8) bytes i [] (omega arith) (omega arith) in
    let word : c.from_le_bytes.result ≡ bytes_value (get_or words i []) = c.from_le_bytes.ensures ∙ from_le_bytes-bytes_value (get_or words i []) size in
    c.absorb.ensures ∙ word_more (absorb c.args.count) c.loop-word.self c.args.self.now words i [] c.from_le_bytes.result c.loop-word.invariant c.loop-word-test.true word

pub returns : goal.returns
returns c =
    let bytes = c.args.bytes.now in
    let words = c.as_chunks.result.0.now in
    let rest = c.as_chunks.result.1.now in
    let chunks = first_chunks 8 (length bytes / 8) bytes in
    let end : c.loop-word.word-index ≡ length words = omega arith in
    let whole : take c.loop-word.word-index words ≡ chunks = ap (λ n. take n words) end ∙ take-length words ∙ c.as_chunks.ensures.front in
    let state : c.loop-word.self ≡ fold (absorb c.args.count) c.args.self.now (map bytes_value chunks) = c.loop-word.invariant ∙ ap (λ ws. fold (absorb c.args.count) c.args.self.now (map bytes_value ws)) whole in
    let last : c.last_word.result ≡ bytes_value (drop (length bytes / 8 * 8) bytes) + length bytes % 256 * 2 ^ 56 =
    c.last_word.ensures ∙ ap (λ xs. bytes_value xs + length bytes % 256 * 2 ^ 56) c.as_chunks.ensures.back in
    c.absorb-2.ensures ∙ (λ j. absorb c.args.count (state j) (last j)) ∙ sym (fold-append_one (absorb c.args.count) c.args.self.now (map bytes_value chunks) _)
