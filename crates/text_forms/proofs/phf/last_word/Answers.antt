use Rattle.std.proofs.Common.{◌≡◌, ◌≤◌, ◌+◌, ◌-◌, ◌*◌, ◌/◌, ◌%◌, ◌^◌, ap, ◌∙◌, drop, length, length-drop, sym, arith}
use Rattle.std.proofs.lemmas.List.{drop-drop}
use Rattle.text_forms.specs.Word.{bytes_value}
use Rattle.text_forms.proofs.phf.last_word.Goals as goal

pub returns-in-Some : goal.returns-in-Some
returns-in-Some c =
    let bytes = c.args.bytes.now in
    let left = length c.args.rest.now in
    let enough : 8 ≤ length bytes = c.in-Some.ensures.cases.0 in
    let count : left ≡ length bytes - length bytes / 8 * 8 = ap length c.requires ∙ length-drop (length bytes / 8 * 8) bytes in
    let eight : c.in-Some.tail.now ≡ drop (length bytes - 8) bytes = c.in-Some.ensures.cases.1.same in
    let start : length bytes - 8 + (8 - left) ≡ length bytes / 8 * 8 = omega arith in
    let same : drop (8 - left) c.in-Some.tail.now ≡ c.args.rest.now =
    ap (drop (8 - left)) eight ∙ drop-drop (8 - left) (length bytes - 8) bytes ∙ ap (λ n. drop n bytes) start ∙ sym c.requires in
    c.tail_word.ensures ∙ ap (λ xs. bytes_value xs + length bytes % 256 * 2 ^ 56) same
