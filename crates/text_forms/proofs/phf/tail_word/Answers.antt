use Rattle.std.proofs.Common.{◌≡◌, ◌-◌, ◌*◌, ◌/◌, ◌^◌, ap, ◌∙◌, drop, rules, arith}
use Rattle.text_forms.specs.Word.{bytes_value}
use Rattle.text_forms.proofs.words.SipWords.{tail_value}
use Rattle.text_forms.proofs.phf.tail_word.Goals as goal

pub returns : goal.returns
returns c =
    let low : c.from_le_bytes.result / 2 ^ (8 * c.args.gone - 8) / 256 ≡ bytes_value (drop c.args.gone c.args.tail) =
    ap (λ n. n / 2 ^ (8 * c.args.gone - 8) / 256) c.from_le_bytes.ensures ∙ tail_value c.args.tail c.args.gone (search rules) c.requires.0 c.requires.1 (search rules) in
    omega arith
