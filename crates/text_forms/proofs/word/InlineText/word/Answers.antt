use Rattle.std.proofs.Common.{◌∙◌, ap}
use Rattle.std.specs.Int.{w64, from_le_bytes}
use Rattle.text_forms.specs.InlineText.{text_of}
use Rattle.text_forms.specs.Word.{inline_word}
use Rattle.text_forms.proofs.words.Unpacking.{spelt}
use Rattle.text_forms.proofs.word.InlineText.word.Goals as goal

pub returns : goal.returns
returns c =
    let t = c.self.inside in
    let k = c.self.invariant in
    c.from_le_bytes.ensures ∙ ap (from_le_bytes w64) k.2 ∙ spelt (text_of t) k.0.1 ∙ ap inline_word c.self.view_is
