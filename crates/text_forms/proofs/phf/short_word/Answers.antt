use Rattle.std.proofs.Common.{◌∙◌, length, refl}
use Rattle.text_forms.proofs.words.SipWords.{last_word}
use Rattle.text_forms.proofs.phf.short_word.Goals as goal

pub returns : goal.returns
returns c = c.from_le_bytes.ensures ∙ last_word c.copy_from_slice.new.self c.args.rest.now (length c.args.rest.now) c.args.len c.copy_from_slice.ensures.after refl c.requires
