use Rattle.std.proofs.Common.{refl}
use Rattle.std.proofs.lemmas.Bool.{ltb-true}
use Rattle.text_forms.proofs.words.Unpacking.{ascii-bytes}
use Rattle.text_forms.proofs.word.are_ascii.Goals as goal

pub returns : goal.returns
returns c = λ yes. ascii-bytes c.args.bytes.now _ _ c.told-bytes refl refl (ltb-true _ 128 yes)
