use Rattle.std.proofs.Common.{◌≡◌, fold, take, map}
use Rattle.text_forms.specs.Word.{bytes_value}
use Rattle.text_forms.specs.Phf.{absorb}
use Rattle.text_forms.proofs.phf.Sip.absorb_all.Given as goal

abbrev pub invariant-loop-word : goal.invariant-loop-word
invariant-loop-word l = l.self ≡ fold (absorb l.count) l.initial.self (map bytes_value (take l.word-index l.words))
