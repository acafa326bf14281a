use Rattle.std.proofs.Common.{rules}
use Rattle.text_forms.proofs.NumberLemmas.{number_parsed}
use Rattle.text_forms.proofs.numbers.number_of.Goals as goal

pub returns : goal.returns
returns c = rw c.ok.ensures.value (number_parsed c.args.text.now c.parse.result c.parse.ensures.value.0 (search rules) (search rules))
