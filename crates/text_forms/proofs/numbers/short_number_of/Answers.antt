use Rattle.std.proofs.Common.{[], arith, rules, ◌^◌}
use Rattle.text_forms.proofs.NumberLemmas.{number_below}
use Rattle.text_forms.proofs.numbers.short_number_of.Goals as goal

pub returns : goal.returns
returns c = rw c.ok.ensures.value (number_below c.args.text.now [] c.in_ok-number.number (2 ^ 32) (omega arith) (omega arith) (search rules) c.try_from.result c.try_from.ensures)
