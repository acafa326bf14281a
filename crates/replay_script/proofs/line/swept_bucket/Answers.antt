use Rattle.std.proofs.Common.{rules, arith, ◌^◌, codes}
use Rattle.text_forms.proofs.NumberLemmas.{number_below}
use Rattle.replay_script.proofs.line.swept_bucket.Goals as goal

pub returns : goal.returns
returns c = rw c.ok.ensures.value (number_below c.args.text.now (codes "sweep ") c.in_ok-bucket.bucket (2 ^ 32) (omega arith) (omega arith) (search rules) c.try_from.result c.try_from.ensures)
