use Rattle.std.proofs.Common.{rules, arith, ◌^◌, codes}
use Rattle.text_forms.proofs.NumberLemmas.{number_below}
use Rattle.replay_script.proofs.line.bucket_bits.Goals as goal

pub returns : goal.returns
returns c = rw c.ok.ensures.value (number_below c.args.line.now (codes "buckets ") c.in_ok-bits.bits (2 ^ 8) (omega arith) (omega arith) (search rules) c.try_from.result c.try_from.ensures)
