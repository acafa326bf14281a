use Rattle.std.proofs.Common.{rules, arith}
use Rattle.replay_script.proofs.CutLemmas.{buckets_made}
use Rattle.replay_script.proofs.line.buckets_of_line.Goals as goal

pub returns : goal.returns
returns c = buckets_made c.args.line.now c.in_ok-bits.bits (omega arith) (search rules) c.new.result c.new.ensures.range c.new.ensures.bits
