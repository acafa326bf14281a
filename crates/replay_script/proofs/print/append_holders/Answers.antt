use Rattle.std.proofs.Common.{arith, sym, append-nil, string_bytes}
use Rattle.replay_script.proofs.PrintLemmas.{held_step, held_end}
use Rattle.replay_script.proofs.print.append_holders.Goals as goal
use Rattle.replay_script.proofs.print.append_holders.Goals.{in-Some+in_ok-append_held, in_default}

pub loop-passed-preserved : goal.loop-passed-preserved
loop-passed-preserved c =
    let step = held_step (string_bytes c.args.out.now) (string_bytes c.loop-passed.out) (string_bytes c.match-count.out) c.args.world.now c.loop-passed.passed c.count.result c.count.ensures.value in
    elim c.match-count.branch [
      | in-Some+in_ok-append_held w ↦ step (rw (w.in-Some.is, w.out-is) w.in_ok-append_held.ensures) c.loop-passed.invariant
      | in_default w ↦ step (rw (w.in_default.is, w.out-is) (sym (append-nil _))) c.loop-passed.invariant
    ]

pub returns : goal.returns
returns c = held_end (string_bytes c.args.out.now) (string_bytes c.loop-passed.out) c.args.world.now c.loop-passed.passed (omega (arith, c.requires)) c.loop-passed.invariant
