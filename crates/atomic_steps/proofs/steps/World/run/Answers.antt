use Rattle.std.proofs.Common.{arith, refl}
use Rattle.atomic_steps.specs.Steps.{IsStep}
use Rattle.atomic_steps.proofs.runs.Loop.{has_run, reply_count, reached_more, replied_more}
use Rattle.atomic_steps.proofs.steps.World.run.Goals as goal

pub returns-in_err-reserve-clause-done : goal.returns-in_err-reserve-clause-done
returns-in_err-reserve-clause-done g c = has_run g.S.StaticTables.tables _ _ _ _ _ _ _ c.loop-s.s-index (omega arith) c.reserve.ensures.items c.loop-s.invariant.replied refl c.loop-s.invariant.reached

pub returns-in_err-reply-clause-done : goal.returns-in_err-reply-clause-done
returns-in_err-reply-clause-done g c =
    has_run g.S.StaticTables.tables _ _ _ _ _ _ _ c.loop-s.s-index (omega arith) c.reserve.ensures.items c.loop-s.invariant.replied c.in_err-reply.ensures.err.0 c.loop-s.invariant.reached

pub loop-s-preserved : goal.loop-s-preserved
loop-s-preserved g c =
    let tables = g.S.StaticTables.tables in
    let does : IsStep tables c.loop-s.self c.s-item.result.0 c.s-item.result.1 c.in_ok-reply.reply c.apply.new.self = c.in_ok-reply.ensures.ok in
    record {
      replied = replied_more tables _ _ _ c.s-item.result c.loop-s-test.true c.s-item.is _ _ _ c.loop-s.invariant.reached does c.args.out.now.items c.loop-s.out.items c.reserve.new.self.items c.push_reserved.new.self.items c.loop-s.invariant.replied
          c.reserve.ensures.items c.push_reserved.ensures.items;
      reached = reached_more tables _ _ _ c.s-item.result c.loop-s-test.true c.s-item.is _ _ _ c.loop-s.invariant.reached does;
    }

pub returns-clause-done : goal.returns-clause-done
returns-clause-done g c = has_run g.S.StaticTables.tables _ _ _ _ _ _ _ c.loop-s.s-index c.loop-s.auto.s-index-end refl c.loop-s.invariant.replied refl c.loop-s.invariant.reached

pub returns-clause-all : goal.returns-clause-all
returns-clause-all g c =
    let n = reply_count g.S.StaticTables.tables c.args.self.now c.args.steps.now c.args.out.now.items c.loop-s.out.items c.loop-s.s-index c.loop-s.auto.s-index-end c.loop-s.invariant.replied in
    omega (arith, n, c.loop-s-test.false, c.loop-s.auto.s-index-end)
