use Rattle.std.proofs.Common.{◌∙◌, arith, take}
use Rattle.interner_table.specs.Kept.{map_of}
use Rattle.interner_table.proofs.calls.Keep.{answers-fresh, fresh-more, held-given}
use Rattle.interner_table.proofs.calls.Runs.{replays-more, replays-grow}
use Rattle.interner_table.proofs.calls.WordsApart.{one-text-each}
use Rattle.interner_table.proofs.table.Table.run.Goals as goal

pub loop-call-preserved : goal.loop-call-preserved
loop-call-preserved g c =
    let t = g.S.StaticTables.tables in
    let i = c.loop-call.invariant in
    let n = i.1 in
    let room = i.2 in
    let len = c.push_reserved.ensures.len in
    let capacity = c.push_reserved.ensures.capacity in (
      c.call-reply.ensures.limits ∙ i.0,
      omega (arith, len, n),
      omega (arith, capacity, room),
      replays-more t c.args.self.now.limits _ (map_of c.args.self.now) (map_of c.loop-call.self) (map_of c.call-reply.new.self) c.args.calls.now c.loop-call.call-index c.loop-call.replies.items c.push_reserved.new.self.items c.call-item.result c.call-reply.result
          c.loop-call-test.true c.call-item.is c.push_reserved.ensures.items i.0 i.3 c.call-reply.ensures.answers,
      fresh-more (map_of c.args.self.now) (map_of c.loop-call.self) (map_of c.call-reply.new.self)
          (λ bucket. replays-grow t c.args.self.now.limits (map_of c.args.self.now) (map_of c.loop-call.self) (take c.loop-call.call-index c.args.calls.now) c.loop-call.replies.items bucket i.3)
          i.4 (answers-fresh t c.loop-call.self.limits (map_of c.loop-call.self) (map_of c.call-reply.new.self) c.call-item.result c.call-reply.result c.is_sound.ensures c.call-reply.ensures.answers),
    )

pub returns-clause-grow : goal.returns-clause-grow
returns-clause-grow g c = λ bucket. replays-grow g.S.StaticTables.tables c.args.self.now.limits (map_of c.args.self.now) (map_of c.loop-call.self) (take c.loop-call.call-index c.args.calls.now) c.loop-call.replies.items bucket c.loop-call.invariant.3

pub returns-clause-apart : goal.returns-clause-apart
returns-clause-apart g c = one-text-each g.S.StaticTables.tables (map_of c.loop-call.self) c.is_sound-2.ensures

pub returns-clause-once : goal.returns-clause-once
returns-clause-once g c = record { given = held-given g.S.StaticTables.tables (map_of c.loop-call.self) c.is_sound-2.ensures; fresh = c.loop-call.invariant.4 }
