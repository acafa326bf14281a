use Rattle.std.proofs.Common.{rules, string_bytes}
use Rattle.text_forms.specs.Tables.{empty_tables}
use Rattle.replay_script.proofs.RunLemmas.{running_begins, running_line, running_next, running_on, running_few, running_ends}
use Rattle.replay_script.proofs.replay.output_of.Goals as goal

pub loop-line-init : goal.loop-line-init
loop-line-init c =
    (search rules, running_begins empty_tables c.args.limits c.args.buckets c.args.text.now c.in_ok-world.world c.new-steps.result.items (string_bytes c.new-out.result) c.in_ok-world.ensures.ok c.new-steps.ensures.items c.new-out.ensures.bytes)

pub unreachable-requires : goal.unreachable-requires
unreachable-requires c =
    running_line c.loop-line.invariant.1 c.requires c.in-Some.line.now c.in-Some.after.now c.in-Some.ensures.0 (rw c.in_default-2.is at c.in_ok-step.ensures)

pub loop-line-preserved-then-len-ge-CHUNK : goal.loop-line-preserved-then-len-ge-CHUNK
loop-line-preserved-then-len-ge-CHUNK c =
    let next = running_next c.loop-line.invariant.1 c.in-Some.line.now c.in-Some.after.now c.in-Some-2.step c.push.new.self.items c.in-Some.ensures.0 c.in-Some.ensures.1 (rw c.in-Some-2.is at c.in_ok-step.ensures) c.in_ok-push.ensures.items in
    (search rules, running_on next c.run_steps.new.world c.clear.new.self.items (string_bytes c.run_steps.new.out) (rw c.deref.ensures.value at c.in_ok-run_steps.ensures.ok) c.clear.ensures.items)

pub loop-line-preserved : goal.loop-line-preserved
loop-line-preserved c =
    (search rules, running_next c.loop-line.invariant.1 c.in-Some.line.now c.in-Some.after.now c.in-Some-2.step c.push.new.self.items c.in-Some.ensures.0 c.in-Some.ensures.1 (rw c.in-Some-2.is at c.in_ok-step.ensures) c.in_ok-push.ensures.items)

pub append_holders-requires : goal.append_holders-requires
append_holders-requires c =
    running_few c.loop-line.invariant.1 c.in_default.ensures c.run_steps-2.new.world (string_bytes c.run_steps-2.new.out) (rw c.deref-2.ensures.value at c.in_ok-run_steps-2.ensures.ok)

pub returns-clause-ok : goal.returns-clause-ok
returns-clause-ok c =
    running_ends c.loop-line.invariant.1 c.in_default.ensures c.run_steps-2.new.world (string_bytes c.run_steps-2.new.out) (rw c.deref-2.ensures.value at c.in_ok-run_steps-2.ensures.ok) (string_bytes c.append_holders.new.out) c.in_ok-append_holders.ensures
