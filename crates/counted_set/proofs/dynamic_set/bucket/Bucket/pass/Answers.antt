use Rattle.std.proofs.Common.{◌++◌, subst, sym}
use Rattle.counted_set.proofs.PassKeeps.{is_kept_after, is_pass_after}
use Rattle.counted_set.specs.Chain.{Chain, IsKept}
use Rattle.counted_set.proofs.dynamic_set.bucket.Bucket.pass.Goals as goal

pub put_entries-requires : goal.put_entries-requires
put_entries-requires g c =
    let taken = c.take_entries-entries.ensures in let v = c.pass_left-answer.new.entries in
    subst (λ (b : Chain). IsKept g.Static.StaticTables.tables g.G.Grant.may (record { bits = b.bits; entries = v.passed ++ v.left; last = b.last })) (sym taken.left)
    (is_kept_after g.C.Counts.gives _ _ _ _ _ _ _ _ _ taken.entries c.pass_left-answer.ensures taken.kept)

pub returns-clause-pass : goal.returns-clause-pass
returns-clause-pass g c =
    let taken = c.take_entries-entries.ensures in
    rw (c.put_entries.ensures) (is_pass_after g.C.Counts.gives g.Static.StaticTables.tables g.G.Grant.may c.args.self.now _ _ _ _ _ _ taken.entries c.pass_left-answer.ensures)
