use Rattle.std.proofs.Common.{◌≡◌, ◌≤◌, ◌^◌, replicate, rules}
use Rattle.text_forms.specs.Layout.{most_buckets}
use Rattle.interner_table.proofs.kept.New.{new-kept, new-map}
use Rattle.interner_table.proofs.table.Table.with_buckets.Goals as goal

pub invariant_of-result : goal.invariant_of-result
invariant_of-result g c =
    let zeros : c.in_ok-vec.field-0.items ≡ replicate (2 ^ c.args.buckets) 0 = search rules in
    let few : 2 ^ c.args.buckets ≤ most_buckets = search rules in
    new-kept g.S.StaticTables.tables c.args.buckets c.in_ok-vec.field-0.items c.with_hasher.result c.new.result.keys few zeros c.with_hasher.ensures.empty c.new.ensures.empty

pub returns-clause-empty : goal.returns-clause-empty
returns-clause-empty g c =
    let zeros : c.in_ok-vec.field-0.items ≡ replicate (2 ^ c.args.buckets) 0 = search rules in
    new-map c.args.buckets c.in_ok-vec.field-0.items c.with_hasher.result zeros c.with_hasher.ensures.empty
