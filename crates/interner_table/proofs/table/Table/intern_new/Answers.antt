use Rattle.std.proofs.Common.{◌≡◌, ◌∙◌, ap, arith, ℕ, ◌%◌}
use Rattle.interner_table.specs.Kept.{Kept, map_of}
use Rattle.text_forms.specs.Tables.{bucket_of}
use Rattle.interner_table.proofs.calls.HeldWords.{dynamic-hash}
use Rattle.interner_table.proofs.calls.Replies.{interned-spent, added}
use Rattle.interner_table.proofs.table.Table.intern_new.Goals as goal

pub returns-then-last-serials-clause-replies : goal.returns-then-last-serials-clause-replies
returns-then-last-serials-clause-replies g c =
    let m = map_of c.args.self.now in
    let test = c.if-last-serials.true in
    let last = c.bucket_and_last-bucket.ensures.last in
    let read = c.serials.ensures.value in
    let limit = ap (λ (kept : Kept). kept.limits.serials) c.self.view_is in
    let own : c.bucket_and_last-bucket.result.0 ≡ bucket_of g.S.StaticTables.tables m.buckets c.args.text.now =
    c.bucket_and_last-bucket.ensures.bucket ∙ ap (λ (h : ℕ). h % m.buckets) (dynamic-hash g.S.StaticTables.tables c.args.text.now c.args.hash c.requires.dynamic) in
    interned-spent g.S.StaticTables.tables c.args.self.now.limits m c.args.text.now c.bucket_and_last-bucket.result.0 own c.requires.absent (omega (arith, test, last, limit, read))

pub returns-clause-replies : goal.returns-clause-replies
returns-clause-replies g c =
    let m = map_of c.args.self.now in
    let test = c.if-last-serials.false in
    let last = c.bucket_and_last-bucket.ensures.last in
    let read = c.serials.ensures.value in
    let limit = ap (λ (kept : Kept). kept.limits.serials) c.self.view_is in
    let bucket = c.bucket_and_last-bucket.result.0 in
    let own : bucket ≡ bucket_of g.S.StaticTables.tables m.buckets c.args.text.now =
    c.bucket_and_last-bucket.ensures.bucket ∙ ap (λ (h : ℕ). h % m.buckets) (dynamic-hash g.S.StaticTables.tables c.args.text.now c.args.hash c.requires.dynamic) in
    added g.S.StaticTables.tables c.args.self.now c.add.new.self c.args.text.now bucket c.bucket_and_last-bucket.result.1 c.add.result own c.requires.absent last (omega (arith, test, limit, read))
    c.add.ensures.word c.add.ensures.ok c.add.ensures.err c.add.ensures.fault
