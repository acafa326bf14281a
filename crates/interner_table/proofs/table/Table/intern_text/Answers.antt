use Rattle.std.proofs.Common.{sym, subst}
use Rattle.interner_table.specs.Kept.{map_of}
use Rattle.interner_table.specs.Table.{InternsBy}
use Rattle.interner_table.proofs.calls.Replies.{interned-held}
use Rattle.interner_table.proofs.table.Table.intern_text.Goals as goal

pub returns-in-Some-clause-interns : goal.returns-in-Some-clause-interns
returns-in-Some-clause-interns g c =
    let t = g.S.StaticTables.tables in
    let limits = c.args.self.now.limits in
    let m = map_of c.args.self.now in
    let text = c.args.text.now in
    let had = c.in-Some.ensures.0 in
    let found = c.in-Some.ensures.1 in
    subst (λ word. InternsBy t limits m text word c.add_holder.result (map_of c.add_holder.new.self)) (sym (c.is_sound.ensures.given text had found.held).dynamic)
    (interned-held t limits m (map_of c.add_holder.new.self) text had c.add_holder.result found.held (c.add_holder.ensures.adds text had found.there))
