use Rattle.std.proofs.Common.{sym, subst, Bool, IsTrue, Some}
use Rattle.std.specs.Prelude.{◌↔◌}
use Rattle.std.proofs.lemmas.Bool.{false≢true}
use Rattle.text_forms.specs.declared.word.Form.{Form}
use Rattle.text_forms.specs.Form.{IsFormOf}
use Rattle.text_forms.specs.Tables.{IsStaticIndex}
use Rattle.interner_table.proofs.calls.HeldWords.{fixed-if-static, not-fixed-if-ticket, not-fixed-unless-word}
use Rattle.interner_table.proofs.table.is_fixed.Goals as goal

pub returns-in-Some-Static : goal.returns-in-Some-Static
returns-in-Some-Static g c =
    let t = g.S.StaticTables.tables in
    let form = subst (λ (f : Form). IsFormOf c.args.word (Some f)) c.in-Some-Static.field-0-is c.in-Some-Static.ensures in
    fixed-if-static t c.args.word c.in-Some-Static.index form c.is_some.result
    (subst (λ (b : Bool). IsTrue b ↔ IsStaticIndex t c.in-Some-Static.index) (sym c.is_some.ensures) c.static_text.ensures.is_static)

pub returns-in-Some-Dynamic : goal.returns-in-Some-Dynamic
returns-in-Some-Dynamic g c =
    let form = subst (λ (f : Form). IsFormOf c.args.word (Some f)) c.in-Some-Dynamic.field-0-is c.in-Some-Dynamic.ensures in
    (λ yes. absurd (false≢true yes), λ fixed. absurd (not-fixed-if-ticket g.S.StaticTables.tables c.args.word c.in-Some-Dynamic.field-0-0 c.in-Some-Dynamic.field-0-1 form.1 fixed))

pub returns-in-None : goal.returns-in-None
returns-in-None g c =
    let e = c.in-None.ensures in
    (λ yes. absurd (false≢true yes), λ fixed. absurd (not-fixed-unless-word g.S.StaticTables.tables c.args.word c.ranges.word.fits e.0 e.1 fixed))
