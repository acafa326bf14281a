use Rattle.std.proofs.Common.{sym, subst, List, ℕ, Some, Option}
use Rattle.std.specs.Prelude.{MatchOption}
use Rattle.std.specs.Borrow.{Bor}
use Rattle.text_forms.specs.declared.word.Form.{Form}
use Rattle.text_forms.specs.Form.{IsFormOf}
use Rattle.interner_table.specs.Kept.{map_of}
use Rattle.interner_table.specs.Table.{IsTextOf}
use Rattle.interner_table.proofs.calls.HeldWords.{no-text-unless-word, no-text-if-inline, text-if-static, text-if-ticket}
use Rattle.interner_table.proofs.table.Table.find_text.Goals as goal

pub returns-in_err-form_of-clause-text : goal.returns-in_err-form_of-clause-text
returns-in_err-form_of-clause-text g c =
    let m = map_of c.args.self.now in
    let none = no-text-unless-word g.S.StaticTables.tables m c.args.word c.is_sound.ensures c.ranges.word.fits c.in_err-form_of.ensures.1 c.in_err-form_of.ensures.2 in
    subst (λ (r : Option (Bor (List ℕ))). MatchOption r ((text : List ℕ) → ¬ (IsTextOf g.S.StaticTables.tables m c.args.word text)) (λ text. IsTextOf g.S.StaticTables.tables m c.args.word text.now)) (sym c.from_residual.ensures) none

pub returns-in-Inline-clause-text : goal.returns-in-Inline-clause-text
returns-in-Inline-clause-text g c =
    let form = subst (λ (f : Form). IsFormOf c.args.word (Some f)) c.in-Inline.is c.in_ok-form_of.ensures in
    no-text-if-inline g.S.StaticTables.tables (map_of c.args.self.now) c.args.word c.is_sound.ensures (c.in-Inline.field-0, form.0, form.1)

pub returns-in-Static-clause-text : goal.returns-in-Static-clause-text
returns-in-Static-clause-text g c =
    let form = subst (λ (f : Form). IsFormOf c.args.word (Some f)) c.in-Static.is c.in_ok-form_of.ensures in
    text-if-static g.S.StaticTables.tables (map_of c.args.self.now) c.args.word c.in-Static.index c.is_sound.ensures form c.static_text.result c.static_text.ensures.is_static c.static_text.ensures.text

pub returns-in-Dynamic-clause-text : goal.returns-in-Dynamic-clause-text
returns-in-Dynamic-clause-text g c =
    let form = subst (λ (f : Form). IsFormOf c.args.word (Some f)) c.in-Dynamic.is c.in_ok-form_of.ensures in
    text-if-ticket g.S.StaticTables.tables (map_of c.args.self.now) c.args.word c.in-Dynamic.serial c.in-Dynamic.bucket form.1 c.ticket_text.result c.ticket_text.ensures
