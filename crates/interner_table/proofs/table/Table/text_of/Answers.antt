use Rattle.std.proofs.Common.{refl, sym, subst, Option}
use Rattle.std.specs.Prelude.{◌↔◌, IsSome}
use Rattle.std.proofs.lemmas.Bool.{false≢true}
use Rattle.interner_table.specs.declared.table.word_text.WordText.{WordText}
use Rattle.interner_table.specs.Kept.{map_of}
use Rattle.interner_table.specs.Table.{IsHeld}
use Rattle.interner_table.proofs.CallerLemmas.{inline-owned, owned-lent}
use Rattle.interner_table.proofs.calls.HeldWords.{text-held, not-held-without-text}
use Rattle.interner_table.proofs.calls.WordsApart.{one-text-each}
use Rattle.interner_table.proofs.table.Table.text_of.Goals as goal

pub returns-in_err-text-in-None-clause-held : goal.returns-in_err-text-in-None-clause-held
returns-in_err-text-in-None-clause-held g c =
    let t = g.S.StaticTables.tables in
    let m = map_of c.args.self.now in
    let none = not-held-without-text t m c.args.word (λ inline. false≢true (c.in-None.ensures.inline.1 inline)) c.in_err-text-in-None.ensures.text in
    subst (λ (r : Option WordText). IsSome r ↔ IsHeld t m c.args.word) (sym c.from_residual.ensures) ((λ yes. absurd (false≢true yes)), (λ held. absurd (none held)))

pub returns-in-Some-clause-same : goal.returns-in-Some-clause-same
returns-in-Some-clause-same g c = λ text utf8 owned.
    let t = g.S.StaticTables.tables in
    let m = map_of c.args.self.now in
    let own = c.in-Some.ensures.text in
    (one-text-each t m c.is_sound.ensures c.in-Some.text text c.args.word c.args.word own.0.0 utf8 (inline-owned t m c.in-Some.text c.args.word own.0 own.1) owned).0 refl

pub returns-in_ok-text-in-None-clause-held : goal.returns-in_ok-text-in-None-clause-held
returns-in_ok-text-in-None-clause-held g c =
    ((λ _. text-held g.S.StaticTables.tables (map_of c.args.self.now) c.args.word c.in_ok-text-in-None.field-0.now c.in_ok-text-in-None.ensures.text), (λ _. refl))

pub returns-in_ok-text-in-None-clause-same : goal.returns-in_ok-text-in-None-clause-same
returns-in_ok-text-in-None-clause-same g c = λ text utf8 owned.
    c.in_ok-text-in-None.ensures.same text (owned-lent g.S.StaticTables.tables (map_of c.args.self.now) text c.args.word utf8 owned (λ inline. false≢true (c.in-None.ensures.inline.1 inline)))
