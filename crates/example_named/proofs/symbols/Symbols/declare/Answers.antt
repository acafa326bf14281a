use Rattle.std.proofs.Common.{sym, ap, subst, ◌∙◌}
use borrow.Author.Tests.{ne_eqb}
use Rattle.named_set.specs.Words.{HeldWord}
use Rattle.example_named.specs.Symbols.{Declared, IsUndeclared, number_at}
use Rattle.example_named.proofs.Names.{still_undeclared}
use Rattle.example_named.proofs.symbols.Symbols.declare.Goals as goal

pub returns-clause-others : goal.returns-clause-others
returns-clause-others g c = λ word apart.
    let key : HeldWord = record c.args.name { word = word } in
    c.in_ok-insert.ensures.updates.2 key (ne_eqb c.args.name.word word (λ same. apart (sym same))) ∙ ap (λ (names : Declared). number_at names word) c.self.view_is

pub returns-clause-undeclared : goal.returns-clause-undeclared
returns-clause-undeclared g c = λ text other none.
    still_undeclared c.self.inside.numbers c.insert.new.self c.args.name c.args.number c.in_ok-insert.field-0 text c.in_ok-insert.ensures.entries c.in_ok-insert.ensures.keys_stay other
    (subst (λ (names : Declared). IsUndeclared names text) (sym c.self.view_is) none)
