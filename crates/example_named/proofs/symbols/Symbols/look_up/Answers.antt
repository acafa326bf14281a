use Rattle.std.proofs.Common.{sym, subst, ◌≡◌, Some, rules, ◌==◌}
use Rattle.std.specs.Map.{lookup_key}
use Rattle.named_set.specs.Words.{HeldWord}
use Rattle.example_named.specs.Symbols.{Declared, IsUndeclared}
use Rattle.example_named.proofs.Names.{found_is_declared}
use Rattle.example_named.proofs.symbols.Symbols.look_up.Goals as goal

pub returns-in-Some-clause-undeclared : goal.returns-in-Some-clause-undeclared
returns-in-Some-clause-undeclared g c = λ none.
    let found : lookup_key (λ (k : HeldWord). c.args.name.now.word == k.word) c.self.inside.numbers.entries ≡ Some c.in-Some.declared.now = search rules in
    absurd (found_is_declared c.self.inside.numbers.entries c.args.name.now c.in-Some.declared.now found c.agree.ensures (subst (λ (names : Declared). IsUndeclared names c.args.name.now.text) (sym c.self.view_is) none))
