use Rattle.std.proofs.Common.{ℕ, List, sym, subst}
use Rattle.example_named.specs.Symbols.{IsUndeclared}
use Rattle.example_named.proofs.readers.ask.Goals as goal

pub returns : goal.returns
returns g c = λ e.
    let is = c.in_ok-name.ensures e in
    (is, c.look_up-number.ensures.number, (λ none. c.look_up-number.ensures.undeclared (subst (λ (text : List ℕ). IsUndeclared c.args.symbols.now text) (sym is) none)))
