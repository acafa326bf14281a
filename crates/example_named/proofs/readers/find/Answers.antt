use Rattle.std.proofs.Common.{ℕ, List, Option, refl, sym, subst}
use Rattle.example_named.specs.Symbols.{IsFound, number_at}
use Rattle.example_named.proofs.Names.{beside}
use Rattle.example_named.proofs.readers.find.Goals as goal

pub returns : goal.returns
returns g c = λ e.
    subst (λ (text : List ℕ). IsFound c.args.held.now.text (number_at c.args.symbols.now c.args.held.now.word) text c.look_up.result) (c.in_ok-asked.ensures e)
    (subst (λ (found : Option ℕ). IsFound c.args.held.now.text (number_at c.args.symbols.now c.args.held.now.word) c.in_ok-asked.asked.text found) (sym c.look_up.ensures.number)
    (beside c.args.symbols.now c.args.held.now c.in_ok-asked.asked (number_at c.args.symbols.now c.args.held.now.word) c.agree.ensures refl c.requires.only))
