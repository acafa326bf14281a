use Rattle.std.proofs.Common.{Some, ℕ, Option, sym, subst}
use Rattle.example_named.specs.Symbols.{IsFound}
use Rattle.example_named.proofs.Names.{beside}
use Rattle.example_named.proofs.symbols.look_up_beside.Goals as goal

pub returns : goal.returns
returns g c =
    subst (λ (found : Option ℕ). IsFound c.args.declared.text (Some c.args.number) c.args.asked.now.text found) (sym c.look_up.ensures.number)
    (beside c.in_ok-symbols.symbols c.args.declared c.args.asked.now (Some c.args.number) c.agree.ensures c.in_ok-symbols.ensures.number c.in_ok-symbols.ensures.only)
