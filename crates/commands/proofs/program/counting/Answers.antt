use Rattle.std.proofs.Common.{arith, rules, sym, ◌∙◌, ◌≡◌}
use Rattle.std.proofs.lemmas.Fmt.{decimal_injective}
use Rattle.commands.proofs.CommandLemmas.{counts, counts_nothing}
use Rattle.commands.proofs.program.counting.Goals as goal
use Rattle.commands.proofs.program.counting.Goals.{then-n-eq0-via-then-n-eq0, then-n-eq0-via-else-n-eq0+then-n-gt-MOST_WORKERS}

pub returns-then-n-eq0 : goal.returns-then-n-eq0
returns-then-n-eq0 c = counts_nothing c.args.word.now c.args.number.now (λ n within spelt.
    let same : n ≡ c.in-Some.n = decimal_injective n c.in-Some.n (omega (arith, within)) (omega arith) (sym spelt ∙ c.in-Some.ensures) in
    absurd (elim c.then-n-eq0.branch [ then-n-eq0-via-then-n-eq0 w ↦ omega (arith, within, same) | then-n-eq0-via-else-n-eq0+then-n-gt-MOST_WORKERS w ↦ omega (arith, within, same) ]))

pub returns : goal.returns
returns c = counts c.args.word.now c.args.number.now c.in-Some.n (search rules) c.in-Some.ensures (search rules)
