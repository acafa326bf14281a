use Rattle.std.proofs.Common.{◌∙◌, ap}
use Rattle.example_named.specs.Symbols.{Declared, number_at}
use Rattle.example_named.proofs.symbols.only.Goals as goal

pub returns-clause-only : goal.returns-clause-only
returns-clause-only g c = λ other apart. c.in_ok-declare.ensures.others other apart ∙ ap (λ (names : Declared). number_at names other) c.new-symbols.ensures
