use Rattle.std.proofs.Common.{sym}
use Rattle.std.proofs.lemmas.Bool.{false_from_ne_true}
use Rattle.std.proofs.lemmas.Slice.Eq.{bytes_eq-Decides}
use Rattle.std.specs.Prelude.{None}
use Rattle.std.specs.Str.{bytes_eq}
use Rattle.example_sets.proofs.prices.set_price.Goals as goal

pub returns-clause-others : goal.returns-clause-others
returns-clause-others c = λ other apart.
    let key = c.args.name.text in
    c.in_ok-insert.ensures.updates.2
    (record { text = other; word = 0; bits = None })
    (false_from_ne_true (bytes_eq key other) (λ same. apart (sym ((bytes_eq-Decides key other).0 same))))
