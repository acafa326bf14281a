use Rattle.std.proofs.Common.{◌≡◌, ℕ, ◌<◌, length, Option, sym, subst}
use Rattle.std.specs.Prelude.{MatchOption}
use Rattle.std.specs.List.{remove}
use Rattle.atomic_steps.specs.Steps.{without_one}
use Rattle.atomic_steps.proofs.lists.Numbers.{spot}
use Rattle.atomic_steps.proofs.steps.entry_numbers.spot_of.Goals as goal

pub returns : goal.returns
returns c =
    let x = c.args.number in
    let xs = c.args.numbers.now in
    subst (λ (o : Option ℕ). MatchOption o (without_one x xs ≡ xs) (λ at. (at < length xs) × (without_one x xs ≡ remove xs at))) (sym c.place_in.ensures) (spot xs x)
