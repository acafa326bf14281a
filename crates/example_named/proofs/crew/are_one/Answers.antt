use Rattle.std.proofs.Common.{◌≡◌, ◌∷◌, rules}
use Rattle.named_set.specs.Words.{HeldWord}
use Rattle.example_named.proofs.SameTexts.{one_text}
use Rattle.example_named.proofs.crew.are_one.Goals as goal

pub returns-in-Some : goal.returns-in-Some
returns-in-Some g c =
    let is : c.args.words.now ≡ c.in-Some.first.now ∷ c.in-Some.rest.now = search rules in
    one_text (λ (word : HeldWord). word.text) c.args.words.now c.in-Some.rest.now c.in-Some.first.now c.are_all.result is c.are_all.ensures
