use Rattle.std.proofs.Common.{◌≡◌, ◌↔◌, ℕ, List, map, IsTrue, string_bytes, ap, subst, ◌∙◌}
use Rattle.named_set.specs.Words.{HeldWord}
use Rattle.example_named.specs.Texts.{AreOneText}
use Rattle.example_named.proofs.SameTexts.{same_texts}
use Rattle.example_named.proofs.crew.crew_agrees_in.Goals as goal

pub returns : goal.returns
returns g c =
    let same : map (λ (word : HeldWord). word.text) c.as_slice.result.now ≡ map string_bytes c.args.texts.now =
    ap (map (λ (word : HeldWord). word.text)) c.as_slice.ensures.value ∙ same_texts (λ (word : HeldWord). word.text) string_bytes c.args.texts.now c.in_ok-words.words.items c.in_ok-words.ensures in
    subst (λ (texts : List (List ℕ)). IsTrue c.are_one.result ↔ AreOneText texts) same c.are_one.ensures
