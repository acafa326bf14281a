use Rattle.std.proofs.Common.{◌≡◌, ℕ, List, Option, Some, string_bytes, sym, ap, subst, ◌∙◌}
use Rattle.std.specs.List.{AllZip}
use Rattle.named_set.specs.Words.{HeldWord}
use Rattle.example_named.specs.Symbols.{IsFound, number_at}
use Rattle.example_named.proofs.AllOk.{each_ok}
use Rattle.example_named.proofs.readers.declare_and_look_up_all_in.Goals as goal

pub returns : goal.returns
returns g c =
    let text : c.in_ok-held.held.text ≡ string_bytes c.args.declared.now = c.in_ok-held.ensures.text ∙ c.as_str.ensures.value in
    let word : c.in_ok-name.name.word ≡ c.in_ok-held.held.word = ap (λ (w : HeldWord). w.word) c.in_ok-name.ensures.same in
    let number : number_at c.in_ok-symbols.symbols c.in_ok-held.held.word ≡ Some c.args.number = ap (number_at c.in_ok-symbols.symbols) (sym word) ∙ c.in_ok-symbols.ensures.number in
    let all = each_ok (λ t found. IsFound c.in_ok-held.held.text (number_at c.in_ok-symbols.symbols c.in_ok-held.held.word) (string_bytes t) found) c.as_slice.result.now c.in_ok-all.all.items c.in_ok-results.results.items c.in_ok-all.ensures
    (sym c.in_ok-results.results.ok.0 ∙ c.in_ok-results.ensures.len) c.in_ok-results.ensures.each in
    subst (λ (bytes : List ℕ). AllZip (λ t found. IsFound bytes (Some c.args.number) (string_bytes t) found) c.args.texts.now.items c.in_ok-all.all.items) text
    (subst (λ (n : Option ℕ). AllZip (λ t found. IsFound c.in_ok-held.held.text n (string_bytes t) found) c.args.texts.now.items c.in_ok-all.all.items) number
    (rw (← c.as_slice.ensures.value) all))
