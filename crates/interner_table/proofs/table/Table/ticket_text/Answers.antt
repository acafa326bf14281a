use Rattle.std.proofs.Common.{◌∙◌, ap, sym, subst, ◌≡◌, ℕ, List, Some}
use Rattle.std.specs.Map.{lookup}
use Rattle.std.specs.Prelude.{slice_get}
use Rattle.std.specs.Str.{bytes_eq}
use Rattle.std.proofs.lemmas.Option.{same_Some}
use Rattle.interner_table.specs.Kept.{Kept, Pair}
use Rattle.interner_table.proofs.kept.Pairs.{at-pairs}
use Rattle.interner_table.proofs.table.Table.ticket_text.Goals as goal

pub returns : goal.returns
returns g c =
    let place = c.in_ok-at.ensures in
    let there = ap (λ (kept : Kept). slice_get kept.pairs c.in_ok-at.at) (sym c.self.view_is) ∙ at-pairs c.self.inside.entries.entries c.in_ok-at.at c.in_ok-text.text.now c.in_ok-text.field-0-1.now (sym c.in_ok-text.ensures.entry) in
    let same : place.text ≡ c.as_str.result.now = ap (λ (pair : Pair). pair.0) (same_Some _ _ (sym place.found.there ∙ there)) ∙ sym c.as_str.ensures.value in
    (place.holders, subst (λ (text : List ℕ). lookup (bytes_eq text) c.args.self.now.pairs ≡ Some (record { ticket = c.args.ticket; holders = place.holders })) same place.found.held)
