use Rattle.std.proofs.Common.{◌≡◌, ◌∙◌, ap, sym, ℕ, List, Some}
use Rattle.std.specs.String.{string_bytes}
use Rattle.text_forms.specs.Tables.{form_of_text}
use Rattle.text_forms.specs.declared.static_sets.TextForm.TheVariants as form
use Rattle.atomic_steps.proofs.rows.AtEntries.{intern_taken}
use Rattle.atomic_steps.proofs.steps.state.State.take_intern.Goals as goal

pub returns-clause-ok : goal.returns-clause-ok
returns-clause-ok g c =
    let tables = g.S.StaticTables.tables in
    let text = string_bytes c.args.text.now in
    let is : form_of_text tables text ≡ form.Dynamic c.in-Dynamic.hash = ap (form_of_text tables) (sym c.as_str.ensures.value) ∙ sym c.in-Dynamic.ensures in
    let same : string_bytes c.in_ok-text.text ≡ text = c.in_ok-text.ensures.cases in
    intern_taken tables c.args.self.now c.args.party text c.in-Dynamic.hash c.bucket_of-bucket.result is c.bucket_of-bucket.ensures.value _ c.is_idle_and_free.ensures c.if-not-is_idle_and_free.false
    _ (ap (λ (t : List ℕ). Some t) same) _ c.in_ok-start_pass.ensures.ok
