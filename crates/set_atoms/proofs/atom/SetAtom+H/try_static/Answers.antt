use Rattle.std.proofs.Common.{ap, sym, ◌∙◌}
use Rattle.std.proofs.lemmas.Bool.{false≢true}
use Rattle.set_atoms.proofs.Forms.{static_own, static_there, listed_static, not_static}
use Rattle.set_atoms.specs.AtomValue.{AtomValue}
use Rattle.set_atoms.proofs.atom.SetAtom+H.try_static.Goals as goal

pub of_static-requires : goal.of_static-requires
of_static-requires g c = static_own _ c.args.text.now c.in-Static.index (sym c.in-Static.ensures)

pub returns-in-Inline-clause-is_static : goal.returns-in-Inline-clause-is_static
returns-in-Inline-clause-is_static g c =
    let other = not_static _ c.args.text.now c.form_of_text.result c.form_of_text.ensures c.in-Inline.is in
    (λ some. absurd (false≢true some), λ static. sym other ∙ static)

pub returns-in-Inline-clause-listed : goal.returns-in-Inline-clause-listed
returns-in-Inline-clause-listed g c =
    let other = not_static _ c.args.text.now c.form_of_text.result c.form_of_text.ensures c.in-Inline.is in
    λ perfect listed long. sym other ∙ listed_static _ c.args.text.now perfect listed long

pub returns-in-Static-clause-text : goal.returns-in-Static-clause-text
returns-in-Static-clause-text g c =
    ap (λ (atom : AtomValue). atom.text) c.of_static.ensures
    ∙ static_there _ c.args.text.now c.in-Static.index (sym c.in-Static.ensures)
