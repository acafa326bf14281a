use Rattle.std.proofs.Common.{ap, ◌∙◌}
use Rattle.set_atoms.proofs.Cases.{in_case_utf8}
use Rattle.set_atoms.specs.Case.{in_case}
use Rattle.set_atoms.proofs.atom.case.Case.write.Goals as goal

pub returns-clause-utf8 : goal.returns-clause-utf8
returns-clause-utf8 c =
    let copied = c.copy_from_slice.ensures.after ∙ c.as_bytes.ensures.value in
    in_case_utf8 c.args.self c.args.text.now c.change.new.bytes (c.change.ensures ∙ ap (in_case c.args.self) copied) c.utf8.text
