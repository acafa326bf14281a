use Rattle.set_atoms.proofs.Cases.{again_where_ok}
use Rattle.set_atoms.specs.AtomValue.{AtomValue}
use Rattle.set_atoms.specs.declared.atom.case.Case.TheVariants.{Upper}
use Rattle.set_atoms.proofs.atom.case.SetAtom+H.to_ascii_uppercase_in.Goals as goal

pub returns-clause-again : goal.returns-clause-again
returns-clause-again g c = again_where_ok (λ (atom : AtomValue). atom.text) Upper c.args.self.now.text c.to_case_in.result c.to_case_in.ensures.text

pub returns-clause-text : goal.returns-clause-text
returns-clause-text g c = c.to_case_in.ensures.text

pub returns-clause-same : goal.returns-clause-same
returns-clause-same g c = c.to_case_in.ensures.same

pub returns-clause-refused : goal.returns-clause-refused
returns-clause-refused g c = c.to_case_in.ensures.refused
