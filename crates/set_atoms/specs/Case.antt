-- The cases of letters, and why putting an atom into one of them may be refused.
use Rattle.std.specs.Prelude.{◌≢◌, ℕ, ◌<◌, ◌⊎◌, IsTrue, List, length}
use Rattle.std.specs.Str.{str_to_ascii_uppercase, str_to_ascii_lowercase}
use Rattle.text_forms.specs.Tables.{Tables, is_dynamic}
use Rattle.text_forms.specs.declared.faults.Fault.{Fault}
use Rattle.text_forms.specs.declared.faults.Fault.TheVariants.{Memory, FullCount, TicketsSpent, NotText}
use Rattle.set_atoms.specs.declared.atom.case.Case.{Case}
use Rattle.set_atoms.specs.declared.atom.case.Case.TheVariants.{Upper, Lower}

-- the text with each of its letters a to z and A to Z in one case, and every other byte as it was
abbrev pub in_case : Case → List ℕ → List ℕ
in_case Upper text = str_to_ascii_uppercase text
in_case Lower text = str_to_ascii_lowercase text

-- What a case call may be refused for, by the text and the one that it is changed to. If they are the same the atom is
-- cloned, which is refused for a full count alone. A changed text of at most 64 bytes is refused only if it is dynamic; a
-- longer one may lack memory in any form.
abbrev pub IsCaseFault : Tables → List ℕ → List ℕ → Fault → Type 0
IsCaseFault t text changed Memory = (changed ≢ text) × ((64 < length changed) ⊎ IsTrue (is_dynamic t changed))
IsCaseFault t text changed FullCount = IsTrue (is_dynamic t changed)
IsCaseFault t text changed TicketsSpent = (changed ≢ text) × IsTrue (is_dynamic t changed)
IsCaseFault t text changed NotText = ⊥
