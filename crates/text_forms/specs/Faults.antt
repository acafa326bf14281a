-- The numbers of the faults, and why calls may be refused.
use Rattle.std.specs.Prelude.{◌≡◌, ℕ, ⊤, Result, Err, OnErr}
use Rattle.text_forms.specs.declared.faults.Fault.{Fault}
use Rattle.text_forms.specs.declared.faults.Fault.TheVariants.{Memory, FullCount, TicketsSpent, NotText}

-- the number of a fault, as C and the program tell it
abbrev pub fault_number : Fault → ℕ
fault_number Memory = 1
fault_number FullCount = 2
fault_number TicketsSpent = 3
fault_number NotText = 4

-- why interning may be refused
abbrev pub IsInternFault : Fault → Type 0
IsInternFault Memory = ⊤
IsInternFault FullCount = ⊤
IsInternFault TicketsSpent = ⊤
IsInternFault NotText = ⊥

-- An Err is for lack of memory, and leaves all as it was.
abbrev pub RefusesUnchanged : {W A : Type 0} → W → Result A Fault → W → Type 0
RefusesUnchanged old result new = OnErr result ((new ≡ old) × (result ≡ Err Memory))
