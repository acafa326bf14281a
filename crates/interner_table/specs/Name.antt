-- The words in what calls with names return.
use Rattle.std.specs.Prelude.{ℕ, Option, Some, None, Result, Ok, Err}
use Rattle.text_forms.specs.declared.faults.Fault.{Fault}
use Rattle.interner_table.specs.declared.table.name.Name.{Name}

-- an answer with a name, as one with its word
abbrev pub word_in : {K : Type 0} → Result (Name K) Fault → Result ℕ Fault
word_in (Ok name) = Ok name.word
word_in (Err fault) = Err fault

-- the same of an answer that may have no name
abbrev pub word_in_some : {K : Type 0} → Result (Option (Name K)) Fault → Result (Option ℕ) Fault
word_in_some (Ok (Some name)) = Ok (Some name.word)
word_in_some (Ok None) = Ok None
word_in_some (Err fault) = Err fault
