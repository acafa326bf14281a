-- Which faults may be returned, and when.
use Rattle.text_streams.specs.declared.faults.AppFault.{AppFault}
use Rattle.text_streams.specs.declared.faults.AppFault.TheVariants.{Read, Write, Text, Script, Worker, Keys, Intern, Gen}
use Rattle.string_cache.specs.declared.Fault.{Fault}
use Rattle.string_cache.specs.declared.Fault.TheVariants.{Memory, FullCount, TicketsSpent, NotText}
use Rattle.table_generator.specs.declared.tables.GenFault.{GenFault}
use Rattle.replay_script.specs.declared.faults.ScriptFault.{ScriptFault}
use Rattle.replay_script.specs.declared.faults.ScriptFault.TheVariants as script

-- the fault is lack of memory
abbrev pub IsMemory : Fault → Type 0
IsMemory Memory = Unit {0}
IsMemory FullCount = ⊥
IsMemory TicketsSpent = ⊥
IsMemory NotText = ⊥

-- each kind of fault, with what must hold of one that is returned: ⊥ if none is
pub record Faults : Type 1 where
  pub reads : Type 0
  pub writes : Type 0
  pub texts : Type 0
  pub scripts : Type 0
  pub workers : Type 0
  pub keys : Type 0
  pub interns : Fault → Type 0
  pub tables : GenFault → Type 0

-- the fault is one of these
abbrev pub IsOf : Faults → AppFault → Type 0
IsOf faults Read = faults.reads
IsOf faults Write = faults.writes
IsOf faults Text = faults.texts
IsOf faults (Script line) = faults.scripts
IsOf faults Worker = faults.workers
IsOf faults Keys = faults.keys
IsOf faults (Intern fault) = faults.interns fault
IsOf faults (Gen fault) = faults.tables fault

-- lack of memory alone
abbrev pub memory : Faults
memory = record { reads = ⊥; writes = ⊥; texts = ⊥; scripts = ⊥; workers = ⊥; keys = ⊥; interns = IsMemory; tables = λ fault. ⊥ }

-- those of the streams and the text too, as each command has them
abbrev pub streams : Faults
streams = record memory { reads = Unit {0}; writes = Unit {0}; texts = Unit {0} }

-- while the input is read
abbrev pub IsReadingFault : AppFault → Type 0
IsReadingFault fault = IsOf (record memory { reads = Unit {0} }) fault

-- while the input is read as a text
abbrev pub IsTextFault : AppFault → Type 0
IsTextFault fault = IsOf (record memory { reads = Unit {0}; texts = Unit {0} }) fault

-- what a script is refused for, as a fault of the program
abbrev pub of_script : ScriptFault → AppFault
of_script (script.NotAStep line) = Script line
of_script script.Memory = Intern Memory
