-- Which faults the commands may return, and when.
use Rattle.std.specs.Prelude.{◌≢◌}
use Rattle.string_cache.specs.Faults.{IsInternFault}
use Rattle.table_generator.specs.declared.tables.GenFault.{GenFault}
use Rattle.text_streams.specs.declared.faults.AppFault.{AppFault}
use Rattle.text_streams.specs.declared.faults.AppFault.TheVariants.{Write}
use Rattle.text_streams.specs.Faults.{IsOf, memory, streams}

-- once all is read and before anything is written: lack of memory, or a fault of the tables of which P holds
abbrev pub IsMakingFault : (GenFault → Type 0) → AppFault → Type 0
IsMakingFault P fault = IsOf (record memory { tables = P }) fault

-- from the words of a text at any point
abbrev pub IsWordsFault : AppFault → Type 0
IsWordsFault fault = IsOf (record streams { interns = IsInternFault }) fault

-- from a script at any point
abbrev pub IsReplayFault : AppFault → Type 0
IsReplayFault fault = IsOf (record streams { scripts = Unit {0} }) fault

-- from making tables
abbrev pub IsGenerateFault : AppFault → Type 0
IsGenerateFault fault = IsOf (record streams { tables = λ fault. Unit {0} }) fault

-- from checking a table text
abbrev pub IsCheckFault : AppFault → Type 0
IsCheckFault fault = IsOf streams fault

-- while words are interned and their lines written
abbrev pub IsWritingFault : AppFault → Type 0
IsWritingFault fault = IsOf (record memory { writes = Unit {0}; interns = IsInternFault }) fault

-- before anything is written
abbrev pub IsUnwrittenFault : AppFault → Type 0
IsUnwrittenFault fault = IsOf (record memory { reads = Unit {0}; texts = Unit {0}; scripts = Unit {0}; interns = λ fault. ⊥ }) fault

-- from anything but a write
abbrev pub IsNotWrite : AppFault → Type 0
IsNotWrite fault = fault ≢ Write

-- from counting words and writing lines of them
abbrev pub IsWritingCountsFault : AppFault → Type 0
IsWritingCountsFault fault = IsOf (record memory { writes = Unit {0}; workers = Unit {0}; interns = IsInternFault }) fault

-- from counting the words of what is read
abbrev pub IsCountCommandFault : AppFault → Type 0
IsCountCommandFault fault = IsOf (record streams { interns = IsInternFault; workers = Unit {0} }) fault
