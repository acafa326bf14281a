-- Which faults counting words may return.
use Rattle.string_cache.specs.Faults.{IsInternFault}
use Rattle.text_streams.specs.declared.faults.AppFault.{AppFault}
use Rattle.text_streams.specs.Faults.{IsOf, memory}

-- from counting words
abbrev pub IsCountFault : AppFault → Type 0
IsCountFault fault = IsOf (record memory { workers = Unit {0}; interns = IsInternFault }) fault
