-- What a bucket answers that was asked for a share, with or without one.
use Rattle.std.specs.Prelude.{⊤}
use Rattle.counted_cell.specs.Cell.{OneShare}
use Rattle.counted_cell.specs.Counting.{CellName}
use Rattle.counted_cell.specs.declared.cell_log.LogSeen.{LogSeen}
use Rattle.named_set.specs.declared.bucket.Answer.{Answer}
use Rattle.named_set.specs.declared.bucket.Answer.TheVariants.{Held, Full, Absent}

-- P holds of the share, and of what was seen of the log
abbrev pub IfHeld : {G : Type 0} → Answer G → (OneShare → LogSeen → Type 0) → Type 0
IfHeld (Held share seen) P = P share seen
IfHeld (Full full grant) P = ⊤
IfHeld (Absent grant) P = ⊤

-- P holds of the cell that has as many shares as it may have
abbrev pub IfFull : {G : Type 0} → Answer G → (CellName → Type 0) → Type 0
IfFull (Held share seen) P = ⊤
IfFull (Full full grant) P = P full
IfFull (Absent grant) P = ⊤

-- P holds if there is none
abbrev pub IfAbsent : {G : Type 0} → Answer G → Type 0 → Type 0
IfAbsent (Held share seen) P = ⊤
IfAbsent (Full full grant) P = ⊤
IfAbsent (Absent grant) P = P
