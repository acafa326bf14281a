use Rattle.std.proofs.Common.{◌≡◌, ◌-◌, ◌^◌, false, length}
use Rattle.std.specs.Io.KnownBytes.{Consumes}
use Rattle.text_streams.proofs.streams.read_all.Given as goal

abbrev pub invariant-loop-n : goal.invariant-loop-n
invariant-loop-n g l = (g.S.Source.has_failed l.reader ≡ false) × Consumes (g.S.Source.remaining l.initial.reader) (g.S.Source.remaining l.reader) l.all.items

abbrev pub decreases-loop-n : goal.decreases-loop-n
decreases-loop-n g l = 2 ^ 64 - length l.all.items
