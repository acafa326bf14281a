use Rattle.std.proofs.Common.{◌≡◌, false, drop, string_bytes}
use Rattle.std.specs.List.{flat_map}
use Rattle.commands.specs.CountLines.{count_line}
use Rattle.word_counts.specs.WordCounts.{counted_texts}
use Rattle.commands.proofs.WrittenLines.{Written}
use Rattle.commands.proofs.count.write_lines.Given as goal

abbrev pub invariant-loop-atom : goal.invariant-loop-atom
invariant-loop-atom g l = record {
  sound : g.K.Sink.has_failed l.writer ≡ false;
  lines : Written (g.K.Sink.contents l.initial.writer) (g.K.Sink.contents l.writer) (flat_map count_line (counted_texts l.counts)) (string_bytes l.pending) (flat_map count_line (counted_texts (drop l.atom-index l.counts)));
}
