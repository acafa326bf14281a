use Rattle.std.proofs.Common.{length, string_bytes}
use denote.Text.{Utf8}
use denote.Shadow.{shadow}
use Rattle.text_forms.specs.Tables.{empty_tables}
use Rattle.replay_script.proofs.RunLemmas.{Running}
use Rattle.replay_script.proofs.replay.output_of.Given as goal

abbrev pub invariant-loop-line : goal.invariant-loop-line
invariant-loop-line l = shadow (Utf8 l.rest) × Running empty_tables l.fn.limits l.fn.buckets l.text l.rest l.world l.steps.items (string_bytes l.out) l.most

abbrev pub decreases-loop-line : goal.decreases-loop-line
decreases-loop-line l = length l.rest
