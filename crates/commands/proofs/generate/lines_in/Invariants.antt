use Rattle.std.proofs.Common.{◌≡◌, ◌++◌, length}
use denote.Text.{Utf8}
use denote.Shadow.{shadow}
use Rattle.table_generator.specs.Generated.{texts_of}
use Rattle.replay_script.specs.Script.{script_lines}
use Rattle.commands.proofs.generate.lines_in.Given as goal

abbrev pub invariant-loop-line : goal.invariant-loop-line
invariant-loop-line l = record {
  utf8 : shadow (Utf8 l.rest);
  lines : texts_of l.list.items ++ script_lines l.rest ≡ script_lines l.text;
}

abbrev pub decreases-loop-line : goal.decreases-loop-line
decreases-loop-line l = length l.rest
