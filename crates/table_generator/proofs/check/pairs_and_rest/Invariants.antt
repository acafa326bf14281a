use Rattle.std.proofs.Common.{◌≡◌, ◌<◌, ◌^◌, ◌++◌, length}
use denote.Shadow.{shadow}
use denote.Text.{Utf8}
use Rattle.std.specs.List.{All, flat_map}
use Rattle.table_generator.specs.TableText.{disp_line}
use Rattle.table_generator.proofs.check.pairs_and_rest.Given as goal

abbrev pub invariant-loop-pair : goal.invariant-loop-pair
invariant-loop-pair l = record {
  utf8 : shadow (Utf8 l.rest);
  is : l.text ≡ flat_map disp_line l.disps.items ++ l.rest;
  small : All (λ pair. (pair.0 < 2 ^ 32) × (pair.1 < 2 ^ 32)) l.disps.items;
}

abbrev pub decreases-loop-pair : goal.decreases-loop-pair
decreases-loop-pair l = length l.rest
