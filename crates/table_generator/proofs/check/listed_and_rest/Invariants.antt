use Rattle.std.proofs.Common.{◌≡◌, ◌<◌, ◌^◌, ◌++◌, length}
use denote.Shadow.{shadow}
use denote.Text.{Utf8}
use Rattle.std.specs.List.{All}
use Rattle.table_generator.specs.Generated.{texts_of}
use Rattle.table_generator.specs.TableText.{atom_lines, HasNoFeed}
use Rattle.table_generator.proofs.check.listed_and_rest.Given as goal

abbrev pub invariant-loop-hash : goal.invariant-loop-hash
invariant-loop-hash l = record {
  utf8 : shadow (Utf8 l.rest);
  is : l.text ≡ atom_lines l.hashes.items (texts_of l.atoms.items) ++ l.rest;
  count : length l.hashes.items ≡ length (texts_of l.atoms.items);
  small : All (λ hash. hash < 2 ^ 64) l.hashes.items;
  one_line : All HasNoFeed (texts_of l.atoms.items);
}

abbrev pub decreases-loop-hash : goal.decreases-loop-hash
decreases-loop-hash l = length l.rest
