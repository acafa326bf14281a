use Rattle.std.proofs.Common.{◌≡◌, map, take, string_bytes}
use Rattle.table_generator.proofs.items.assemble.Given as goal

abbrev pub invariant-loop-text : goal.invariant-loop-text
invariant-loop-text l = record {
  texts : map string_bytes l.atoms.items ≡ map (λ text. text.text.now) (take l.text-index l.text-items);
  hashes : l.hashes.items ≡ map (λ text. text.hash) (take l.text-index l.text-items);
}
