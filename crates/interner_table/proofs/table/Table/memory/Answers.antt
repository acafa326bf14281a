use Rattle.std.proofs.Common.{◌<◌, ◌^◌, arith, length, rules}
use Rattle.std.specs.Prelude.{string_bytes}
use Rattle.std.proofs.lemmas.Grind.{common_steps}
use Rattle.std.proofs.lemmas.List.{length-map}
use Rattle.interner_table.specs.Kept.{Pair, pairs_of}
use Rattle.interner_table.proofs.kept.Bytes.{bytes-few}
use Rattle.interner_table.proofs.table.Table.memory.Goals as goal

pub bytes_of-requires-clause-texts : goal.bytes_of-requires-clause-texts
bytes_of-requires-clause-texts g c =
    let pairs = length-map {B = Pair} c.self.inside.entries.entries (λ e. (string_bytes e.0, e.1)) in
    let len = c.len.ensures.len in
    let small = c.len.ensures.small in
    let few : length (pairs_of c.self.inside.entries.entries) < 2 ^ 63 = omega (arith, pairs, len, small) in
    let most = bytes-few (pairs_of c.self.inside.entries.entries) c.self.invariant.short few in
    let counted = c.self.invariant.counted in
    omega (arith, most, counted)

pub returns : goal.returns
returns g c = record {
  texts = c.groups-texts.result;
  tickets = c.groups-tickets.result;
  places_of_texts = grind (arith, common_steps);
  places_of_tickets = grind (arith, common_steps);
  sum = search rules;
}
