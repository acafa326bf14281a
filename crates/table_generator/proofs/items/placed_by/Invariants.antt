use Rattle.std.proofs.Common.{◌≡◌, ◌<◌, ◌^◌, length, map, take}
use Rattle.std.specs.List.{All}
use Rattle.text_forms.specs.Phf.{hash_of_hashes, place_of}
use Rattle.table_generator.proofs.items.placed_by.Given as goal

abbrev pub invariant-loop-item : goal.invariant-loop-item
invariant-loop-item l = record {
  texts : map (λ text. text.text.now) l.placed.items ≡ map (λ item. item.text.now) (take l.item-index l.items);
  places : map (λ text. text.place) l.placed.items ≡ map (λ item. place_of item.hashes l.disps (length l.items)) (take l.item-index l.items);
  hashes : map (λ text. text.hash) l.placed.items ≡ map (λ item. hash_of_hashes item.hashes) (take l.item-index l.items);
  small : All (λ text. text.hash < 2 ^ 64) l.placed.items;
}
