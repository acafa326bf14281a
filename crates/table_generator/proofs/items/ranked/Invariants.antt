use Rattle.std.proofs.Common.{◌≡◌, map, take}
use Rattle.std.specs.List.{All}
use Rattle.text_forms.specs.Phf.{hashes_of}
use Rattle.table_generator.specs.Generated.{texts_of}
use Rattle.table_generator.specs.Grouped.{rank_of}
use Rattle.table_generator.proofs.items.ranked.Given as goal

abbrev pub invariant-loop-text : goal.invariant-loop-text
invariant-loop-text l = record {
  texts : map (λ item. item.text.now) l.items.items ≡ texts_of (take l.text-index l.list);
  hashed : All (λ item. item.hashes ≡ hashes_of item.text.now l.key) l.items.items;
  ranked : All (λ item. item.rank ≡ rank_of l.others item.hashes) l.items.items;
}
