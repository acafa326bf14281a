use Rattle.std.proofs.Common.{rules, ◌≡◌, map, subst}
use Rattle.std.specs.List.Sorted.{IsPermutation}
use Rattle.std.proofs.lemmas.List.Sorted.{All-permutation, IsNonDecreasingBy-from_sort_by_key, IsPermutation-map}
use Rattle.text_forms.specs.Phf.{hashes_of}
use Rattle.table_generator.specs.Grouped.{rank_of}
use Rattle.table_generator.proofs.Ranking.{grouped_by}
use Rattle.table_generator.proofs.items.items_of.Goals as goal

pub returns-clause-texts : goal.returns-clause-texts
returns-clause-texts c =
    subst (λ texts. IsPermutation texts (map (λ item. item.text.now) c.sort_unstable_by_key.new.self.items)) c.in_ok-items.ensures.texts
    (IsPermutation-map (λ item. item.text.now) c.in_ok-items.items.items c.sort_unstable_by_key.new.self.items c.sort_unstable_by_key.ensures.permutation)

pub returns-clause-hashed : goal.returns-clause-hashed
returns-clause-hashed c =
    All-permutation (λ item. item.hashes ≡ hashes_of item.text.now c.args.key) c.in_ok-items.items.items c.sort_unstable_by_key.new.self.items c.sort_unstable_by_key.ensures.permutation c.in_ok-items.ensures.hashed

pub returns-clause-grouped : goal.returns-clause-grouped
returns-clause-grouped c =
    grouped_by (λ item. item.hashes) (λ item. item.rank) c.in_ok-others.others.items c.args.pairs c.sort_unstable_by_key.new.self.items c.requires.pairs c.in_ok-others.ensures.count
    (IsNonDecreasingBy-from_sort_by_key (λ item. item.rank) _ c.sort_unstable_by_key.ensures.sorted (λ a r q k. search rules))
    (All-permutation (λ item. item.rank ≡ rank_of c.in_ok-others.others.items item.hashes) c.in_ok-items.items.items c.sort_unstable_by_key.new.self.items c.sort_unstable_by_key.ensures.permutation (rw c.deref.ensures.value at c.in_ok-items.ensures.ranked))
