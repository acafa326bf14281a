use Rattle.std.proofs.Common.{◌∙◌, ap, map, length, refl, rules, string_bytes}
use Rattle.std.proofs.lemmas.List.{map_push, take_all}
use Rattle.std.proofs.lemmas.List.Sorted.{IsNonDecreasingBy-from_sort_by_key}
use Rattle.table_generator.proofs.Placing.{assembled_items, told_one_more}
use Rattle.table_generator.proofs.items.assemble.Goals as goal

-- one text more, and its hash
pub loop-text-preserved : goal.loop-text-preserved
loop-text-preserved c =
    let list = c.deref-text-items.result.now in
    let at = c.loop-text.text-index in
    record {
      texts =
          ap (map string_bytes) c.in_ok-push.ensures.items ∙ map_push string_bytes c.loop-text.atoms.items c.in_ok-from_str.field-0
          ∙ told_one_more (λ text. text.text.now) list at _ _ _ c.loop-text-test.true c.loop-text.invariant.texts c.in_ok-from_str.ensures.ok;
      hashes = c.in_ok-push-2.ensures.items ∙ told_one_more (λ text. text.hash) list at _ _ _ c.loop-text-test.true c.loop-text.invariant.hashes refl;
    }

pub returns : goal.returns
returns c =
    let after = c.sort_unstable_by_key.new.self.items in
    let before = c.in_ok-placed.placed.items in
    let whole = take_all c.loop-text.text-index c.deref-text-items.result.now c.loop-text-test.false ∙ c.deref-text-items.ensures.value in
    assembled_items c.args.key (length c.args.items.now) c.args.disps.items (λ item. item.text.now) (λ item. item.hashes) c.args.items.now
    (λ text. text.text.now) (λ text. text.place) (λ text. text.hash) before after
    c.requires.hashed c.in_ok-placed.ensures.texts c.sort_unstable_by_key.ensures.permutation
    refl c.requires.some c.requires.few c.requires.displaced c.requires.few_pairs
    (rw c.deref.ensures.value at c.in_ok-placed.ensures.places) c.in_ok-placed.ensures.hashes c.requires.apart
    (IsNonDecreasingBy-from_sort_by_key (λ text. text.place) _ c.sort_unstable_by_key.ensures.sorted (λ a r q k. search rules))
    (map string_bytes c.loop-text.atoms.items) c.loop-text.hashes.items
    (c.loop-text.invariant.texts ∙ ap (map (λ text. text.text.now)) whole) (c.loop-text.invariant.hashes ∙ ap (map (λ text. text.hash)) whole) c.in_ok-placed.ensures.small
