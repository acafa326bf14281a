use Rattle.std.proofs.Common.{◌≡◌, ◌∙◌, ap, map, refl, rules, subst, sym}
use Rattle.std.proofs.lemmas.List.{map_push}
use Rattle.std.proofs.lemmas.List.Elements.{All-push}
use Rattle.std.specs.List.{All}
use Rattle.text_forms.specs.Phf.{hashes_of}
use Rattle.table_generator.specs.Grouped.{rank_of}
use Rattle.table_generator.specs.declared.items.Item.{Item}
use Rattle.table_generator.proofs.Placing.{told_one_more}
use Rattle.table_generator.proofs.items.ranked.Goals as goal

-- one text more, with its hashes and its rank
pub loop-text-preserved : goal.loop-text-preserved
loop-text-preserved c =
    let before = c.loop-text.invariant in
    let items = c.in_ok-push.ensures.items in
    let is_hashed : Item → Type 0 = λ item. item.hashes ≡ hashes_of item.text.now c.args.key in
    let is_ranked : Item → Type 0 = λ item. item.rank ≡ rank_of c.args.others.now item.hashes in
    record {
      texts =
          ap (map (λ (item : Item). item.text.now)) items ∙ map_push (λ (item : Item). item.text.now) c.loop-text.items.items _
          ∙ told_one_more (λ text. text.now) c.args.list.now c.loop-text.text-index _ _ _ c.loop-text-test.true before.texts refl;
      hashed = subst (All is_hashed) (sym items) (All-push is_hashed c.loop-text.items.items _ before.hashed c.hash-hashes.ensures);
      ranked = subst (All is_ranked) (sym items) (All-push is_ranked c.loop-text.items.items _ before.ranked (search rules));
    }
