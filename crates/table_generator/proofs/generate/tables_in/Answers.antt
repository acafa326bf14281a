use Rattle.std.proofs.Common.{◌≡◌, ◌∙◌, ap, arith, length, map, sym}
use Rattle.std.proofs.lemmas.List.{length-map}
use Rattle.table_generator.specs.Generated.{pairs_for, tables_of, texts_of}
use Rattle.table_generator.proofs.Making.{none_placeable, tables_made}
use Rattle.table_generator.proofs.generate.tables_in.Goals as goal

pub displace-requires-clause-grouped : goal.displace-requires-clause-grouped
displace-requires-clause-grouped c =
    rw (c.deref-2.ensures.value, c.in_ok-hashes.ensures) (rw c.deref.ensures.value c.in_ok-items.ensures.grouped)

pub returns-in_default-clause-unplaced : goal.returns-in_default-clause-unplaced
returns-in_default-clause-unplaced c = λ _ few.
    let many = length-map c.args.list.now (λ text. text.now) in
    none_placeable (λ item. item.text.now) (λ item. item.hashes) c.in_ok-items.items.items (texts_of c.args.list.now) c.args.key c.args.bound c.tried-tried.result.second
    c.in_ok-items.ensures.texts c.in_ok-items.ensures.hashed
    (rw many (c.tried-tried.ensures.reached few))
    (λ d1 d2 p q. rw (c.deref-2.ensures.value, c.in_ok-hashes.ensures, c.deref.ensures.value) at (c.in_ok-disps.ensures.unplaced c.in_default.is (omega (arith, few, c.requires.some)))
    d1 d2 (omega (arith, p, c.tried-tried.ensures.order)) q)

pub returns-clause-made : goal.returns-clause-made
returns-clause-made c =
    let many = length-map c.args.list.now (λ text. text.now) in
    let places = rw c.in-Some.is at c.in_ok-disps.ensures.found in
    let count : length c.in-Some.disps.items ≡ pairs_for (length (texts_of c.args.list.now)) = places.count ∙ ap pairs_for (sym many) in
    tables_made (texts_of c.args.list.now) (map (λ item. item.text.now) c.in_ok-items.items.items) c.args.key c.args.bound c.tried-tried.result.first c.in-Some.disps.items
    (tables_of c.in_ok-assemble.field-0) c.in_ok-items.ensures.texts (rw c.deref-3.ensures.value at c.in_ok-assemble.ensures) count c.tried-tried.ensures.most places.bounded
