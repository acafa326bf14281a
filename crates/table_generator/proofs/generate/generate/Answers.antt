use Rattle.std.proofs.Common.{rules, ◌<◌, ◌^◌}
use Rattle.table_generator.specs.Generated.{tables_of, texts_of}
use Rattle.table_generator.proofs.Making.{printed_tables}
use Rattle.table_generator.proofs.generate.generate.Goals as goal

pub returns-in-Some : goal.returns-in-Some
returns-in-Some c =
    let made = rw c.in-Some.is at c.in_ok-tables.ensures.made in
    let small = rw c.in-Some.is at c.in_ok-tables.ensures.small in
    let key : c.args.key < 2 ^ 64 = search rules in
    let bound : c.args.bound < 2 ^ 32 = search rules in
    record {
      ok = made;
      printed = printed_tables (texts_of c.args.list.now) c.args.key c.args.bound (tables_of c.in-Some.tables) c.if-has_feed.ensures.no key bound made small;
      empty = search rules;
      feed = search rules;
      doubled = search rules;
      unplaced = search rules;
    }
