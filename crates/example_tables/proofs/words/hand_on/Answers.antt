use Rattle.std.proofs.Common.{inr, rules, subst}
use Rattle.interner_table.specs.Kept.{map_of}
use Rattle.interner_table.specs.Table.{IsHeld}
use Rattle.example_tables.proofs.words.hand_on.Goals as goal

-- the next holder's word and the one that is given are both held, so one still is
pub returns-clause-held : goal.returns-clause-held
returns-clause-held g c =
    let both = c.in_ok-next.ensures.both c.args.word c.requires in
    subst (λ word. IsHeld g.S.StaticTables.tables (map_of c.give.new.self) word) c.in_ok-next.ensures.word (c.give.ensures.left c.in_ok-next.next both)

-- the word is held after both calls, so it keeps what it had before each
pub returns-clause-text : goal.returns-clause-text
returns-clause-text g c = λ text has.
    let held : IsHeld g.S.StaticTables.tables (map_of c.give.new.self) c.args.word = search rules in
    (c.give.ensures.given.keeps c.args.word (inr held)).owned text ((c.in_ok-next.ensures.cloned.keeps c.args.word).owned text has)
