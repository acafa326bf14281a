use Rattle.std.proofs.Common.{◌∙◌, [], subst, sym}
use Rattle.interner_table.specs.Kept.{map_of}
use Rattle.interner_table.specs.Table.{AreHeld}
use Rattle.example_tables.proofs.symbols.reads_back.Goals as goal

pub returns-in_err-word-clause-held : goal.returns-in_err-word-clause-held
returns-in_err-word-clause-held g c = λ words held.
    subst (λ table. AreHeld g.Static.StaticAtomSet.tables (map_of table) words) (sym c.in_err-word.ensures.err) held

pub returns-in_err-copy-clause-held : goal.returns-in_err-copy-clause-held
returns-in_err-copy-clause-held g c = λ words held. c.release.ensures.listed [] words (c.in_ok-word.ensures.interned.listed words held)

pub returns-clause-text : goal.returns-clause-text
returns-clause-text g c = c.in_ok-copy.ensures.ok ∙ c.as_str.ensures ∙ c.in-Some.ensures.same c.args.name.now c.utf8.name c.in_ok-word.ensures.interned.word

pub returns-clause-held : goal.returns-clause-held
returns-clause-held g c = λ words held. c.release.ensures.listed [] words (c.in_ok-word.ensures.interned.listed words held)
