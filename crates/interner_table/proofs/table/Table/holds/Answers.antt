use Rattle.std.proofs.Common.{◌∙◌, sym, refl, inl}
use Rattle.std.proofs.lemmas.Bool.{false≢true}
use Rattle.interner_table.specs.Table.{IsHeld}
use Rattle.interner_table.proofs.calls.HeldWords.{held-if-placed}
use Rattle.interner_table.proofs.table.Table.holds.Goals as goal

pub returns-then-is_fixed : goal.returns-then-is_fixed
unfolding IsHeld
returns-then-is_fixed g c = (λ _. inl (c.is_fixed.ensures.0 c.if-is_fixed.true), λ _. refl)

pub returns : goal.returns
returns g c = held-if-placed g.S.StaticTables.tables c.args.self.now c.args.word (λ fixed. false≢true (sym c.if-is_fixed.false ∙ c.is_fixed.ensures.1 fixed)) c.place_of.result c.place_of.ensures c.is_some.result c.is_some.ensures
