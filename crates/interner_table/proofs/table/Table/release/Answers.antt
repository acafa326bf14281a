use Rattle.std.proofs.Common.{refl, sym, inl, inr, false, true}
use Rattle.std.proofs.lemmas.Bool.{false≢true}
use Rattle.interner_table.specs.Kept.{map_of}
use Rattle.interner_table.proofs.calls.IfHeld.{unheld}
use Rattle.interner_table.proofs.calls.Outcomes.{given-done}
use Rattle.interner_table.proofs.table.Table.release.Goals as goal

pub returns : goal.returns
returns g c =
    given-done g.S.StaticTables.tables c.args.self.now c.args.word c.give_at.new.self c.is_sound.ensures c.is_sound-2.ensures true
    c.give_at.ensures.limits (λ no. absurd (false≢true (sym no))) (inl (c.give_at.ensures.gives c.args.word c.in-Some.ensures, refl)) (c.give_at.ensures.order c.args.word c.in-Some.ensures)

pub returns-then-is_fixed : goal.returns-then-is_fixed
returns-then-is_fixed g c =
    given-done g.S.StaticTables.tables c.args.self.now c.args.word c.args.self.now c.is_sound.ensures c.is_sound.ensures true
    refl (λ _. refl) (inl (inl (c.is_fixed.ensures.0 c.if-is_fixed.true, refl), refl)) (inl refl)

pub returns-in_default : goal.returns-in_default
returns-in_default g c =
    given-done g.S.StaticTables.tables c.args.self.now c.args.word c.args.self.now c.is_sound.ensures c.is_sound.ensures false
    refl (λ _. refl) (inr (unheld g.S.StaticTables.tables (map_of c.args.self.now) c.args.word c.is_fixed.result c.is_fixed.ensures c.if-is_fixed.false c.in_default.ensures, refl, refl)) (inl refl)
