use Rattle.std.proofs.Common.{inl, refl, subst, ℕ, Ok, Result}
use Rattle.text_forms.specs.declared.faults.Fault.{Fault}
use Rattle.interner_table.specs.Kept.{map_of}
use Rattle.interner_table.specs.Outcomes.{Cloned}
use Rattle.interner_table.specs.Table.{in_some}
use Rattle.interner_table.proofs.calls.IfHeld.{unheld}
use Rattle.interner_table.proofs.calls.Outcomes.{cloned-done, cloned-none}
use Rattle.interner_table.proofs.calls.Replies.{as_held, cloned-ticket}
use Rattle.interner_table.proofs.table.Table.clone_held.Goals as goal

pub returns-then-is_fixed-clause-cloned : goal.returns-then-is_fixed-clause-cloned
returns-then-is_fixed-clause-cloned g c =
    cloned-done g.S.StaticTables.tables c.args.self.now c.args.word c.args.self.now c.is_sound.ensures c.is_sound.ensures
    (Ok c.args.word) refl (inl (c.is_fixed.ensures.0 c.if-is_fixed.true, refl, refl)) refl

pub returns-in_default-clause-cloned : goal.returns-in_default-clause-cloned
returns-in_default-clause-cloned g c =
    cloned-none g.S.StaticTables.tables c.args.self.now c.args.word c.is_sound.ensures
    (unheld g.S.StaticTables.tables (map_of c.args.self.now) c.args.word c.is_fixed.result c.is_fixed.ensures c.if-is_fixed.false c.in_default.ensures)

pub returns-in-Err-clause-cloned : goal.returns-in-Err-clause-cloned
returns-in-Err-clause-cloned g c =
    let p = c.in-Some.ensures in
    let clones = cloned-ticket g.S.StaticTables.tables c.args.self.now.limits (map_of c.args.self.now) (map_of c.add_holder-outcome.new.self) c.args.word (as_held (map_of c.args.self.now) c.args.word p.text p.holders p.found.held) c.add_holder-outcome.result
    (c.add_holder-outcome.ensures.adds p.text (record { ticket = c.args.word; holders = p.holders }) p.found.there) in
    subst (λ (r : Result ℕ Fault). Cloned g.S.StaticTables.tables c.args.self.now c.args.word (in_some r) c.add_holder-outcome.new.self) c.in-Err.is
    (cloned-done g.S.StaticTables.tables c.args.self.now c.args.word c.add_holder-outcome.new.self c.is_sound.ensures c.is_sound-2.ensures
    c.add_holder-outcome.result c.add_holder-outcome.ensures.limits clones c.add_holder-outcome.ensures.order)

pub returns-in-Ok-clause-cloned : goal.returns-in-Ok-clause-cloned
returns-in-Ok-clause-cloned g c =
    let p = c.in-Some.ensures in
    let clones = cloned-ticket g.S.StaticTables.tables c.args.self.now.limits (map_of c.args.self.now) (map_of c.add_holder-outcome.new.self) c.args.word (as_held (map_of c.args.self.now) c.args.word p.text p.holders p.found.held) c.add_holder-outcome.result
    (c.add_holder-outcome.ensures.adds p.text (record { ticket = c.args.word; holders = p.holders }) p.found.there) in
    subst (λ (r : Result ℕ Fault). Cloned g.S.StaticTables.tables c.args.self.now c.args.word (in_some r) c.add_holder-outcome.new.self) c.in-Ok.is
    (cloned-done g.S.StaticTables.tables c.args.self.now c.args.word c.add_holder-outcome.new.self c.is_sound.ensures c.is_sound-2.ensures
    c.add_holder-outcome.result c.add_holder-outcome.ensures.limits clones c.add_holder-outcome.ensures.order)
