use Rattle.std.proofs.Common.{◌≡◌, sym, subst, ℕ, Ok, Option, Some}
use Rattle.interner_table.specs.Kept.{Kept, map_of}
use Rattle.interner_table.specs.Outcomes.{Cloned}
use Rattle.interner_table.specs.Table.{IsHeld}
use Rattle.text_forms.specs.Tables.{Tables}
use Rattle.interner_table.proofs.calls.Found.{both-held, still-held, still-owned}
use Rattle.interner_table.proofs.table.Table.clone_word.Goals as goal

-- what comes back is a word
some-cloned : (t : Tables) (old : Kept) (word own : ℕ) (clone : Option ℕ) (new : Kept) → clone ≡ Some own → Cloned t old word (Ok clone) new → Cloned t old word (Ok (Some own)) new
some-cloned t old word own clone new is done = subst (λ (o : Option ℕ). Cloned t old word (Ok o) new) is done

pub returns-clause-cloned : goal.returns-clause-cloned
returns-clause-cloned g c = some-cloned g.S.StaticTables.tables c.args.self.now c.args.word c.in-Some.clone _ c.clone_held.new.self c.in-Some.is c.in_ok-clone.ensures.cloned

pub returns-clause-held : goal.returns-clause-held
returns-clause-held g c =
    let done = some-cloned g.S.StaticTables.tables c.args.self.now c.args.word c.in-Some.clone _ c.clone_held.new.self c.in-Some.is c.in_ok-clone.ensures.cloned in
    subst (IsHeld g.S.StaticTables.tables (map_of c.clone_held.new.self)) (sym done.same) ((done.keeps c.args.word).held c.requires)

pub returns-clause-owned : goal.returns-clause-owned
returns-clause-owned g c = still-owned g.S.StaticTables.tables (map_of c.args.self.now) (map_of c.clone_held.new.self) c.in_ok-clone.ensures.cloned.keeps

pub returns-clause-still : goal.returns-clause-still
returns-clause-still g c = still-held g.S.StaticTables.tables (map_of c.args.self.now) (map_of c.clone_held.new.self) c.in_ok-clone.ensures.cloned.keeps

pub returns-clause-both : goal.returns-clause-both
returns-clause-both g c =
    let done = some-cloned g.S.StaticTables.tables c.args.self.now c.args.word c.in-Some.clone _ c.clone_held.new.self c.in-Some.is c.in_ok-clone.ensures.cloned in
    both-held g.S.StaticTables.tables (map_of c.args.self.now) (map_of c.clone_held.new.self) c.in-Some.clone c.is_sound.ensures done.listed
