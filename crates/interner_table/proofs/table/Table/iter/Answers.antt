use Rattle.std.proofs.Common.{◌∙◌, ap, subst, Some, ◌≡◌, ℕ}
use Rattle.std.specs.Prelude.{slice_get}
use Rattle.std.specs.List.{IsDistinct}
use Rattle.std.specs.Map.{keys_of}
use Rattle.std.specs.Str.{bytes_eq}
use Rattle.interner_table.specs.Kept.{Kept, Pair, map_of, pairs_of}
use Rattle.interner_table.proofs.kept.Bytes.{distinct-texts}
use Rattle.interner_table.proofs.kept.Pairs.{found_at}
use Rattle.interner_table.proofs.table.Table.iter.Goals as goal

pub returns-clause-texts : goal.returns-clause-texts
returns-clause-texts g c = ap pairs_of c.iter.ensures.rest ∙ ap (λ (kept : Kept). kept.pairs) c.self.view_is

pub returns-clause-held : goal.returns-clause-held
returns-clause-held g c = subst (λ (kept : Kept). (at : ℕ) (pair : Pair) → slice_get kept.pairs at ≡ Some pair → (map_of kept).held pair.0 ≡ Some pair.1) c.self.view_is
    (λ at pair h. found_at c.self.inside.entries.entries at pair c.iter.ensures.unique h)

pub returns-clause-distinct : goal.returns-clause-distinct
returns-clause-distinct g c = subst (λ (kept : Kept). IsDistinct bytes_eq (keys_of kept.pairs)) c.self.view_is (distinct-texts c.self.inside.entries.entries c.iter.ensures.unique)
