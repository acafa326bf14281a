use Rattle.std.proofs.Common.{◌∙◌, ap, sym, List}
use Rattle.std.specs.Prelude.{slice_get}
use Rattle.interner_table.specs.HeldText.{pair_of}
use Rattle.interner_table.specs.Kept.{Pair}
use Rattle.example_tables.proofs.tables.first_text.Goals as goal

-- the first pair of the table stands at place 0, and what stands there is held
pub returns : goal.returns
returns g c = record {
  held = (
    record { ticket = c.in_ok-held.held.word; holders = c.in_ok-held.held.holders },
    c.iter.ensures.held 0 (pair_of c.in_ok-held.held) (ap (λ (pairs : List Pair). slice_get pairs 0) (sym c.iter.ensures.texts ∙ c.in_ok-held.ensures.steps)),
  );
}
