use Rattle.std.proofs.Common.{length, take, arith, sym, ◌∙◌, rules}
use Rattle.std.proofs.lemmas.Bool.{false≢true}
use Rattle.table_generator.specs.Places.{IsPlaceOf}
use Rattle.table_generator.proofs.Fitting.{not_free, not_apart, free_more, differ_more}
use Rattle.table_generator.proofs.search.fits.Goals as goal
use Rattle.table_generator.proofs.search.fits.Goals.{then-taken-place-via-then-taken-place, then-taken-place-via-else-taken-place+then-is_place_of}

pub returns-then-taken-place-clause-no : goal.returns-then-taken-place-clause-no
returns-then-taken-place-clause-no c =
    elim c.then-taken-place.branch [
      | then-taken-place-via-then-taken-place w ↦
          not_free c.args.taken.now c.args.members.now c.args.pair c.loop-i.i c.place_by-place.result _ c.loop-i-test.true c.place_by-place.ensures.place (search rules)
      | then-taken-place-via-else-taken-place+then-is_place_of w ↦
          not_apart c.args.taken.now c.args.members.now c.args.pair c.loop-i.i c.place_by-place.result _ c.loop-i-test.true c.place_by-place.ensures.place
          (first_of (search rules, grind arith))
    ]

pub loop-i-preserved : goal.loop-i-preserved
loop-i-preserved c =
    let none : IsPlaceOf (length c.args.taken.now) c.args.pair c.place_by-place.result (take c.loop-i.i c.args.members.now) → ⊥ =
    λ h. false≢true (sym c.if-is_place_of.false ∙ c.is_place_of.ensures.1 h) in
    record {
      free = free_more c.args.taken.now c.args.members.now c.args.pair c.loop-i.i c.place_by-place.result _ c.loop-i-test.true c.place_by-place.ensures.place c.loop-i.invariant.free c.if-taken-place.false;
      differ = differ_more c.args.taken.now c.args.members.now c.args.pair c.loop-i.i c.place_by-place.result _ c.loop-i-test.true c.place_by-place.ensures.place c.loop-i.invariant.differ none;
    }
