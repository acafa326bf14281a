use Rattle.std.proofs.Common.{◌≡◌, ◌-◌, ◌<◌, ◌++◌, ap, arith, drop, get_or, length, refl, rules, take}
use Rattle.std.proofs.lemmas.Grind.{common_steps}
use Rattle.std.proofs.lemmas.List.{get_or_default}
use Rattle.table_generator.specs.Grouped.{pair_of}
use Rattle.table_generator.specs.Places.{Fits}
use Rattle.table_generator.proofs.Settling.{settled_none, settled_more, none_places}
use Rattle.table_generator.proofs.displace.displace.Goals as goal

pub loop-start-init : goal.loop-start-init
loop-start-init c = settled_none c.args.pairs c.args.tried.first c.args.hashes.now c.in_ok-disps.disps.items c.in_ok-taken.taken.items c.requires.some (search rules) (search rules)

pub loop-start-preserved : goal.loop-start-preserved
loop-start-preserved c =
    let old = c.loop-start.taken.items in
    let new : take c.loop-start.taken.len (c.mark.new.taken ++ drop (length c.mark.new.taken) old) ≡ c.mark.new.taken = grind (arith, common_steps, c.mark.ensures.length_same) in
    let members = take (c.run_end-end.result - c.loop-start.start) (drop c.loop-start.start c.args.hashes.now) in
    let own = pair_of c.args.pairs (get_or c.args.hashes.now c.loop-start.start (record { g = 0; f1 = 0; f2 = 0 })) in
    let below : own < c.args.pairs = omega (arith, c.requires.pairs) in
    let pair : (c.in-Some.pair.0 < c.args.tried.first) × (c.in-Some.pair.1 < c.args.tried.second) × Fits old members c.in-Some.pair = search (rules, c.in-Some.ensures) in
    let low : c.in-Some.pair.1 < c.args.tried.first = omega (arith, pair.1, c.requires.order) in
    rw new (
    settled_more c.args.pairs c.args.tried.first c.args.hashes.now c.loop-start.disps.items old c.loop-start.start c.run_end-end.result c.loop-start.invariant c.run_end-end.ensures
    members refl c.in-Some.pair own (λ d. ap (pair_of c.args.pairs) (get_or_default c.args.hashes.now c.loop-start.start _ d c.loop-start-test.true))
    below pair.2 c.mark.new.taken (rw c.deref_mut.ensures.value at c.mark.ensures) (pair.0, low) c.requires.grouped
    )

pub returns-in_default-clause-unplaced : goal.returns-in_default-clause-unplaced
returns-in_default-clause-unplaced c = λ _ one.
    none_places c.args.pairs c.args.tried.first c.args.hashes.now c.loop-start.disps.items c.loop-start.taken.items c.loop-start.start c.run_end-end.result c.loop-start.invariant c.run_end-end.ensures
    (take (c.run_end-end.result - c.loop-start.start) (drop c.loop-start.start c.args.hashes.now)) refl c.args.tried.first c.args.tried.second one (rw c.deref.ensures.value at c.in_default.ensures)
