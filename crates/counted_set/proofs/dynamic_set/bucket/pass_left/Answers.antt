use Rattle.std.proofs.Common.{◌≡◌, refl}
use Rattle.std.proofs.lemmas.Bool.{false≢true}
use Rattle.std.specs.Prelude.{Some}
use Rattle.counted_set.specs.Chain.{Linked}
use Rattle.counted_set.proofs.Passes.{all_first, all_kept, all_out, died_where_going_on, not_wanted, on_answered, on_died, on_gone, on_stays}
use Rattle.counted_set.proofs.Quiet.{goes_past, hash_follows}
use Rattle.counted_set.proofs.dynamic_set.bucket.pass_left.Goals as goal

pub returns-in-Answer : goal.returns-in-Answer
returns-in-Answer g c =
    let next = c.in-Some.ensures in let d = c.go_on_after.new.counts in let v = c.go_on_after.new.asked in
    c.loop-entry.invariant.0 _ d v
    (on_answered g.C.Counts.gives c.loop-entry.counts c.add-reply.new.self d c.loop-entry.entries v c.in-Some.entry.now c.add-reply.result c.add-reply.ensures.gives c.args.text.now next.0 c.in-Answer.answer next.1 (c.if-is_of.ensures.0 refl).1 c.in-Answer.ensures)

pub loop-entry-preserved-in-GoOn : goal.loop-entry-preserved-in-GoOn
loop-entry-preserved-in-GoOn g c =
    let next = c.in-Some.ensures in let m = c.go_on_after.new.counts in let w = c.loop-entry.entries in let u = c.go_on_after.new.asked in let e = c.in-Some.entry.now in
    let P : Linked → Type 0 = λ x. (x.text ≡ c.args.text.now → x.hash ≡ c.args.hash) × g.G.Grant.may x.name in
    let died = died_where_going_on g.C.Counts.gives c.loop-entry.counts c.add-reply.new.self m w u e c.add-reply.result c.add-reply.ensures.gives c.in-GoOn.grant c.in-GoOn.ensures in (
      λ finds d v p. c.loop-entry.invariant.0 finds d v
          (on_died g.C.Counts.gives c.loop-entry.counts m w u e next.0 next.1 c.args.text.now (c.if-is_of.ensures.0 refl).1 died.0 died.1 finds d v p),
      all_out P w u e next.0 next.1 died.1 c.loop-entry.invariant.1,
    )

pub loop-entry-preserved-then-not-has_hash : goal.loop-entry-preserved-then-not-has_hash
loop-entry-preserved-then-not-has_hash g c =
    let P : Linked → Type 0 = λ x. (x.text ≡ c.args.text.now → x.hash ≡ c.args.hash) × g.G.Grant.may x.name in
    let past = goes_past g.C.Counts.gives g.C.Counts.shows_gone (Some c.args.text.now) (Some c.args.hash) P (λ e p. hash_follows c.args.text.now c.args.hash e p.0) c.loop-entry.counts c.pass_others.new.counts c.loop-entry.entries c.pass_others.new.entries c.loop-entry.invariant.1 c.pass_others.ensures in (
      λ finds d v p. c.loop-entry.invariant.0 finds d v (past.0 finds d v p),
      past.1,
    )

pub loop-entry-preserved-in-Some-dying : goal.loop-entry-preserved-in-Some-dying
loop-entry-preserved-in-Some-dying g c =
    let next = c.in-Some.ensures in let w = c.loop-entry.entries in let u = c.take_out.new.self in let e = c.in-Some.entry.now in
    let P : Linked → Type 0 = λ x. (x.text ≡ c.args.text.now → x.hash ≡ c.args.hash) × g.G.Grant.may x.name in
    let all = c.loop-entry.invariant.1 in
    let other = not_wanted c.args.text.now c.args.hash e (all_first P w e next.0 next.1 all).0 (λ is. false≢true (c.if-is_of.ensures.1 is)) in (
      λ finds d v p. c.loop-entry.invariant.0 finds d v
          (on_gone g.C.Counts.gives c.loop-entry.counts _ w u e next.0 next.1 (Some c.args.text.now) other c.in-Some-dying.ensures.gives c.take_out.ensures finds d v p),
      all_out P w u e next.0 next.1 c.take_out.ensures all,
    )

pub loop-entry-preserved : goal.loop-entry-preserved
loop-entry-preserved g c =
    let next = c.in-Some.ensures in let w = c.loop-entry.entries in let u = c.keep.new.self in let e = c.in-Some.entry.now in
    let P : Linked → Type 0 = λ x. (x.text ≡ c.args.text.now → x.hash ≡ c.args.hash) × g.G.Grant.may x.name in
    let all = c.loop-entry.invariant.1 in
    let other = not_wanted c.args.text.now c.args.hash e (all_first P w e next.0 next.1 all).0 (λ is. false≢true (c.if-is_of.ensures.1 is)) in (
      λ finds d v p. c.loop-entry.invariant.0 finds d v
          (on_stays g.C.Counts.gives c.loop-entry.counts _ w u e next.0 next.1 (Some c.args.text.now) other c.in-None.ensures.gives c.keep.ensures finds d v p),
      all_kept P w u e next.0 next.1 c.keep.ensures all,
    )
