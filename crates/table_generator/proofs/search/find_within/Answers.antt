use Rattle.std.proofs.Common.{ℕ, ◌<◌, arith}
use borrow.Author.Count.{below_more}
use Rattle.table_generator.specs.Places.{Fits}
use Rattle.table_generator.proofs.search.find_within.Goals as goal

pub loop-d2-preserved : goal.loop-d2-preserved
loop-d2-preserved c = below_more (λ e2. Fits c.args.taken.now c.args.members.now (c.loop-d1.d1, e2) → ⊥) c.loop-d2.d2 c.loop-d2.invariant c.if-fits.ensures.no

pub loop-d1-preserved : goal.loop-d1-preserved
loop-d1-preserved c = λ e1 e2 h1 h2.
    below_more (λ e1. (e2 : ℕ) → e2 < c.args.tried.second → Fits c.args.taken.now c.args.members.now (e1, e2) → ⊥) c.loop-d1.d1
    (λ k hk e hk2. c.loop-d1.invariant k e hk hk2) (λ e he. c.loop-d2.invariant e (omega (arith, he, c.loop-d2-test.false))) e1 h1 e2 h2

pub returns : goal.returns
returns c = λ d1 d2 h1 h2. c.loop-d1.invariant d1 d2 (omega (arith, h1, c.loop-d1-test.false)) h2
