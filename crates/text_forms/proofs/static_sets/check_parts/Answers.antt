use Rattle.std.proofs.Common.{◌≡◌, ℕ, List, arith, sym, ◌∙◌}
use Rattle.std.proofs.lemmas.Bool.{false≢true}
use Rattle.std.specs.Borrow.{Bor}
use Rattle.std.proofs.lemmas.List.{length-map}
use borrow.Author.Count.{below_more}
use Rattle.text_forms.specs.Parts.{parts}
use Rattle.text_forms.specs.Tables.{place_in, text_at}
use Rattle.text_forms.proofs.TableLemmas.{place_of_listed, placed_static}
use Rattle.text_forms.proofs.static_sets.check_parts.Goals as goal

pub returns-then-place-i-clause-perfect : goal.returns-then-place-i-clause-perfect
returns-then-place-i-clause-perfect c =
    let t = parts c.args.key c.args.disps.now c.args.atoms.now c.args.hashes.now in
    let i = c.loop-i.i in
    let place : c.place.result ≡ place_in t (text_at t i) = place_of_listed c.args.key c.args.disps.now c.args.atoms.now c.args.hashes.now i _ c.loop-i-test.true c.hash.result c.in-Ok.len c.place.result c.in-Ok.ensures.1 c.hash.ensures c.place.ensures.place in
    (λ e. absurd (false≢true e), λ perfect. absurd (c.if-place-i.true (place ∙ perfect.placed i (omega (arith, length-map c.args.atoms.now (λ (text : Bor (List ℕ)). text.now))))))

pub loop-i-preserved : goal.loop-i-preserved
loop-i-preserved c =
    let t = parts c.args.key c.args.disps.now c.args.atoms.now c.args.hashes.now in
    let i = c.loop-i.i in
    let place : c.place.result ≡ place_in t (text_at t i) = place_of_listed c.args.key c.args.disps.now c.args.atoms.now c.args.hashes.now i _ c.loop-i-test.true c.hash.result c.in-Ok.len c.place.result c.in-Ok.ensures.1 c.hash.ensures c.place.ensures.place in
    below_more (λ k. place_in t (text_at t k) ≡ k) i c.loop-i.invariant (sym place ∙ c.if-place-i.false)

pub returns-clause-found : goal.returns-clause-found
returns-clause-found c =
    let t = parts c.args.key c.args.disps.now c.args.atoms.now c.args.hashes.now in
    let count = length-map c.args.atoms.now (λ (text : Bor (List ℕ)). text.now) in
    λ _. placed_static t (λ i below. c.loop-i.invariant i (omega (arith, count, below, c.loop-i-test.false)))
