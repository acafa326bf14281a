use Rattle.std.proofs.Common.{◌≡◌, ℕ, ◌<◌, List, get_or, [], arith, sym, ◌∙◌, length-take}
use denote.Ref.{Bor}
use borrow.Author.Count.{below_more}
use Rattle.std.proofs.lemmas.List.{length-map}
use Rattle.table_generator.specs.Generated.{texts_of}
use Rattle.table_generator.proofs.ListedTexts.{texts_same, texts_differ}
use Rattle.table_generator.proofs.generate.has_double.Goals as goal

pub returns-then-eq-clause-yes : goal.returns-then-eq-clause-yes
returns-then-eq-clause-yes c =
    let i = c.loop-i.i in
    let j = c.loop-earlier.earlier-index in
    let low : j < i = omega (arith, c.loop-earlier-test.true, length-take i c.args.list.now) in (
      j,
      i,
      low,
      omega (arith, c.loop-i-test.true, length-map c.args.list.now (λ (text : Bor (List ℕ)). text.now)),
      texts_same c.args.list.now i j _ _ low c.loop-i-test.true (sym c.eq.ensures ∙ c.if-eq.true),
    )

pub loop-earlier-preserved : goal.loop-earlier-preserved
loop-earlier-preserved c =
    let i = c.loop-i.i in
    let j = c.loop-earlier.earlier-index in
    let low : j < i = omega (arith, c.loop-earlier-test.true, length-take i c.args.list.now) in
    below_more (λ a. get_or (texts_of c.args.list.now) a [] ≡ get_or (texts_of c.args.list.now) i [] → ⊥) j c.loop-earlier.invariant
    (texts_differ c.args.list.now i j _ _ low c.loop-i-test.true (sym c.eq.ensures ∙ c.if-eq.false))
