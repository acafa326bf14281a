use Rattle.std.proofs.Common.{ℕ, List, get_or, [], arith, sym, ◌∙◌, subst}
use denote.Ref.{Bor}
use Rattle.std.proofs.lemmas.List.{length-map}
use borrow.Author.Count.{below_more}
use Rattle.std.specs.List.{Contains}
use Rattle.std.proofs.lemmas.Bool.{false≢true}
use Rattle.table_generator.specs.Generated.{texts_of}
use Rattle.table_generator.proofs.ListedTexts.{text_of, any_from_contains}
use Rattle.table_generator.proofs.generate.has_feed.Goals as goal

pub loop-text-preserved : goal.loop-text-preserved
loop-text-preserved c =
    below_more (λ k. Contains (get_or (texts_of c.args.list.now) k []) 10 → ⊥) c.loop-text.text-index c.loop-text.invariant
    (λ h. false≢true (sym c.if-contains.false ∙ c.contains.ensures.value ∙ any_from_contains 10 _ (subst (λ v. Contains v 10) (text_of c.args.list.now c.loop-text.text-index _ c.loop-text-test.true ∙ sym c.as_bytes.ensures.value) h)))

pub returns-clause-no : goal.returns-clause-no
returns-clause-no c = λ h. c.loop-text.invariant h.0 (omega (arith, h.1, length-map c.args.list.now (λ (text : Bor (List ℕ)). text.now), c.loop-text-test.false)) h.2
