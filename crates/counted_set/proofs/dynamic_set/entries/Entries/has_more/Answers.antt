use Rattle.std.proofs.Common.{ℕ, ◌+◌, ◌<◌, ◌≤◌, List, [], ◌∷◌, length, drop, ap, arith, subst}
use Rattle.std.proofs.lemmas.Bool.{lt-ltb, ltb-true}
use Rattle.std.proofs.lemmas.List.{length-append, length-drop}
use Rattle.node_chain.proofs.Packs.{packs_few}
use Rattle.node_chain.specs.Packs.{from_on}
use Rattle.node_chain.specs.Walked.{Walked}
use Rattle.counted_set.specs.Chain.{Linked}
use Rattle.counted_set.proofs.dynamic_set.entries.Entries.has_more.Goals as goal

-- what is behind the last item of the first pack is in another
behind : (at : ℕ) (p : List Linked) (qs : List (List Linked)) → length p ≤ at + 1 → 1 < length (from_on at (p ∷ qs)) → 1 < length (p ∷ qs)
behind at p [] last many = let n = length-append (drop at p) [] in let d = length-drop at p in absurd (omega (arith, n, d, last, many))
behind at p (q ∷ qs) last many = omega arith

pub returns-else-self-count : goal.returns-else-self-count
returns-else-self-count c =
    let s = c.self.inside in let v = c.self.invariant in let few = packs_few s.at s.chain.left v.0 v.2 in
    let shown = ap (λ (w : Walked Linked). length w.left) c.self.view_is in let is = c.remaining.ensures in
    let count = c.len-count.ensures.value in let last = c.if-self-count.false in let at = c.in-Some.ensures.1 in (
      λ more. let many = ltb-true 1 c.remaining.result more in omega (arith, few, shown, is, many),
      λ many.
          let seen : 1 < length (from_on s.at s.chain.left) = omega (arith, shown, many) in
          let packs = behind s.at c.in-Some.pack.now c.in-Some.ensures.0 (omega (arith, count, last)) (subst (λ l. 1 < length (from_on s.at l)) at seen) in
          let number = ap length at in lt-ltb 1 c.remaining.result (omega (arith, packs, number, is)),
    )
