-- What a bucket keeps after a pass.
use Rattle.std.proofs.Common.{◌≡◌, ◌≢◌, ℕ, ◌≤◌, List, [], ◌∷◌, ◌++◌, length, sym, ◌∙◌, ap, subst, arith}
use Rattle.std.specs.List.{AllByRecursion}
use Rattle.std.specs.Prelude.{Option}
use Rattle.text_forms.specs.Pass.{PassReply, added, full, died, gone, stays, Outcome, kept}
use Rattle.text_forms.specs.Tables.{Tables}
use Rattle.counted_cell.specs.Counting.{CellName}
use Rattle.counted_set.specs.Chain.{Linked, Chain, IsKept, IsRightOf, SerialsDiffer, serial_of}
use Rattle.counted_set.specs.Counted.{IsPass}
use Rattle.counted_set.specs.PassLeft.{IsPassLeft}
use Rattle.node_chain.specs.Walked.{Walked, at_start}

-- what holds of all entries holds of those that are kept
all_of_kept : {S : Type 0} → (P : Linked → Type 0) (es : List Linked) (rs : List (PassReply S)) → AllByRecursion P es → AllByRecursion P (kept es rs)
all_of_kept P [] rs h = tt
all_of_kept P (e ∷ es) [] h = tt
all_of_kept P (e ∷ es) (added s ∷ rs) h = (h.0, all_of_kept P es rs h.1)
all_of_kept P (e ∷ es) (full ∷ rs) h = (h.0, all_of_kept P es rs h.1)
all_of_kept P (e ∷ es) (died ∷ rs) h = all_of_kept P es rs h.1
all_of_kept P (e ∷ es) (gone ∷ rs) h = all_of_kept P es rs h.1
all_of_kept P (e ∷ es) (stays ∷ rs) h = (h.0, all_of_kept P es rs h.1)

differ_of_kept : {S : Type 0} → (es : List Linked) (rs : List (PassReply S)) → SerialsDiffer es → SerialsDiffer (kept es rs)
differ_of_kept [] rs h = tt
differ_of_kept (e ∷ es) [] h = tt
differ_of_kept (e ∷ es) (added s ∷ rs) h = (all_of_kept (λ x. serial_of x.ticket ≢ serial_of e.ticket) es rs h.0, differ_of_kept es rs h.1)
differ_of_kept (e ∷ es) (full ∷ rs) h = (all_of_kept (λ x. serial_of x.ticket ≢ serial_of e.ticket) es rs h.0, differ_of_kept es rs h.1)
differ_of_kept (e ∷ es) (died ∷ rs) h = differ_of_kept es rs h.1
differ_of_kept (e ∷ es) (gone ∷ rs) h = differ_of_kept es rs h.1
differ_of_kept (e ∷ es) (stays ∷ rs) h = (all_of_kept (λ x. serial_of x.ticket ≢ serial_of e.ticket) es rs h.0, differ_of_kept es rs h.1)

few_of_kept : {S : Type 0} → (es : List Linked) (rs : List (PassReply S)) → length (kept es rs) ≤ length es
few_of_kept [] rs = omega arith
few_of_kept (e ∷ es) [] = omega arith
few_of_kept (e ∷ es) (added s ∷ rs) = let few = few_of_kept es rs in omega (arith, few)
few_of_kept (e ∷ es) (full ∷ rs) = let few = few_of_kept es rs in omega (arith, few)
few_of_kept (e ∷ es) (died ∷ rs) = let few = few_of_kept es rs in omega (arith, few)
few_of_kept (e ∷ es) (gone ∷ rs) = let few = few_of_kept es rs in omega (arith, few)
few_of_kept (e ∷ es) (stays ∷ rs) = let few = few_of_kept es rs in omega (arith, few)

-- a bucket keeps its promises where entries go
pub is_kept_of_kept : {S : Type 0} → (t : Tables) (may : CellName → Type 0) (bits last : ℕ) (es : List Linked) (rs : List (PassReply S))
    → IsKept t may (record { bits = bits; entries = es; last = last }) → IsKept t may (record { bits = bits; entries = kept es rs; last = last })
is_kept_of_kept t may bits last es rs h = record {
  few = h.few;
  right = all_of_kept (IsRightOf t may bits) es rs h.right;
  differ = differ_of_kept es rs h.differ;
  bound = all_of_kept (λ x. serial_of x.ticket ≤ last) es rs h.bound;
  number = (let few = few_of_kept es rs in let n = h.number in omega (arith, few, n));
}

-- after a pass over the whole list
module _ {C S : Type 0} (gives : C → Linked → PassReply S → C → Type 0) where
  module _ (t : Tables) (may : CellName → Type 0) (b : Chain) (wanted : Option (List ℕ)) (c d : C) (w v : Walked Linked) (finds : Outcome S) (start : w ≡ at_start b.entries) (p : IsPassLeft gives wanted c w finds d v) where
    all_after : v.passed ++ v.left ≡ p.after
    all_after = p.all ∙ ap (λ (u : Walked Linked). u.passed ++ p.after) start

    -- what is left is what the pass leaves of the bucket's entries
    pub is_pass_after : IsPass gives wanted c b.entries finds d (v.passed ++ v.left)
    is_pass_after = subst (IsPass gives wanted c b.entries finds d) (sym all_after) (subst (λ (u : Walked Linked). IsPass gives wanted c u.left finds d p.after) start p.pass)

    -- and the bucket can keep it
    pub is_kept_after : IsKept t may b → IsKept t may (record { bits = b.bits; entries = v.passed ++ v.left; last = b.last })
    is_kept_after was =
        let q = is_pass_after in
        subst (λ l. IsKept t may (record { bits = b.bits; entries = l; last = b.last })) (sym q.left) (is_kept_of_kept t may b.bits b.last b.entries q.replies was)
