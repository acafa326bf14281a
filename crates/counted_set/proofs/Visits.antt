-- Walks that leave a bucket's entries as they are.
use Rattle.std.proofs.Common.{◌≡◌, ℕ, ◌+◌, ◌*◌, ◌^◌, ◌<◌, ◌≤◌, List, [], ◌∷◌, ◌++◌, length, refl, sym, ◌∙◌, ap, subst, append_assoc, arith}
use Rattle.std.specs.Fn.{Mut}
use denote.Ref.{Bor}
use Rattle.counted_cell.specs.Cell.{block_size}
use Rattle.counted_set.specs.Chain.{Linked}
use Rattle.counted_set.specs.Memory.{cells_size, node_size, IsMemory}
use Rattle.counted_set.specs.Visits.{CalledAtText, VisitsEach}
use Rattle.counted_set.proofs.Passes.{kept_next}
use Rattle.node_chain.specs.Walked.{Walked, at_start, passed_by}

-- all entries, passed and left, are those of the walk before
abbrev pub AreSame : Walked Linked → Walked Linked → Type 0
AreSame w u = u.passed ++ u.left ≡ w.passed ++ w.left

pub same_on : (w u v : Walked Linked) (e : Linked) (rest : List Linked) → u.left ≡ e ∷ rest → v ≡ passed_by u u.left → AreSame w u → AreSame w v
same_on w u v e rest at is same =
    ap (λ (x : Walked Linked). x.passed ++ x.left) (kept_next u v e rest at is) ∙ append_assoc u.passed (e ∷ []) rest ∙ ap (λ l. u.passed ++ l) (sym at) ∙ same

-- back at its start, a walk is as it was
pub same_again : (w u v : Walked Linked) → w.passed ≡ [] → AreSame w u → v ≡ at_start (u.passed ++ u.left) → v ≡ w
same_again w u v none same is = is ∙ ap at_start (same ∙ ap (λ l. l ++ w.left) none) ∙ (λ i. record { passed = (sym none) i; left = w.left })

module _ {F : Type 0} (g : Mut F (Bor (List ℕ) × (ℕ × Unit {0})) (Unit {0})) where
  -- whatever is called from here on, is called from the start on
  abbrev pub Visited : F → Walked Linked → F → Walked Linked → Type 0
  Visited f w p u = (last : F) → VisitsEach g p u.left last → VisitsEach g f w.left last

  pub visited_on : (f p q : F) (w u v : Walked Linked) (e : Linked) (rest : List Linked) → u.left ≡ e ∷ rest → v ≡ passed_by u u.left → CalledAtText g p e.text q → Visited f w p u → Visited f w q v
  visited_on f p q w u v e rest at is called before last each =
      let left : v.left ≡ rest = ap (λ (x : Walked Linked). x.left) (kept_next u v e rest at is) in
      before last (subst (λ l. VisitsEach g p l last) (sym at) (q, called, subst (λ l. VisitsEach g q l last) left each))

  -- at the end, all were visited
  pub visited_all : (f p : F) (w u : Walked Linked) → u.left ≡ [] → Visited f w p u → VisitsEach g f w.left p
  visited_all f p w u none before = before p (subst (λ l. VisitsEach g p l p) (sym none) refl)

-- n was counted from w to u
abbrev pub IsCounted : Walked Linked → ℕ → Walked Linked → Type 0
IsCounted w n u = n + length u.left ≡ length w.left

pub counted_on : (n : ℕ) (w u v : Walked Linked) (e : Linked) (rest : List Linked) → u.left ≡ e ∷ rest → v ≡ passed_by u u.left → IsCounted w n u → IsCounted w (n + 1) v
counted_on n w u v e rest at is before =
    let a : length u.left ≡ length rest + 1 = ap length at ∙ (omega arith) in
    let b : length v.left ≡ length rest = ap (λ (x : Walked Linked). length x.left) (kept_next u v e rest at is) in
    omega (arith, a, b, before)

-- n was added up from w to u: with what is left it is the whole, and no more than the number of entries allows
abbrev pub IsSummed : Walked Linked → ℕ → Walked Linked → Type 0
IsSummed w n u = (n + cells_size u.left ≡ cells_size w.left) × (n + length u.left * 2 ^ 63 ≤ length w.left * 2 ^ 63)

pub summed_on : (n m : ℕ) (w u v : Walked Linked) (e : Linked) (rest : List Linked) → u.left ≡ e ∷ rest → v ≡ passed_by u u.left
    → m ≡ n + block_size e.limit (length e.text) → block_size e.limit (length e.text) < 2 ^ 63 → IsSummed w n u → IsSummed w m v
summed_on n m w u v e rest at is more few before =
    let left : v.left ≡ rest = ap (λ (x : Walked Linked). x.left) (kept_next u v e rest at is) in
    let a : cells_size u.left ≡ block_size e.limit (length e.text) + cells_size rest = ap cells_size at in
    let b : cells_size v.left ≡ cells_size rest = ap cells_size left in
    let c : length u.left ≡ length rest + 1 = ap length at ∙ (omega arith) in
    let d : length v.left ≡ length rest = ap length left in
    let sum = before.0 in let bound = before.1 in
    (omega (arith, a, b, more, sum), omega (arith, c, d, more, few, bound))

-- the bytes of all
pub is_memory : (es : List Linked) (nodes cells bytes : ℕ) → nodes ≤ length es → (0 < length es → 0 < nodes) → cells ≡ cells_size es → bytes ≡ nodes * node_size + cells → IsMemory es bytes
is_memory es nodes cells bytes few some sum is = record { nodes = nodes; few = few; some = some; sum = is ∙ ap (λ n. nodes * node_size + n) sum }
