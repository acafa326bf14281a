-- The share that a pass finds.
use Rattle.std.proofs.Common.{◌≡◌, ℕ, List, [], ◌∷◌, map, sym, subst}
use Rattle.std.specs.List.{AllByRecursion}
use Rattle.std.specs.Prelude.{Some}
use Rattle.text_forms.specs.Pass.{PassReply, added, full, died, gone, stays, Asked, Outcome, found, found_full, absent, outcome}
use Rattle.counted_set.specs.Chain.{Linked}
use Rattle.counted_set.specs.Counted.{GivesShares, IfFound, IsPass, Replied}

module _ {C : Type 0} (gives : C → Linked → PassReply Linked → C → Type 0) (shares : GivesShares gives) (P : Linked → Type 0) (text : List ℕ) where
  -- it is of an entry of the text
  found_of : (es : List Linked) (rs : List (PassReply Linked)) (c d : C) (s : Linked) → AllByRecursion P es
      → Replied gives c es rs d → Asked (Some text) (map (λ e. e.text) es) rs → outcome rs ≡ found s → (s.text ≡ text) × P s
  found_of [] [] c d s all replied asked is = cc
  found_of [] (r ∷ rs) c d s all replied asked is = absurd replied
  found_of (e ∷ es) [] c d s all replied asked is = absurd replied
  found_of (e ∷ es) (added x ∷ rs) c d s all replied asked is =
      let given : x ≡ s = cc in
      let of_entry : x ≡ e = shares c e (added x) replied.0 replied.1 in
      let of_text : e.text ≡ text = cc in
      (subst (λ (y : Linked). y.text ≡ text) given (subst (λ (y : Linked). y.text ≡ text) (sym of_entry) of_text), subst P given (subst P (sym of_entry) all.0))
  found_of (e ∷ es) (full ∷ rs) c d s all replied asked is = cc
  found_of (e ∷ es) (died ∷ rs) c d s all replied asked is = found_of es rs replied.0 d s all.1 replied.2 asked.1 is
  found_of (e ∷ es) (gone ∷ rs) c d s all replied asked is = found_of es rs replied.0 d s all.1 replied.2 asked.1 is
  found_of (e ∷ es) (stays ∷ rs) c d s all replied asked is = found_of es rs replied.0 d s all.1 replied.2 asked.1 is

  pub share_found : (es : List Linked) (c d : C) (finds : Outcome Linked) (after : List Linked) → AllByRecursion P es
      → IsPass gives (Some text) c es finds d after → IfFound finds (λ s. (s.text ≡ text) × P s)
  share_found es c d (found s) after all p = found_of es p.replies c d s all p.given p.asked (sym p.answers)
  share_found es c d found_full after all p = tt
  share_found es c d absent after all p = tt
