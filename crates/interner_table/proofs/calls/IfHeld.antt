-- Calls by a word that may or may not be held.
use Rattle.std.proofs.Common.{◌≡◌, ◌∙◌, sym, subst, refl, ℕ, inl, inr, Bool, false, List, Option, None, Some, Result, Ok, Err}
use Rattle.std.proofs.Common.{IsTrue}
use Rattle.std.specs.Prelude.{◌↔◌}
use Rattle.std.proofs.lemmas.Bool.{false≢true}
use Rattle.std.proofs.lemmas.Option.{none-some}
use Rattle.text_forms.specs.Bounds.{Bounds}
use Rattle.text_forms.specs.declared.faults.Fault.{Fault}
use Rattle.text_forms.specs.declared.static_sets.TextForm.{TextForm}
use Rattle.text_forms.specs.declared.static_sets.TextForm.TheVariants.{Dynamic}
use Rattle.interner_table.specs.Kept.{IsSoundMap}
use Rattle.text_forms.specs.Map.{Holding, InternMap, IsHeldTicket}
use Rattle.interner_table.specs.Table.{Clones, ClonesIfHeld, HasWord, HasWordBy, IsFixedWord, IsHeld, in_some}
use Rattle.text_forms.specs.Tables.{Tables, fixed_word, form_of_text}
use Rattle.interner_table.proofs.calls.HeldWords.{fixed-unless-ticket}

-- a word that no text's form fixes, and that is no ticket, isn't held
pub unheld : (t : Tables) (m : InternMap) (word : ℕ) (fixed : Bool) → (IsTrue fixed ↔ IsFixedWord t word) → fixed ≡ false → ¬ (IsHeldTicket m word) → ¬ (IsHeld t m word)
unheld t m word fixed exactly is none held = false≢true (sym is ∙ exactly.1 (fixed-unless-ticket t m word held none))

module _ (t : Tables) (limits : Bounds) (m : InternMap) (word : ℕ) where
  -- a word that was cloned was cloned as one that is held
  pub cloned-some : (new : InternMap) (clone : ℕ) → ClonesIfHeld t limits m word (Ok (Some clone)) new → Clones t limits m word (Ok clone) new
  cloned-some new clone (inl x) = by x.0 x.1 x.2
    where
      by : (outcome : Result ℕ Fault) → Clones t limits m word outcome new → Ok (Some clone) ≡ in_some outcome → Clones t limits m word (Ok clone) new
      by (Ok own) h e = let same : clone ≡ own = cc in subst (λ (w : ℕ). Clones t limits m word (Ok w) new) (sym same) h
      by (Err fault) h e = cc
  cloned-some new clone (inr x) = let e = x.1 in cc

  pub cloned-refused : (new : InternMap) (fault : Fault) → ClonesIfHeld t limits m word (Err fault) new → Clones t limits m word (Err fault) new
  cloned-refused new fault (inl x) = by x.0 x.1 x.2
    where
      by : (outcome : Result ℕ Fault) → Clones t limits m word outcome new → Err fault ≡ in_some outcome → Clones t limits m word (Err fault) new
      by (Ok own) h e = cc
      by (Err own) h e = let same : fault ≡ own = cc in subst (λ (f : Fault). Clones t limits m word (Err f) new) (sym same) h
  cloned-refused new fault (inr x) = let e = x.1 in cc

-- a text that is held has its ticket as its word
pub held-word : (t : Tables) (m : InternMap) → IsSoundMap t m → (text : List ℕ) (had : Holding) → m.held text ≡ Some had → HasWord t m text had.ticket
held-word t m sound text had h = subst (λ (fixed : Option ℕ). HasWordBy m text fixed had.ticket) (sym (sound.given text had h).dynamic) (had.holders, h)

-- a text whose form fixes its word has that word
pub formed-word : (t : Tables) (m : InternMap) (text : List ℕ) (form : TextForm) (word : ℕ) → form ≡ form_of_text t text → fixed_word form ≡ Some word → HasWord t m text word
formed-word t m text form word is fixed = subst (λ (f : TextForm). HasWordBy m text (fixed_word f) word) is (subst (λ (o : Option ℕ). HasWordBy m text o word) (sym fixed) refl)

-- a dynamic text that isn't held has none
pub no-word : (t : Tables) (m : InternMap) (text : List ℕ) (hash : ℕ) → Dynamic hash ≡ form_of_text t text → m.held text ≡ None → (word : ℕ) → HasWord t m text word → ⊥
no-word t m text hash is none word owned =
    let h = subst (λ (f : TextForm). HasWordBy m text (fixed_word f) word) (sym is) owned in
    none-some _ (sym none ∙ h.1)
