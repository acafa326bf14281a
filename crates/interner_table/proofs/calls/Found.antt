-- What calls say of other words, in words that are opaque, so that a caller's proof finds it by itself.
use Rattle.std.proofs.Common.{◌≡◌, sym, subst, refl, arith, ℕ, inl, inr, List, [], ◌∷◌, ◌++◌}
use Rattle.std.specs.Prelude.{◌==◌, ◌↔◌}
use Rattle.std.specs.Str.{IsUtf8}
use Rattle.std.proofs.lemmas.Bool.{cases_Bool, eqb-true}
use Rattle.interner_table.specs.Kept.{IsSoundMap}
use Rattle.text_forms.specs.Map.{InternMap}
use Rattle.interner_table.specs.Table.{AreBothHeld, AreHeld, HasOneTextEach, HasWord, IsHeld, IsHeldBy, IsWordOf, KeepsWord}
use Rattle.text_forms.specs.Tables.{Tables}
use Rattle.text_forms.specs.Times.{times}
use Rattle.text_forms.proofs.TimesLemmas.{times-same, times-other}
use Rattle.interner_table.proofs.calls.Keep.{listed-held}

module _ (t : Tables) (m : InternMap) (word : ℕ) (sound : IsSoundMap t m) where
  held-once : IsHeld t m word → IsHeldBy t m word 1
  unfolding IsHeld
  held-once (inl fixed) = inr (inl fixed)
  held-once (inr k) =
      let some = (sound.given k.text (record { ticket = word; holders = k.holders }) k.held).held in
      inr (inr (k.text, k.holders, k.held, omega (arith, some)))

  -- a word that is held can be given once
  one-listed : IsHeld t m word → AreHeld t m (word ∷ [])
  one-listed held other = elim (cases_Bool (word == other)) [
    | inl same ↦ subst (λ (w : ℕ). IsHeldBy t m w (times w (word ∷ []))) (eqb-true word other same) (subst (IsHeldBy t m word) (times-same word [] []) (held-once held))
    | inr apart ↦ subst (IsHeldBy t m other) (sym (times-other other word [] [] apart)) (inl refl)
  ]

-- what is added to any list is held beside any word that was held
pub both-held : (t : Tables) (m new : InternMap) (word : ℕ) → IsSoundMap t m → ((words : List ℕ) → AreHeld t m words → AreHeld t new (word ∷ words)) → (other : ℕ) → IsHeld t m other → AreBothHeld t new word other
unfolding AreBothHeld
both-held t m new word sound listed other held = listed (other ∷ []) (one-listed t m other sound held)

module _ (t : Tables) (m new : InternMap) (word : ℕ) (listed : (before after : List ℕ) → AreHeld t m (before ++ word ∷ after) → AreHeld t new (before ++ after)) where
  -- once one of two words is given, the other is still held
  pub left-held : (other : ℕ) → AreBothHeld t m other word → IsHeld t new other
  unfolding AreBothHeld
  left-held other both = listed-held t new new other [] [] (listed (other ∷ []) [] both)

  pub right-held : (other : ℕ) → AreBothHeld t m word other → IsHeld t new other
  unfolding AreBothHeld
  right-held other both = listed-held t new new other [] [] (listed [] (other ∷ []) both)

module _ (t : Tables) (m new : InternMap) (keeps : (other : ℕ) → KeepsWord t m new other) where
  pub still-held : (other : ℕ) → IsHeld t m other → IsHeld t new other
  still-held other = (keeps other).held

  pub still-owned : (other : ℕ) (also : List ℕ) → IsWordOf t m also other → IsWordOf t new also other
  unfolding IsWordOf
  still-owned other also own = (own.0, (keeps other).owned also own.1)

  -- a text's word is another's exactly if the texts are one
  pub same-word : HasOneTextEach t new → (text : List ℕ) (word : ℕ) → IsUtf8 text → HasWord t new text word → (other : ℕ) (also : List ℕ) → IsWordOf t m also other → (word ≡ other) ↔ (text ≡ also)
  unfolding IsWordOf
  same-word apart text word utf8 has other also own = apart text also word other utf8 own.0 has ((keeps other).owned also own.1)

pub own-word : (t : Tables) (m : InternMap) (text : List ℕ) (word : ℕ) → IsUtf8 text → HasWord t m text word → IsWordOf t m text word
unfolding IsWordOf
own-word t m text word utf8 has = (utf8, has)
