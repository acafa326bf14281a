-- Two words that texts have at once are equal exactly if the texts are.
use Rattle.std.proofs.Common.{◌≡◌, ◌∙◌, ap, sym, subst, refl, arith, ℕ, ◌≤◌, ◌⊎◌, inl, inr, Bool, true, false, List, length, Option, None, Some, nat_lt}
use Rattle.std.specs.Str.{IsUtf8, bytes_eq}
use Rattle.std.proofs.lemmas.Bool.{ltb-false}
use Rattle.text_forms.specs.declared.static_sets.TextForm.{TextForm}
use Rattle.text_forms.specs.declared.static_sets.TextForm.TheVariants.{Inline, Static, Dynamic}
use Rattle.text_forms.specs.Map.{Holding, InternMap}
use Rattle.interner_table.specs.Kept.{IsSoundMap}
use Rattle.interner_table.specs.Table.{HasWordBy, HasWord, HasOneTextEach}
use Rattle.text_forms.specs.Tables.{Tables, form_of_text, fixed_word, place_in, text_at, entry_hash}
use Rattle.text_forms.specs.Word.{inline_word, static_word, IsInlineText}
use Rattle.text_forms.proofs.words.Unpacking.{inline_word_same}
use Rattle.interner_table.proofs.calls.HeldWords.{form_by, static-text, held-tag}

pub inline_by : (long there : Bool) (place hash : ℕ) (text own : List ℕ) → form_by long there place hash text ≡ Inline own → (long ≡ false) × (text ≡ own)
inline_by true true place hash text own e = cc
inline_by true false place hash text own e = cc
inline_by false there place hash text own e = (refl, cc)

upto : (n : ℕ) → nat_lt 7 n ≡ false → n ≤ 7
upto n e = ltb-false 7 n e

-- a text with a word is inline, static or held
abbrev pub Has : Tables → InternMap → List ℕ → ℕ → Type 0
Has t m text word =
    (IsInlineText text × (word ≡ inline_word text))
    ⊎ ((index : ℕ) × (form_of_text t text ≡ Static index) × (word ≡ static_word index))
    ⊎ ((holders : ℕ) × (m.held text ≡ Some (record { ticket = word; holders = holders })))

pub has : (t : Tables) (m : InternMap) (text : List ℕ) (word : ℕ) → IsUtf8 text → HasWord t m text word → Has t m text word
has t m text word utf8 h = by (form_of_text t text) refl h
  where
    by : (form : TextForm) → form_of_text t text ≡ form → HasWordBy m text (fixed_word form) word → Has t m text word
    by (Inline own) e w =
        let parts = inline_by (nat_lt 7 (length text)) (bytes_eq (text_at t (place_in t text)) text) (place_in t text) (entry_hash t text) text own e in
        inl ((utf8, upto (length text) parts.0), w ∙ ap inline_word (sym parts.1))
    by (Static index) e w = inr (inl (index, e, w))
    by (Dynamic hash) e w = inr (inr w)

module _ (t : Tables) (m : InternMap) (sound : IsSoundMap t m) where
  same-text : (text other : List ℕ) (word also : ℕ) → Has t m text word → Has t m other also → word ≡ also → text ≡ other
  same-text text other word also (inl a) (inl b) e = inline_word_same text other a.0 b.0 (sym a.1 ∙ e ∙ b.1)
  same-text text other word also (inl a) (inr (inl b)) e = let x = a.1 in let y = b.2 in absurd (omega (arith, x, y, e))
  same-text text other word also (inl a) (inr (inr b)) e =
      let x = a.1 in let y = held-tag t m sound other (record { ticket = also; holders = b.0 }) b.1 in absurd (omega (arith, x, y, e))
  same-text text other word also (inr (inl a)) (inl b) e = let x = a.2 in let y = b.1 in absurd (omega (arith, x, y, e))
  same-text text other word also (inr (inl a)) (inr (inl b)) e =
      let x = a.2 in let y = b.2 in
      let index : a.0 ≡ b.0 = omega (arith, x, y, e) in
      sym (static-text t text a.0 a.1) ∙ ap (text_at t) index ∙ static-text t other b.0 b.1
  same-text text other word also (inr (inl a)) (inr (inr b)) e =
      let x = a.2 in let y = held-tag t m sound other (record { ticket = also; holders = b.0 }) b.1 in absurd (omega (arith, x, y, e))
  same-text text other word also (inr (inr a)) (inl b) e =
      let x = held-tag t m sound text (record { ticket = word; holders = a.0 }) a.1 in let y = b.1 in absurd (omega (arith, x, y, e))
  same-text text other word also (inr (inr a)) (inr (inl b)) e =
      let x = held-tag t m sound text (record { ticket = word; holders = a.0 }) a.1 in let y = b.2 in absurd (omega (arith, x, y, e))
  same-text text other word also (inr (inr a)) (inr (inr b)) e =
      sound.apart text other (record { ticket = word; holders = a.0 }) (record { ticket = also; holders = b.0 }) a.1 b.1 e

-- a text has one word
one-word : (m : InternMap) (text : List ℕ) (fixed : Option ℕ) (word also : ℕ) → HasWordBy m text fixed word → HasWordBy m text fixed also → word ≡ also
one-word m text (Some own) word also a b = a ∙ sym b
one-word m text None word also a b = ap (λ (o : Option Holding). ticket_or o) (sym a.1 ∙ b.1)
  where
    ticket_or : Option Holding → ℕ
    ticket_or (Some had) = had.ticket
    ticket_or None = 0

pub one-text-each : (t : Tables) (m : InternMap) → IsSoundMap t m → HasOneTextEach t m
one-text-each t m sound text other word also utf8 utf8' a b = (
  same-text t m sound text other word also (has t m text word utf8 a) (has t m other also utf8' b),
  λ e. one-word m other (fixed_word (form_of_text t other)) word also (subst (λ (s : List ℕ). HasWord t m s word) e a) b,
)
