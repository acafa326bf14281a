-- What callers of a table cite beside its contracts.
use Rattle.std.proofs.Common.{◌≡◌, sym, subst, refl, ℕ, inl, inr, List, [], ◌∷◌, ◌++◌, length, nat_lt, true, false, true≢false, Result, Ok, Err}
use Rattle.std.specs.Str.{IsUtf8}
use Rattle.std.proofs.lemmas.Bool.{le-ltb}
use Rattle.text_forms.specs.declared.faults.Fault.{Fault}
use Rattle.text_forms.specs.declared.static_sets.TextForm.{TextForm}
use Rattle.text_forms.specs.declared.static_sets.TextForm.TheVariants.{Inline}
use Rattle.text_forms.specs.Map.{InternMap}
use Rattle.interner_table.specs.Kept.{Kept, map_of}
use Rattle.interner_table.specs.Outcomes.{Cloned, Given}
use Rattle.interner_table.specs.Table.{AreHeld, Clones, Gives, HasWord, HasWordBy, IsHeld, IsTextOf, in_some}
use Rattle.text_forms.specs.Tables.{Tables, fixed_word, form_of_text}
use Rattle.text_forms.specs.Word.{IsInlineText, IsInlineWord, inline_word}
use Rattle.interner_table.proofs.calls.IfHeld.{cloned-refused, cloned-some}
use Rattle.interner_table.proofs.calls.Keep.{listed-held}
use Rattle.interner_table.proofs.calls.WordsApart.{has}

-- no word is listed at first
pub none-listed : (t : Tables) (m : InternMap) → AreHeld t m []
none-listed t m = λ word. inl refl

-- the first of the listed words is held
pub first-held : (t : Tables) (m : InternMap) (word : ℕ) (words : List ℕ) → AreHeld t m (word ∷ words) → IsHeld t m word
first-held t m word words all = listed-held t m m word [] words all

-- so is any of them
pub middle-held : (t : Tables) (m : InternMap) (before : List ℕ) (word : ℕ) (after : List ℕ) → AreHeld t m (before ++ word ∷ after) → IsHeld t m word
middle-held t m before word after all = listed-held t m m word before after all

-- the text that unpacking gives has the word, in any table
pub inline-owned : (t : Tables) (m : InternMap) (text : List ℕ) (word : ℕ) → IsInlineText text → inline_word text ≡ word → HasWord t m text word
inline-owned t m text word inline is =
    let test : nat_lt 7 (length text) ≡ false = le-ltb 7 (length text) inline.1 in
    let form : form_of_text t text ≡ Inline text = rw test refl in
    subst (λ (f : TextForm). HasWordBy m text (fixed_word f) word) (sym form) (sym is)

-- any word of a text but an inline one lends it
pub owned-lent : (t : Tables) (m : InternMap) (text : List ℕ) (word : ℕ) → IsUtf8 text → HasWord t m text word → ¬ (IsInlineWord word) → IsTextOf t m word text
owned-lent t m text word utf8 owned other = elim (has t m text word utf8 owned) [
  | inl i ↦ absurd (other (text, i.0, sym i.1))
  | inr lent ↦ lent
]

-- giving a word that is held is the map's call
pub held-given : (t : Tables) (old : Kept) (word : ℕ) (new : Kept) → Given t old word true new → Gives t old.limits (map_of old) word (map_of new)
held-given t old word new done = elim done.gives [
  | inl x ↦ x.0
  | inr x ↦ absurd (true≢false x.1)
]

-- so is cloning it
pub held-cloned : (t : Tables) (old : Kept) (word : ℕ) (result : Result ℕ Fault) (new : Kept) → Cloned t old word (in_some result) new → Clones t old.limits (map_of old) word result (map_of new)
held-cloned t old word (Ok clone) new done = cloned-some t old.limits (map_of old) word (map_of new) clone done.clones
held-cloned t old word (Err fault) new done = cloned-refused t old.limits (map_of old) word (map_of new) fault done.clones
