-- What the form of a text tells.
use Rattle.std.proofs.Common.{◌≡◌, ◌↔◌, ℕ, ◌<◌, ◌≤◌, List, [], length, Bool, true, false, refl, sym, ◌∙◌, ap, subst, arith, if◌then◌else◌, nat_eq, nat_lt, IsTrue, ◌⊎◌, ⊎_elim, Equal}
use Rattle.std.proofs.lemmas.Cmp.{tied_itself}
use Rattle.std.proofs.lemmas.Bool.Decides.{Decides-eqb, Decides-like, same_from_decides}
use Rattle.std.proofs.lemmas.List.{get_or_default, get_or_past}
use Rattle.std.proofs.lemmas.Slice.Eq.{bytes_eq-Decides}
use Rattle.std.specs.List.{Contains}
use Rattle.std.specs.Cmp.Lexicographic.{nat_list_cmp_total, pointwise, same_text, slice_cmp}
use Rattle.std.specs.Ordering.{nat_cmp}
use Rattle.std.specs.Str.{bytes_eq}
use Rattle.text_forms.specs.declared.static_sets.TextForm.{TextForm}
use Rattle.text_forms.specs.declared.static_sets.TextForm.TheVariants.{Inline, Static, Dynamic}
use Rattle.text_forms.specs.Tables.{Tables, IsPerfectTable, IsStaticIndex, form_of_text, is_static_form, place_in, text_at}
use Rattle.text_forms.specs.Word.{IsInlineText, inline_word}
use Rattle.text_forms.proofs.TableLemmas.{placed_static}
use Rattle.text_forms.proofs.words.Unpacking.{inline_word_same}

static_by : (long listed : Bool) (place hash index : ℕ) (text : List ℕ) → (let form : TextForm = if long then (if listed then Static place else Dynamic hash) else Inline text in form) ≡ Static index
    → (listed ≡ true) × (place ≡ index)
static_by true true place hash index text e = (refl, cc)
static_by true false place hash index text e = cc
static_by false listed place hash index text e = cc

module _ (t : Tables) (text : List ℕ) (index : ℕ) (static : form_of_text t text ≡ Static index) where
  -- a static text is the one at its index
  pub static_there : text_at t index ≡ text
  static_there =
      let both = static_by (nat_lt 7 (length text)) (bytes_eq (text_at t (place_in t text)) text) (place_in t text) _ index text static in
      ap (text_at t) (sym both.1) ∙ same_text (text_at t (place_in t text)) text (sym both.0)

  static_index : IsStaticIndex t index
  static_index = ap (form_of_text t) static_there ∙ static

  static_past : length t.atoms ≤ index → ⊥
  static_past past =
      let none : text_at t index ≡ [] = get_or_past t.atoms index [] past in
      let form : form_of_text t [] ≡ Static index = sym (ap (form_of_text t) none) ∙ static_index in cc

  pub static_own : IsStaticIndex t index × (index < length t.atoms)
  static_own = (static_index, let inside : ¬ (length t.atoms ≤ index) = static_past in omega (arith, inside))

-- in perfect tables each of their longer texts is static
pub listed_static : (t : Tables) (text : List ℕ) → IsPerfectTable t → Contains t.atoms text → 7 < length text → IsTrue (is_static_form (form_of_text t text))
listed_static t text perfect listed long =
    let there : text_at t listed.0 ≡ text = get_or_default t.atoms listed.0 [] text listed.1 ∙ listed.2 in
    let static = placed_static t perfect.placed listed.0 listed.1 (subst (λ s. 7 < length s) (sym there) long) in
    ap is_static_form (sym (ap (form_of_text t) there) ∙ static)

-- an inline or dynamic text isn't static
pub not_static : (t : Tables) (text : List ℕ) (form : TextForm) → form ≡ form_of_text t text → ((own : List ℕ) × (form ≡ Inline own)) ⊎ ((hash : ℕ) × (form ≡ Dynamic hash))
    → is_static_form (form_of_text t text) ≡ false
not_static t text form is either =
    ap is_static_form (sym is) ∙ ⊎_elim {C = is_static_form form ≡ false} (λ inline. ap is_static_form inline.1) (λ dynamic. ap is_static_form dynamic.1) either

-- two inline texts are equal exactly where their words are
pub words_tell : (s t : List ℕ) → IsInlineText s → IsInlineText t → IsTrue (nat_eq (inline_word s) (inline_word t)) ↔ (s ≡ t)
words_tell s t a b = Decides-like (nat_eq (inline_word s) (inline_word t)) (inline_word_same s t a b) (ap inline_word) (Decides-eqb (inline_word s) (inline_word t))

-- equal texts are tied in the order
pub equal_tied : (s t : List ℕ) → pointwise nat_eq s t ≡ true → Equal ≡ slice_cmp nat_cmp s t
equal_tied s t equal = subst (λ u. Equal ≡ slice_cmp nat_cmp s u) (same_text s t (sym equal)) (sym (tied_itself nat_list_cmp_total s))

-- what tells whether two texts are equal is the answer of their comparison
pub tells : (b : Bool) (s u : List ℕ) → (IsTrue b ↔ (s ≡ u)) → b ≡ pointwise nat_eq s u
tells b s u iff = same_from_decides b (pointwise nat_eq s u) iff (bytes_eq-Decides s u)
