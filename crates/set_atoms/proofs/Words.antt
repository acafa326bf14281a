-- The word that an atom has; and of two atoms of one set with a name, one word is one text, whatever forms they have.
use Rattle.std.proofs.Common.{◌≡◌, ◌≢◌, ℕ, ◌%◌, List, length, Option, None, false, true, nat_lt, refl, ap, sym, ◌∙◌, arith}
use Rattle.std.proofs.lemmas.Bool.Decides.{nat_tests}
use Rattle.std.specs.Prelude.{⊤}
use Rattle.text_forms.specs.declared.static_sets.TextForm.{TextForm}
use Rattle.text_forms.specs.declared.static_sets.TextForm.TheVariants as form
use Rattle.text_forms.specs.Tables.{Tables, bucket_of, entry_hash, form_of_text, text_at, IsStaticIndex}
use Rattle.text_forms.specs.Word.{IsInlineText, inline_word, static_word, ticket_of}
use Rattle.text_forms.proofs.words.Unpacking.{inline_word_same, inline_word_tag}
use Rattle.named_set.specs.Words.{AreOneToOne, HeldWord, IsTicketOf}
use Rattle.set_atoms.specs.AtomForm.{IsOwnForm, value_of_form}
use Rattle.set_atoms.specs.AtomValue.{AtomValue, IsWordOf}
use Rattle.set_atoms.specs.declared.form.Repr.{Repr}
use Rattle.set_atoms.specs.declared.form.Repr.TheVariants.{Inline, Static, Dynamic}

-- the tags of the words of the three forms
inline_tag : (text : List ℕ) → IsInlineText text → inline_word text % 4 ≡ 1
inline_tag text is = inline_word_tag (inline_word text) (text, is, refl)

static_tag : (index : ℕ) → static_word index % 4 ≡ 2
static_tag index = omega arith

ticket_tag : (serial bucket : ℕ) → ticket_of serial bucket % 4 ≡ 0
ticket_tag serial bucket = omega arith

-- a text that fits into a word is inline
inline_form : (t : Tables) (text : List ℕ) → IsInlineText text → form_of_text t text ≡ form.Inline text
inline_form t text is = let short : nat_lt 7 (length text) ≡ false = grind (arith, nat_tests, is.1) in rw short refl

-- words whose tags differ, of texts whose forms differ
apart : (t : Tables) (v w : ℕ) (s u : List ℕ) (f g : TextForm) → v % 4 ≢ w % 4 → form_of_text t s ≡ f → form_of_text t u ≡ g → f ≢ g → AreOneToOne v w s u
apart t v w s u f g tags is is' forms = ((λ e. absurd (tags (ap (λ (n : ℕ). n % 4) e))), (λ e. absurd (forms (sym is ∙ (ap (form_of_text t) e ∙ is')))))

turned : (v w : ℕ) (s u : List ℕ) → AreOneToOne v w s u → AreOneToOne w v u s
turned v w s u one = ((λ e. sym (one.0 (sym e))), (λ e. sym (one.1 (sym e))))

-- the word of a form is one that an atom of the text may have
module _ {B H : Type 0} (t : Tables) (atom_of : H → AtomValue) (is_beside : B → ℕ → Type 0) (is_kept : H → Type 0) (is_ticket : List ℕ → Option ℕ → ℕ → Type 0) where
  pub own_word : (a : Repr B H) (word : ℕ) → word ≡ (value_of_form t atom_of a).word → IsOwnForm t atom_of is_beside is_kept is_ticket a
      → IsWordOf t is_ticket (value_of_form t atom_of a).text (value_of_form t atom_of a).bits word
  own_word (Inline s) word e is = rw (inline_form t s is) (refl, e)
  own_word (Static i) word e is = rw is.0 (refl, e)
  own_word (Dynamic b h) word e is = rw (is.0, e) is.2.1

module _ (t : Tables) where
  inline_static : (s : List ℕ) (i : ℕ) → IsInlineText s → IsStaticIndex t i → AreOneToOne (inline_word s) (static_word i) s (text_at t i)
  inline_static s i is is' =
      let tag = inline_tag s is in let tag' = static_tag i in
      apart t (inline_word s) (static_word i) s (text_at t i) (form.Inline s) (form.Static i) (λ e. omega arith) (inline_form t s is) is' (λ e. cc)

  two_static : (i j : ℕ) → IsStaticIndex t i → IsStaticIndex t j → AreOneToOne (static_word i) (static_word j) (text_at t i) (text_at t j)
  two_static i j is is' = (
    (λ e. ap (text_at t) (let same : i ≡ j = omega arith in same)),
    (λ e. let forms : form.Static i ≡ form.Static j = sym is ∙ (ap (form_of_text t) e ∙ is') in let same : i ≡ j = cc in ap static_word same),
  )

-- the atom of a held word
abbrev atom_of : HeldWord → AtomValue
atom_of h = record { text = h.text; word = h.word; bits = None }

module _ {B : Type 0} (t : Tables) (buckets : ℕ) where
  abbrev IsOwn : Repr B HeldWord → Type 0
  IsOwn a = IsOwnForm t atom_of (λ beside hash. ⊤) (λ held. held.name.grows ≡ true) (λ text bits word. IsTicketOf t buckets text word) a

  inline_dynamic : (s : List ℕ) (b : B) (h : HeldWord) → IsInlineText s → IsOwn (Dynamic b h) → AreOneToOne (inline_word s) h.word s h.text
  inline_dynamic s b h is is' =
      let tag = inline_tag s is in let word = is'.2.1.is in let tag' = ticket_tag is'.2.1.serial (bucket_of t buckets h.text) in
      apart t (inline_word s) h.word s h.text (form.Inline s) (form.Dynamic (entry_hash t h.text)) (λ e. omega arith) (inline_form t s is) is'.0 (λ e. cc)

  static_dynamic : (i : ℕ) (b : B) (h : HeldWord) → IsStaticIndex t i → IsOwn (Dynamic b h) → AreOneToOne (static_word i) h.word (text_at t i) h.text
  static_dynamic i b h is is' =
      let tag = static_tag i in let word = is'.2.1.is in let tag' = ticket_tag is'.2.1.serial (bucket_of t buckets h.text) in
      apart t (static_word i) h.word (text_at t i) h.text (form.Static i) (form.Dynamic (entry_hash t h.text)) (λ e. omega arith) is is'.0 (λ e. cc)

  -- what is known of two dynamic ones, it is known of any two
  pub words_agree : (a b : Repr B HeldWord) → IsOwn a → IsOwn b → ((x y : B) (c d : HeldWord) → a ≡ Dynamic x c → b ≡ Dynamic y d → AreOneToOne c.word d.word c.text d.text)
      → AreOneToOne (value_of_form t atom_of a).word (value_of_form t atom_of b).word (value_of_form t atom_of a).text (value_of_form t atom_of b).text
  words_agree (Inline s) (Inline u) is is' two = (inline_word_same s u is is', ap inline_word)
  words_agree (Inline s) (Static j) is is' two = inline_static t s j is is'.0
  words_agree (Inline s) (Dynamic y d) is is' two = inline_dynamic s y d is is'
  words_agree (Static i) (Inline u) is is' two = turned (inline_word u) (static_word i) u (text_at t i) (inline_static t u i is' is.0)
  words_agree (Static i) (Static j) is is' two = two_static t i j is.0 is'.0
  words_agree (Static i) (Dynamic y d) is is' two = static_dynamic i y d is.0 is'
  words_agree (Dynamic x c) (Inline u) is is' two = turned (inline_word u) c.word u c.text (inline_dynamic u x c is' is)
  words_agree (Dynamic x c) (Static j) is is' two = turned (static_word j) c.word (text_at t j) c.text (static_dynamic j x c is'.0 is)
  words_agree (Dynamic x c) (Dynamic y d) is is' two = two x y c d refl refl
