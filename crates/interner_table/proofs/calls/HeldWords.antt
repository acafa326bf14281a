-- Which words texts have: an inline text's tag is 1, a static one's 2, and a ticket's 0.
use Rattle.std.proofs.Common.{◌≡◌, ◌∙◌, ap, sym, subst, refl, arith, ℕ, ◌%◌, ◌^◌, ◌<◌, ◌≤◌, inl, inr, Bool, true, false, List, length, Option, None, Some, nat_lt}
use Rattle.std.specs.Prelude.{◌↔◌, if◌then◌else◌, IsSome, IfSome, MatchOption}
use Rattle.std.proofs.Common.{is_some, IsTrue}
use Rattle.std.proofs.lemmas.Bool.{false≢true, ltb-true}
use Rattle.std.specs.Borrow.{Bor}
use Rattle.std.specs.Str.{bytes_eq}
use Rattle.std.proofs.lemmas.Slice.Eq.{bytes_eq-Decides}
use Rattle.text_forms.specs.declared.static_sets.TextForm.{TextForm}
use Rattle.text_forms.specs.declared.static_sets.TextForm.TheVariants.{Inline, Static, Dynamic}
use Rattle.text_forms.specs.Map.{Holding, InternMap, IsHeldTicket}
use Rattle.interner_table.specs.Kept.{Kept, map_of, IsSoundMap}
use Rattle.interner_table.specs.Places.{IsPlace}
use Rattle.interner_table.specs.Table.{IsTextOf, IsHeld, IsFixedWord, HasWord, HasWordBy}
use Rattle.text_forms.specs.Tables.{Tables, place_in, text_at, entry_hash, form_of_text, fixed_word, IsStaticIndex}
use Rattle.text_forms.specs.Word.{static_word, ticket_of, IsInlineWord, IsStaticWord, IsTicketWord}
use Rattle.text_forms.proofs.words.Unpacking.{inline_word_tag}

-- ---- the form of a text

abbrev pub form_by : Bool → Bool → ℕ → ℕ → List ℕ → TextForm
form_by long there place hash text = if long then (if there then Static place else Dynamic hash) else Inline text

static_by : (long there : Bool) (place hash index : ℕ) (text : List ℕ) → form_by long there place hash text ≡ Static index → (place ≡ index) × (there ≡ true)
static_by true true place hash index text e = (cc, refl)
static_by true false place hash index text e = cc
static_by false there place hash index text e = cc

dynamic_by : (long there : Bool) (place hash own : ℕ) (text : List ℕ) → form_by long there place hash text ≡ Dynamic own → own ≡ hash
dynamic_by true true place hash own text e = cc
dynamic_by true false place hash own text e = cc
dynamic_by false there place hash own text e = cc

-- a static text stands at its index
pub static-text : (t : Tables) (text : List ℕ) (index : ℕ) → form_of_text t text ≡ Static index → text_at t index ≡ text
static-text t text index e =
    let parts = static_by (nat_lt 7 (length text)) (bytes_eq (text_at t (place_in t text)) text) (place_in t text) (entry_hash t text) index text e in
    ap (text_at t) (sym parts.0) ∙ (bytes_eq-Decides (text_at t (place_in t text)) text).0 parts.1

pub dynamic-hash : (t : Tables) (text : List ℕ) (hash : ℕ) → form_of_text t text ≡ Dynamic hash → hash ≡ entry_hash t text
dynamic-hash t text hash e = dynamic_by (nat_lt 7 (length text)) (bytes_eq (text_at t (place_in t text)) text) (place_in t text) (entry_hash t text) hash text e

fixed_by : (long there : Bool) (place hash : ℕ) (text : List ℕ) → fixed_word (form_by long there place hash text) ≡ None → long ≡ true
fixed_by true there place hash text e = refl
fixed_by false there place hash text e = cc

-- a text without a word that its form fixes has more than 7 bytes
pub long-unless-fixed : (t : Tables) (text : List ℕ) → fixed_word (form_of_text t text) ≡ None → 7 < length text
long-unless-fixed t text e =
    ltb-true 7 (length text) (fixed_by (nat_lt 7 (length text)) (bytes_eq (text_at t (place_in t text)) text) (place_in t text) (entry_hash t text) text e)

-- a shorter one isn't held
pub short-not-held : (t : Tables) (m : InternMap) → IsSoundMap t m → (text : List ℕ) → length text ≤ 7 → m.held text ≡ None
short-not-held t m sound text short = by (m.held text) refl
  where
    by : (o : Option Holding) → m.held text ≡ o → m.held text ≡ None
    by None e = e
    by (Some had) e = let long = long-unless-fixed t text (sound.given text had e).dynamic in absurd (omega (arith, long, short))

-- ---- tags

pub held-tag : (t : Tables) (m : InternMap) → IsSoundMap t m → (text : List ℕ) (had : Holding) → m.held text ≡ Some had → had.ticket % 4 ≡ 0
held-tag t m sound text had h = let is = (sound.given text had h).is in omega (arith, is)

-- the word of nothing has no text
pub no-text-unless-word : (t : Tables) (m : InternMap) (word : ℕ) → IsSoundMap t m → word < 2 ^ 64 → ¬ (IsStaticWord word) → ¬ (IsTicketWord word) → (text : List ℕ) → IsTextOf t m word text → ⊥
no-text-unless-word t m word sound fits static ticket text (inl s) = static (s.0, (let is = s.2 in omega (arith, is, fits)), sym s.2)
no-text-unless-word t m word sound fits static ticket text (inr h) =
    let g = sound.given text (record { ticket = word; holders = h.0 }) h.1 in
    ticket (g.serial, entry_hash t text % m.buckets, g.right, sym g.is)

-- an inline word has none that a table keeps
pub no-text-if-inline : (t : Tables) (m : InternMap) (word : ℕ) → IsSoundMap t m → IsInlineWord word → (text : List ℕ) → IsTextOf t m word text → ⊥
no-text-if-inline t m word sound inline text (inl s) = let tag = inline_word_tag word inline in let is = s.2 in omega (arith, tag, is)
no-text-if-inline t m word sound inline text (inr h) =
    let tag = inline_word_tag word inline in let other = held-tag t m sound text (record { ticket = word; holders = h.0 }) h.1 in omega (arith, tag, other)

-- a static word has the text at its index
pub text-if-static : (t : Tables) (m : InternMap) (word index : ℕ) → IsSoundMap t m → static_word index ≡ word → (result : Option (Bor (List ℕ)))
    → (IsSome result ↔ IsStaticIndex t index) → IfSome result (λ text. text.now ≡ text_at t index)
    → MatchOption result ((text : List ℕ) → ¬ (IsTextOf t m word text)) (λ text. IsTextOf t m word text.now)
text-if-static t m word index sound is (Some found) exactly same = inl (index, ap (form_of_text t) same ∙ exactly.0 refl, sym is)
text-if-static t m word index sound is None exactly same = none
  where
    none : (text : List ℕ) → IsTextOf t m word text → ⊥
    none text (inl s) =
        let own : s.0 ≡ index = (let e = s.2 in omega (arith, e, is)) in
        let form : form_of_text t text ≡ Static index = s.1 ∙ ap Static own in
        let there : IsStaticIndex t index = ap (form_of_text t) (static-text t text index form) ∙ form in
        let e : false ≡ true = exactly.1 there in
        cc
    none text (inr h) = let tag = held-tag t m sound text (record { ticket = word; holders = h.0 }) h.1 in omega (arith, tag, is)

-- a ticket has the text that it is held of
pub text-if-ticket : (t : Tables) (m : InternMap) (word serial bucket : ℕ) → ticket_of serial bucket ≡ word → (result : Option (Bor (List ℕ)))
    → MatchOption result (¬ (IsHeldTicket m word)) (λ text. (holders : ℕ) × (m.held text.now ≡ Some (record { ticket = word; holders = holders })))
    → MatchOption result ((text : List ℕ) → ¬ (IsTextOf t m word text)) (λ text. IsTextOf t m word text.now)
text-if-ticket t m word serial bucket is (Some found) held = inr held
text-if-ticket t m word serial bucket is None held = none
  where
    none : (text : List ℕ) → IsTextOf t m word text → ⊥
    none text (inl s) = let e = s.2 in omega (arith, e, is)
    none text (inr h) = held (record { text = text; holders = h.0; held = h.1 })

-- the text that a word lends has the word
text-owned : (t : Tables) (m : InternMap) (word : ℕ) → IsSoundMap t m → (text : List ℕ) → IsTextOf t m word text → HasWord t m text word
text-owned t m word sound text (inl s) = subst (λ (f : TextForm). HasWordBy m text (fixed_word f) word) (sym s.1) s.2
text-owned t m word sound text (inr h) =
    subst (λ (fixed : Option ℕ). HasWordBy m text fixed word) (sym (sound.given text (record { ticket = word; holders = h.0 }) h.1).dynamic) h

-- a word lends one text
one-text : (t : Tables) (m : InternMap) (word : ℕ) → IsSoundMap t m → (text other : List ℕ) → IsTextOf t m word text → IsTextOf t m word other → text ≡ other
one-text t m word sound text other (inl s) (inl k) =
    let a = s.2 in let b = k.2 in
    let index : s.0 ≡ k.0 = omega (arith, a, b) in
    sym (static-text t text s.0 s.1) ∙ ap (text_at t) index ∙ static-text t other k.0 k.1
one-text t m word sound text other (inl s) (inr k) =
    let a = s.2 in let tag = held-tag t m sound other (record { ticket = word; holders = k.0 }) k.1 in absurd (omega (arith, a, tag))
one-text t m word sound text other (inr h) (inl k) =
    let a = k.2 in let tag = held-tag t m sound text (record { ticket = word; holders = h.0 }) h.1 in absurd (omega (arith, a, tag))
one-text t m word sound text other (inr h) (inr k) =
    sound.apart text other (record { ticket = word; holders = h.0 }) (record { ticket = word; holders = k.0 }) h.1 k.1 refl

abbrev pub Lends : Tables → InternMap → ℕ → Option (Bor (List ℕ)) → Type 0
Lends t m word result = MatchOption result ((text : List ℕ) → ¬ (IsTextOf t m word text)) (λ text. IsTextOf t m word text.now)

pub lent-found : (t : Tables) (m : InternMap) (word : ℕ) (result : Option (Bor (List ℕ))) → Lends t m word result → (text : List ℕ) → IsTextOf t m word text → IsSome result
lent-found t m word (Some lent) lends text is = refl
lent-found t m word None lends text is = absurd (lends text is)

pub lent-same : (t : Tables) (m : InternMap) (word : ℕ) → IsSoundMap t m → (result : Option (Bor (List ℕ))) → Lends t m word result
    → IfSome result (λ lent. (text : List ℕ) → IsTextOf t m word text → lent.now ≡ text)
lent-same t m word sound (Some lent) lends = λ text is. one-text t m word sound lent.now text lends is
lent-same t m word sound None lends = tt

pub lent-owned : (t : Tables) (m : InternMap) (word : ℕ) → IsSoundMap t m → (result : Option (Bor (List ℕ))) → Lends t m word result → IfSome result (λ text. HasWord t m text.now word)
lent-owned t m word sound (Some text) lends = text-owned t m word sound text.now lends
lent-owned t m word sound None lends = tt

-- ---- what is held

-- the word of nothing is fixed by no text's form
pub not-fixed-unless-word : (t : Tables) (word : ℕ) → word < 2 ^ 64 → ¬ (IsInlineWord word) → ¬ (IsStaticWord word) → IsFixedWord t word → ⊥
not-fixed-unless-word t word fits inline static (inl i) = inline i
not-fixed-unless-word t word fits inline static (inr s) = static (s.0, (let is = s.2 in omega (arith, is, fits)), s.2)

-- nor is a ticket
pub not-fixed-if-ticket : (t : Tables) (word serial bucket : ℕ) → ticket_of serial bucket ≡ word → IsFixedWord t word → ⊥
not-fixed-if-ticket t word serial bucket is (inl i) = let tag = inline_word_tag word i in omega (arith, tag, is)
not-fixed-if-ticket t word serial bucket is (inr s) = let own = s.2 in omega (arith, own, is)

-- a static word is, exactly if it has a text
pub fixed-if-static : (t : Tables) (word index : ℕ) → static_word index ≡ word → (test : Bool) → (IsTrue test ↔ IsStaticIndex t index) → IsTrue test ↔ IsFixedWord t word
fixed-if-static t word index is test exactly = (λ yes. inr (index, exactly.0 yes, is), back)
  where
    back : IsFixedWord t word → IsTrue test
    back (inl i) = let tag = inline_word_tag word i in absurd (omega (arith, tag, is))
    back (inr s) = let own = s.2 in let same : s.0 ≡ index = omega (arith, own, is) in exactly.1 (subst (IsStaticIndex t) same s.1)

-- any other word is held exactly if it has a place
pub held-if-placed : (t : Tables) (kept : Kept) (word : ℕ) → ¬ (IsFixedWord t word) → (place : Option ℕ)
    → MatchOption place (¬ (IsHeldTicket (map_of kept) word)) (λ at. IsPlace kept word at) → (test : Bool) → test ≡ is_some place → IsTrue test ↔ IsHeld t (map_of kept) word
unfolding IsHeld
held-if-placed t kept word fixed (Some at) p test e =
    (λ _. inr (record { text = p.text; holders = p.holders; held = p.found.held }), λ _. e)
held-if-placed t kept word fixed None none test e = (λ yes. absurd (false≢true (sym e ∙ yes)), back)
  where
    back : IsHeld t (map_of kept) word → IsTrue test
    back (inl other) = absurd (fixed other)
    back (inr h) = absurd (none h)

-- a word that is held, and is no ticket that is, is one that a text's form fixes
pub fixed-unless-ticket : (t : Tables) (m : InternMap) (word : ℕ) → IsHeld t m word → ¬ (IsHeldTicket m word) → IsFixedWord t word
unfolding IsHeld
fixed-unless-ticket t m word (inl fixed) none = fixed
fixed-unless-ticket t m word (inr h) none = absurd (none h)

-- a word that lends a text is held
pub text-held : (t : Tables) (m : InternMap) (word : ℕ) (text : List ℕ) → IsTextOf t m word text → IsHeld t m word
unfolding IsHeld
text-held t m word text (inl s) = inl (inr (s.0, ap (form_of_text t) (static-text t text s.0 s.1) ∙ s.1, sym s.2))
text-held t m word text (inr h) = inr (record { text = text; holders = h.0; held = h.1 })

-- a word that is held is inline, or lends a text
pub not-held-without-text : (t : Tables) (m : InternMap) (word : ℕ) → ¬ (IsInlineWord word) → ((text : List ℕ) → ¬ (IsTextOf t m word text)) → IsHeld t m word → ⊥
unfolding IsHeld
not-held-without-text t m word inline none (inl (inl i)) = inline i
not-held-without-text t m word inline none (inl (inr s)) = none (text_at t s.0) (inl (s.0, s.1, sym s.2))
not-held-without-text t m word inline none (inr k) = none k.text (inr (k.holders, k.held))
