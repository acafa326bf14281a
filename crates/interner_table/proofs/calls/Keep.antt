-- What the calls of a table keep of its words, and what they add.
use Rattle.std.proofs.Common.{◌≡◌, ◌∙◌, ap, sym, subst, refl, arith, ℕ, zero, suc, ◌+◌, ◌-◌, ◌<◌, ◌≤◌, ◌≢◌, ◌⊎◌, inl, inr, false, cond, List, [], ◌∷◌, ◌++◌, length, Option, None, Some, Result, Ok, Err, true≢false, nat_lt}
use Rattle.std.specs.Prelude.{◌==◌, IfOk, string_bytes}
use Rattle.std.specs.Str.{IsUtf8, bytes_eq}
use Rattle.std.proofs.lemmas.Bool.{cases_Bool, eqb-true, eq-eqb, le-ltb, ltb-false}
use Rattle.std.proofs.lemmas.Slice.Eq.{bytes_eq-Decides}
use Rattle.std.proofs.lemmas.Option.{same_Some, none-some}
use Rattle.text_forms.specs.Bounds.{Bounds}
use Rattle.text_forms.specs.declared.faults.Fault.{Fault}
use Rattle.text_forms.specs.declared.static_sets.TextForm.{TextForm}
use Rattle.interner_table.specs.declared.table.call.Call.{Call}
use Rattle.interner_table.specs.declared.table.call.Call.TheVariants as call
use Rattle.interner_table.specs.declared.table.call.TableReply.{TableReply}
use Rattle.interner_table.specs.Calls.{Answers}
use Rattle.text_forms.specs.declared.static_sets.TextForm.TheVariants as form
use Rattle.text_forms.specs.Map.{Holding, InternMap, IsHeldTicket, MapReply, MayIntern, with_held, with_last, one_less, unless_given_up}
use Rattle.interner_table.specs.Kept.{IsSoundMap}
use Rattle.interner_table.specs.Table.{as_word, InternsBy, Interns, Clones, Gives, IsTextOf, IsFixedWord, IsHeld, IsHeldBy, AreHeld, HasWordBy, HasWord, KeepsWord, IsGivenTicket, IsNewTicket}
use Rattle.text_forms.specs.Tables.{Tables, form_of_text, fixed_word, entry_hash, place_in, text_at, bucket_of}
use Rattle.text_forms.specs.Times.{times}
use Rattle.text_forms.specs.Word.{inline_word, static_word, ticket_of}
use Rattle.interner_table.proofs.calls.HeldWords.{static-text, not-fixed-if-ticket}
use Rattle.interner_table.proofs.calls.Replies.{some_left}
use Rattle.text_forms.proofs.TimesLemmas.{times-same, times-other}
use Rattle.interner_table.proofs.calls.WordsApart.{has, inline_by}

abbrev pub held_by : ℕ → ℕ → Option Holding
held_by ticket holders = Some (record { ticket = ticket; holders = holders })

-- one text is held once
same-ticket : (a b : Option Holding) (t u n k : ℕ) → a ≡ b → a ≡ held_by t n → b ≡ held_by u k → t ≡ u
same-ticket a b t u n k e x y = ap (λ (v : Holding). v.ticket) (same_Some _ _ (sym x ∙ e ∙ y))

same-holders : (a b : Option Holding) (t u n k : ℕ) → a ≡ b → a ≡ held_by t n → b ≡ held_by u k → n ≡ k
same-holders a b t u n k e x y = ap (λ (v : Holding). v.holders) (same_Some _ _ (sym x ∙ e ∙ y))

-- ---- the word of a text

fixed_if_static : (t : Tables) (text : List ℕ) (index word : ℕ) → form_of_text t text ≡ form.Static index → word ≡ static_word index → IsFixedWord t word
fixed_if_static t text index word e is = inr (index, ap (form_of_text t) (static-text t text index e) ∙ e, sym is)

module _ (t : Tables) (m : InternMap) (text : List ℕ) (word : ℕ) (utf8 : IsUtf8 text) (owned : HasWord t m text word) where
  -- a text's word is held
  pub owned-held : IsHeld t m word
  unfolding IsHeld
  owned-held = elim (has t m text word utf8 owned) [
    | inl i ↦ inl (inl (text, i.0, sym i.1))
    | inr (inl s) ↦ inl (fixed_if_static t text s.0 word s.1 s.2)
    | inr (inr h) ↦ inr (record { text = text; holders = h.0; held = h.1 })
  ]

  -- that of a long text lends it
  pub owned-long : 7 < length text → IsTextOf t m word text
  owned-long long = elim (has t m text word utf8 owned) [
    | inl i ↦ let short = i.0.1 in absurd (omega (arith, long, short))
    | inr (inl s) ↦ inl s
    | inr (inr h) ↦ inr h
  ]

-- that of a short one is its inline word
pub owned-short : (t : Tables) (m : InternMap) (text : List ℕ) (word : ℕ) → HasWord t m text word → length text ≤ 7 → word ≡ inline_word text
owned-short t m text word owned short =
    let test : nat_lt 7 (length text) ≡ false = le-ltb 7 (length text) short in
    let inline : form_of_text t text ≡ form.Inline text = rw test refl in
    subst (λ (f : TextForm). HasWordBy m text (fixed_word f) word) inline owned

-- the word that a text's form fixes
pub fixed-of-form : (t : Tables) (text : List ℕ) (word : ℕ) → IsUtf8 text → fixed_word (form_of_text t text) ≡ Some word → IsFixedWord t word
fixed-of-form t text word utf8 fixed = by (form_of_text t text) refl fixed
  where
    by : (f : TextForm) → form_of_text t text ≡ f → fixed_word f ≡ Some word → IsFixedWord t word
    by (form.Inline own) e is =
        let parts = inline_by (nat_lt 7 (length text)) (bytes_eq (text_at t (place_in t text)) text) (place_in t text) (entry_hash t text) text own e in
        inl (text, (utf8, ltb-false 7 (length text) parts.0), ap inline_word parts.1 ∙ same_Some (inline_word own) word is)
    by (form.Static index) e is = fixed_if_static t text index word e (sym (same_Some (static_word index) word is))
    by (form.Dynamic hash) e is = absurd (none-some _ is)

-- ---- one text's holding is written

-- new holds what m does, but this at the text
abbrev pub IsWritten : InternMap → InternMap → List ℕ → Option Holding → Type 0
IsWritten m new text w = (other : List ℕ) → new.held other ≡ cond (bytes_eq text other) w (m.held other)

pub written : (m new : InternMap) (text : List ℕ) (w : Option Holding) → new ≡ with_held m text w → IsWritten m new text w
written m new text w e other = ap (λ (k : InternMap). k.held other) e

pub written-last : (m new : InternMap) (text : List ℕ) (w : Option Holding) (bucket serial : ℕ) → new ≡ with_last (with_held m text w) bucket serial → IsWritten m new text w
written-last m new text w bucket serial e other = ap (λ (k : InternMap). k.held other) e

module _ (m new : InternMap) (text : List ℕ) (w : Option Holding) (is : IsWritten m new text w) where
  pub written-there : new.held text ≡ w
  written-there = is text ∙ ap (λ b. cond b w (m.held text)) ((bytes_eq-Decides text text).1 refl)

  pub written-cases : (other : List ℕ) → (text ≡ other) ⊎ (new.held other ≡ m.held other)
  written-cases other = elim (cases_Bool (bytes_eq text other)) [
    | inl same ↦ inl ((bytes_eq-Decides text other).0 same)
    | inr apart ↦ inr (is other ∙ ap (λ b. cond b w (m.held other)) apart)
  ]

-- ---- words that stay

-- who has the ticket in m has it in new, with as many holders at least
abbrev pub Grows : InternMap → InternMap → ℕ → Type 0
Grows m new ticket = (text : List ℕ) (holders : ℕ) → m.held text ≡ held_by ticket holders → (more : ℕ) × (new.held text ≡ held_by ticket more) × (holders ≤ more)

pub grows-same : (m new : InternMap) (ticket : ℕ) → new ≡ m → Grows m new ticket
grows-same m new ticket e text holders h = (holders, ap (λ (k : InternMap). k.held text) e ∙ h, omega arith)

-- one holder more
pub grows-more : (m new : InternMap) (text : List ℕ) (own holders : ℕ) → m.held text ≡ held_by own holders → IsWritten m new text (held_by own (holders + 1)) → (ticket : ℕ) → Grows m new ticket
grows-more m new text own holders had is ticket other n h = elim (written-cases m new text (held_by own (holders + 1)) is other) [
  | inl same ↦
      let ticket_is = same-ticket (m.held text) (m.held other) own ticket holders n (ap m.held same) had h in
      let holders_are = same-holders (m.held text) (m.held other) own ticket holders n (ap m.held same) had h in
      (holders + 1, ap new.held (sym same) ∙ written-there m new text (held_by own (holders + 1)) is ∙ ap (λ (k : ℕ). held_by k (holders + 1)) ticket_is, omega (arith, holders_are))
  | inr stays ↦ (n, stays ∙ h, omega arith)
]

-- a text that nobody held
pub grows-new : (m new : InternMap) (text : List ℕ) (w : Option Holding) → m.held text ≡ None → IsWritten m new text w → (ticket : ℕ) → Grows m new ticket
grows-new m new text w none is ticket other n h = elim (written-cases m new text w is other) [
  | inl same ↦ absurd (none-some _ (sym none ∙ ap m.held same ∙ h))
  | inr stays ↦ (n, stays ∙ h, omega arith)
]

-- another ticket
pub grows-other : (m new : InternMap) (text : List ℕ) (w : Option Holding) (own holders ticket : ℕ) → m.held text ≡ held_by own holders → IsWritten m new text w → ticket ≢ own → Grows m new ticket
grows-other m new text w own holders ticket had is apart other n h = elim (written-cases m new text w is other) [
  | inl same ↦ absurd (apart (sym (same-ticket (m.held text) (m.held other) own ticket holders n (ap m.held same) had h)))
  | inr stays ↦ (n, stays ∙ h, omega arith)
]

-- who has the ticket in m has it in new
abbrev pub HasStill : InternMap → InternMap → ℕ → Type 0
HasStill m new ticket = (text : List ℕ) (holders : ℕ) → m.held text ≡ held_by ticket holders → (now : ℕ) × (new.held text ≡ held_by ticket now)

module _ (t : Tables) (m new : InternMap) (word : ℕ) (still : HasStill m new word) where
  still-held : IsHeld t m word → IsHeld t new word
  unfolding IsHeld
  still-held (inl fixed) = inl fixed
  still-held (inr k) = let s = still k.text k.holders k.held in inr (record { text = k.text; holders = s.0; held = s.1 })

  still-text : (text : List ℕ) → IsTextOf t m word text → IsTextOf t new word text
  still-text text (inl s) = inl s
  still-text text (inr h) = inr (still text h.0 h.1)

  still-owned : (text : List ℕ) (fixed : Option ℕ) → HasWordBy m text fixed word → HasWordBy new text fixed word
  still-owned text (Some own) h = h
  still-owned text None h = still text h.0 h.1

  still-keeps : KeepsWord t m new word
  still-keeps = record {
    held = still-held;
    text = still-text;
    owned = λ text. still-owned text (fixed_word (form_of_text t text));
  }

module _ (t : Tables) (m new : InternMap) (word : ℕ) (grows : Grows m new word) where
  pub grows-keeps : KeepsWord t m new word
  grows-keeps = still-keeps t m new word (λ text holders h. (let g = grows text holders h in (g.0, g.1)))

  pub grows-by : (n : ℕ) → IsHeldBy t m word n → IsHeldBy t new word n
  grows-by n (inl none) = inl none
  grows-by n (inr (inl fixed)) = inr (inl fixed)
  grows-by n (inr (inr h)) = let g = grows h.0 h.1 h.2 in let few = h.3 in let more = g.2 in inr (inr (h.0, g.0, g.1, omega (arith, few, more)))

-- ---- words that are listed

module _ (t : Tables) (m new : InternMap) (word : ℕ) (before after : List ℕ) where
  -- a word more
  pub listed-more : ((other : ℕ) → Grows m new other) → ((n : ℕ) → IsHeldBy t m word n → IsHeldBy t new word (1 + n)) → AreHeld t m (before ++ after) → AreHeld t new (before ++ word ∷ after)
  listed-more grows more all other = elim (cases_Bool (word == other)) [
    | inl same ↦ subst (λ (w : ℕ). IsHeldBy t new w (times w (before ++ word ∷ after))) (eqb-true word other same) (subst (IsHeldBy t new word) (times-same word before after) (more (times word (before ++ after)) (all word)))
    | inr apart ↦ subst (IsHeldBy t new other) (sym (times-other other word before after apart)) (grows-by t m new other (grows other) (times other (before ++ after)) (all other))
  ]

  -- a word less
  pub listed-less : ((other : ℕ) → other ≢ word → Grows m new other) → ((n : ℕ) → IsHeldBy t m word (1 + n) → IsHeldBy t new word n) → AreHeld t m (before ++ word ∷ after) → AreHeld t new (before ++ after)
  listed-less grows less all other = elim (cases_Bool (word == other)) [
    | inl same ↦ subst (λ (w : ℕ). IsHeldBy t new w (times w (before ++ after))) (eqb-true word other same) (less (times word (before ++ after)) (subst (IsHeldBy t m word) (sym (times-same word before after)) (all word)))
    | inr apart ↦
        let differ : other ≢ word = λ e. true≢false (sym (eq-eqb word other (sym e)) ∙ apart) in
        grows-by t m new other (grows other differ) (times other (before ++ after)) (subst (IsHeldBy t m other) (times-other other word before after apart) (all other))
  ]

  -- a listed word is held
  pub listed-held : AreHeld t m (before ++ word ∷ after) → IsHeld t m word
  unfolding IsHeld
  listed-held all = elim (subst (IsHeldBy t m word) (sym (times-same word before after)) (all word)) [
    | inl zeroed ↦ absurd (omega (arith, zeroed))
    | inr (inl fixed) ↦ inl fixed
    | inr (inr h) ↦ inr (record { text = h.0; holders = h.1; held = h.2 })
  ]

-- ---- interning

-- how a text got its word: its form fixes it; or it was held and has one holder more; or its bucket gave its next ticket
abbrev pub IsInterned : Tables → InternMap → List ℕ → ℕ → InternMap → Type 0
IsInterned t m text word new =
    ((fixed_word (form_of_text t text) ≡ Some word) × (new ≡ m))
    ⊎ ((fixed_word (form_of_text t text) ≡ None) × (holders : ℕ) × (m.held text ≡ held_by word holders) × IsWritten m new text (held_by word (holders + 1)))
    ⊎ ((fixed_word (form_of_text t text) ≡ None) × (m.held text ≡ None) × (word ≡ ticket_of (m.last (bucket_of t m.buckets text) + 1) (bucket_of t m.buckets text))
    × IsWritten m new text (held_by word 1) × (m.buckets ≡ new.buckets))

ok-same : (x y : ℕ) → ◌≡◌ {A = Result ℕ Fault} (Ok x) (Ok y) → x ≡ y
ok-same x y e = ap word_or e
  where
    word_or : Result ℕ Fault → ℕ
    word_or (Ok word) = word
    word_or (Err fault) = 0

not-err : (x : ℕ) (fault : Fault) → ◌≡◌ {A = Result ℕ Fault} (Ok x) (Err fault) → ⊥
not-err x fault e = cc

not-ok : (x : ℕ) (fault : Fault) → ◌≡◌ {A = Result ℕ Fault} (Err fault) (Ok x) → ⊥
not-ok x fault e = cc

module _ (t : Tables) (limits : Bounds) (m new : InternMap) (text : List ℕ) where
  module _ (word : ℕ) where
    by-held : (held : Option Holding) (reply : MapReply) → m.held text ≡ held → fixed_word (form_of_text t text) ≡ None → MayIntern t limits m text held reply new → Ok word ≡ as_word reply
        → IsInterned t m text word new
    by-held (Some had) reply h dynamic (inl x) e =
        let is : word ≡ had.ticket = ok-same word had.ticket (e ∙ ap as_word x.1) in
        inr (inl (
          dynamic,
          had.holders,
          h ∙ ap (λ (k : ℕ). held_by k had.holders) (sym is),
          λ other. written m new text _ x.2 other ∙ ap (λ (k : ℕ). cond (bytes_eq text other) (held_by k (had.holders + 1)) (m.held other)) (sym is),
        ))
    by-held (Some had) reply h dynamic (inr x) e = absurd (not-err word _ (e ∙ ap as_word x.1))
    by-held None reply h dynamic (inl x) e =
        let bucket = bucket_of t m.buckets text in
        let is : word ≡ ticket_of (m.last bucket + 1) bucket = ok-same word (ticket_of (m.last bucket + 1) bucket) (e ∙ ap as_word x.1) in
        inr (inr (
          dynamic,
          h,
          is,
          λ other. written-last m new text _ bucket (m.last bucket + 1) x.2 other ∙ ap (λ (k : ℕ). cond (bytes_eq text other) (held_by k 1) (m.held other)) (sym is),
          sym (ap (λ (k : InternMap). k.buckets) x.2),
        ))
    by-held None reply h dynamic (inr (inl x)) e = absurd (not-err word _ (e ∙ ap as_word x.1))
    by-held None reply h dynamic (inr (inr x)) e = absurd (not-err word _ (e ∙ ap as_word x.1))

    pub interned : Interns t limits m text (Ok word) new → IsInterned t m text word new
    interned h = by (fixed_word (form_of_text t text)) refl h
      where
        by : (fixed : Option ℕ) → fixed_word (form_of_text t text) ≡ fixed → InternsBy t limits m text fixed (Ok word) new → IsInterned t m text word new
        by (Some own) e x = inl (e ∙ ap (λ (k : ℕ). Some k) (sym (ok-same word own x.0)), x.1)
        by None e x = by-held (m.held text) x.0 refl e x.1 x.2

  -- a refusal changes nothing
  refused-by : (held : Option Holding) (reply : MapReply) (fault : Fault) → MayIntern t limits m text held reply new → Err fault ≡ as_word reply → new ≡ m
  refused-by (Some had) reply fault (inl x) e = absurd (not-ok _ fault (e ∙ ap as_word x.1))
  refused-by (Some had) reply fault (inr x) e = x.2
  refused-by None reply fault (inl x) e = absurd (not-ok _ fault (e ∙ ap as_word x.1))
  refused-by None reply fault (inr (inl x)) e = x.2
  refused-by None reply fault (inr (inr x)) e = x.2

  pub refused : (fault : Fault) → Interns t limits m text (Err fault) new → new ≡ m
  refused fault h = by (fixed_word (form_of_text t text)) h
    where
      by : (fixed : Option ℕ) → InternsBy t limits m text fixed (Err fault) new → new ≡ m
      by (Some own) x = x.1
      by None x = refused-by (m.held text) x.0 fault x.1 x.2

  -- what was held stays so
  pub interns-grow : (result : Result ℕ Fault) (ticket : ℕ) → Interns t limits m text result new → Grows m new ticket
  interns-grow (Ok word) ticket h = elim (interned word h) [
    | inl x ↦ grows-same m new ticket x.1
    | inr (inl x) ↦ grows-more m new text word x.1 x.2 x.3 ticket
    | inr (inr x) ↦ grows-new m new text (held_by word 1) x.1 x.3 ticket
  ]
  interns-grow (Err fault) ticket h = grows-same m new ticket (refused fault h)

  -- a ticket that is held afterwards was held before, or is new
  pub interns-fresh : (result : Result ℕ Fault) (ticket : ℕ) → IsSoundMap t new → Interns t limits m text result new → IsHeldTicket new ticket → IsHeldTicket m ticket ⊎ IsNewTicket m ticket
  interns-fresh (Err fault) ticket sound h k = inl (subst (λ (n : InternMap). IsHeldTicket n ticket) (refused fault h) k)
  interns-fresh (Ok word) ticket sound h k = elim (interned word h) [
    | inl x ↦ inl (subst (λ (n : InternMap). IsHeldTicket n ticket) x.1 k)
    | inr (inl x) ↦ inl (elim (written-cases m new text (held_by word (x.1 + 1)) x.3 k.text) [
      | inl same ↦
          let is = same-ticket (new.held text) (new.held k.text) word ticket (x.1 + 1) k.holders (ap new.held same) (written-there m new text (held_by word (x.1 + 1)) x.3) k.held in
          record { text = text; holders = x.1; held = x.2 ∙ ap (λ (k : ℕ). held_by k x.1) is }
      | inr stays ↦ record { text = k.text; holders = k.holders; held = sym stays ∙ k.held }
    ])
    | inr (inr x) ↦ elim (written-cases m new text (held_by word 1) x.3 k.text) [
      | inl same ↦
          let there = written-there m new text (held_by word 1) x.3 in
          let is : word ≡ ticket = same-ticket (new.held text) (new.held k.text) word ticket 1 k.holders (ap new.held same) there k.held in
          let g = sound.given text (record { ticket = word; holders = 1 }) there in
          let bucket : bucket_of t m.buckets text ≡ bucket_of t new.buckets text = ap (λ (n : ℕ). bucket_of t n text) x.4 in
          let last : m.last (bucket_of t m.buckets text) ≡ m.last (bucket_of t new.buckets text) = ap m.last bucket in
          let next = x.2 in
          let own = g.is in
          inr (g.serial, bucket_of t new.buckets text, g.right, sym own ∙ is, omega (arith, next, own, bucket, last))
      | inr stays ↦ inl (record { text = k.text; holders = k.holders; held = sym stays ∙ k.held })
    ]
  ]

module _ (t : Tables) (limits : Bounds) (m new : InternMap) (text : List ℕ) (word : ℕ) (utf8 : IsUtf8 text) (h : Interns t limits m text (Ok word) new) where
  -- the text has the word that it was given
  pub interned-owned : HasWord t new text word
  interned-owned = elim (interned t limits m new text word h) [
    | inl x ↦ subst (λ (fixed : Option ℕ). HasWordBy new text fixed word) (sym x.0) refl
    | inr (inl x) ↦ subst (λ (fixed : Option ℕ). HasWordBy new text fixed word) (sym x.0) (x.1 + 1, written-there m new text (held_by word (x.1 + 1)) x.3)
    | inr (inr x) ↦ subst (λ (fixed : Option ℕ). HasWordBy new text fixed word) (sym x.0) (1, written-there m new text (held_by word 1) x.3)
  ]

  -- one holder more has it
  interned-more : IsSoundMap t m → IsSoundMap t new → (n : ℕ) → IsHeldBy t m word n → IsHeldBy t new word (1 + n)
  interned-more sound now n by = elim (interned t limits m new text word h) [
    | inl x ↦ inr (inl (fixed-of-form t text word utf8 x.0))
    | inr (inl x) ↦ elim by [
      | inl zeroed ↦ inr (inr (text, x.1 + 1, written-there m new text (held_by word (x.1 + 1)) x.3, omega (arith, zeroed)))
      | inr (inl fixed) ↦ inr (inl fixed)
      | inr (inr b) ↦
          let same : b.0 ≡ text = sound.apart b.0 text (record { ticket = word; holders = b.1 }) (record { ticket = word; holders = x.1 }) b.2 x.2 refl in
          let many = same-holders (m.held b.0) (m.held text) word word b.1 x.1 (ap m.held same) b.2 x.2 in
          let few = b.3 in
          inr (inr (text, x.1 + 1, written-there m new text (held_by word (x.1 + 1)) x.3, omega (arith, many, few)))
    ]
    | inr (inr x) ↦ elim by [
      | inl zeroed ↦ inr (inr (text, 1, written-there m new text (held_by word 1) x.3, omega (arith, zeroed)))
      | inr (inl fixed) ↦ inr (inl fixed)
      | inr (inr b) ↦ elim (written-cases m new text (held_by word 1) x.3 b.0) [
        | inl same ↦ absurd (none-some _ (sym x.1 ∙ ap m.held same ∙ b.2))
        | inr stays ↦
            let same : b.0 ≡ text = now.apart b.0 text (record { ticket = word; holders = b.1 }) (record { ticket = word; holders = 1 }) (stays ∙ b.2) (written-there m new text (held_by word 1) x.3) refl in
            absurd (none-some _ (sym x.1 ∙ ap m.held (sym same) ∙ b.2))
      ]
    ]
  ]

  pub interned-listed : IsSoundMap t m → IsSoundMap t new → (words : List ℕ) → AreHeld t m words → AreHeld t new (word ∷ words)
  interned-listed sound now words = listed-more t m new word [] words (λ other. interns-grow t limits m new text (Ok word) other h) (interned-more sound now)

-- ---- cloning and giving

-- a word that a form fixes, or a ticket with one holder more
abbrev pub IsCloned : Tables → InternMap → ℕ → InternMap → Type 0
IsCloned t m word new = (IsFixedWord t word × (new ≡ m)) ⊎ ((k : IsHeldTicket m word) × IsWritten m new k.text (held_by word (k.holders + 1)))

module _ (t : Tables) (limits : Bounds) (m new : InternMap) (word : ℕ) where
  pub cloned-word : (result : Result ℕ Fault) → Clones t limits m word result new → IfOk result (λ clone. clone ≡ word)
  cloned-word (Err fault) h = tt
  cloned-word (Ok clone) (inl x) = ok-same clone word x.1
  cloned-word (Ok clone) (inr x) = elim x.1.1 [
    | inl y ↦ ok-same clone word (x.2 ∙ ap as_word y.1)
    | inr y ↦ absurd (not-err clone _ (x.2 ∙ ap as_word y.1))
  ]

  cloned : (clone : ℕ) → Clones t limits m word (Ok clone) new → IsCloned t m word new
  cloned clone (inl x) = inl (x.0, x.2)
  cloned clone (inr x) = elim x.1.1 [
    | inl y ↦ inr (x.1.0, written m new x.1.0.text _ y.2)
    | inr y ↦ absurd (not-err clone _ (x.2 ∙ ap as_word y.1))
  ]

  pub clones-grow : (result : Result ℕ Fault) (ticket : ℕ) → Clones t limits m word result new → Grows m new ticket
  clones-grow result ticket (inl x) = grows-same m new ticket x.2
  clones-grow result ticket (inr x) = elim x.1.1 [
    | inl y ↦ grows-more m new x.1.0.text word x.1.0.holders x.1.0.held (written m new x.1.0.text _ y.2) ticket
    | inr y ↦ grows-same m new ticket y.2
  ]

  pub cloned-held : (result : Result ℕ Fault) → IsHeld t m word → Clones t limits m word result new → IfOk result (λ clone. IsHeld t new clone)
  cloned-held (Err fault) held h = tt
  cloned-held (Ok clone) held h = subst (IsHeld t new) (sym (cloned-word (Ok clone) h)) ((grows-keeps t m new word (clones-grow (Ok clone) word h)).held held)

  cloned-more : (clone : ℕ) → Clones t limits m word (Ok clone) new → IsSoundMap t m → (n : ℕ) → IsHeldBy t m word n → IsHeldBy t new word (1 + n)
  cloned-more clone h sound n by = elim (cloned clone h) [
    | inl x ↦ inr (inl x.0)
    | inr x ↦ elim by [
      | inl zeroed ↦ inr (inr (x.0.text, x.0.holders + 1, written-there m new x.0.text (held_by word (x.0.holders + 1)) x.1, omega (arith, zeroed)))
      | inr (inl fixed) ↦ inr (inl fixed)
      | inr (inr b) ↦
          let same : b.0 ≡ x.0.text = sound.apart b.0 x.0.text (record { ticket = word; holders = b.1 }) (record { ticket = word; holders = x.0.holders }) b.2 x.0.held refl in
          let many = same-holders (m.held b.0) (m.held x.0.text) word word b.1 x.0.holders (ap m.held same) b.2 x.0.held in
          let few = b.3 in
          inr (inr (x.0.text, x.0.holders + 1, written-there m new x.0.text (held_by word (x.0.holders + 1)) x.1, omega (arith, many, few)))
    ]
  ]

  pub cloned-listed : (result : Result ℕ Fault) → Clones t limits m word result new → IsSoundMap t m → (words : List ℕ) → AreHeld t m words → IfOk result (λ clone. AreHeld t new (clone ∷ words))
  cloned-listed (Err fault) h sound words all = tt
  cloned-listed (Ok clone) h sound words all =
      subst (λ (w : ℕ). AreHeld t new (w ∷ words)) (sym (cloned-word (Ok clone) h))
      (listed-more t m new word [] words (λ other. clones-grow (Ok clone) other h) (cloned-more clone h sound) all)

  pub gives-grow : Gives t limits m word new → (other : ℕ) → other ≢ word → Grows m new other
  gives-grow (inl x) other apart = grows-same m new other x.1
  gives-grow (inr x) other apart = grows-other m new x.1.0.text _ word x.1.0.holders other x.1.0.held (written m new x.1.0.text _ x.1.1.1) apart

  -- a word that is still held once it was given was a ticket with more holders than one, or is one that a form fixes
  given-still : Gives t limits m word new → IsSoundMap t m → IsHeld t new word → KeepsWord t m new word
  unfolding IsHeld
  given-still (inl x) sound held = grows-keeps t m new word (grows-same m new word x.1)
  given-still (inr x) sound (inl fixed) =
      let k = x.1.0 in
      let g = sound.given k.text (record { ticket = word; holders = k.holders }) k.held in
      absurd (not-fixed-if-ticket t word g.serial (bucket_of t m.buckets k.text) (sym g.is) fixed)
  given-still (inr x) sound (inr j) =
      let k = x.1.0 in
      let had : Holding = record { ticket = word; holders = k.holders } in
      let own : j.text ≡ k.text = elim (written-cases m new k.text (unless_given_up (one_less had)) (written m new k.text _ x.1.1.1) j.text) [
        | inl same ↦ sym same
        | inr stays ↦ sound.apart j.text k.text (record { ticket = word; holders = j.holders }) had (sym stays ∙ j.held) k.held refl
      ] in
      still-keeps t m new word (λ text holders h. (
        j.holders,
        ap new.held (sound.apart text k.text (record { ticket = word; holders = holders }) had h k.held refl ∙ sym own) ∙ j.held,
      ))

  -- any other word keeps what it has, and so does this one where it is still held
  pub gives-keeps : Gives t limits m word new → IsSoundMap t m → (other : ℕ) → (other ≢ word) ⊎ IsHeld t new other → KeepsWord t m new other
  gives-keeps h sound other (inl apart) = grows-keeps t m new other (gives-grow h other apart)
  gives-keeps h sound other (inr held) = elim (cases_Bool (other == word)) [
    | inl same ↦
        let is = eqb-true other word same in
        subst (KeepsWord t m new) (sym is) (given-still h sound (subst (IsHeld t new) is held))
    | inr apart ↦ grows-keeps t m new other (gives-grow h other (λ e. true≢false (sym (eq-eqb other word e) ∙ apart)))
  ]

  -- one holder less has it
  gives-less : Gives t limits m word new → IsSoundMap t m → (n : ℕ) → IsHeldBy t m word (1 + n) → IsHeldBy t new word n
  gives-less (inl x) sound n by = inr (inl x.0)
  gives-less (inr x) sound n (inl zeroed) = absurd (omega (arith, zeroed))
  gives-less (inr x) sound n (inr (inl fixed)) = inr (inl fixed)
  gives-less (inr x) sound zero (inr (inr b)) = inl refl
  gives-less (inr x) sound (suc n) (inr (inr b)) =
      let k = x.1.0 in
      let had : Holding = record { ticket = word; holders = k.holders } in
      let same : b.0 ≡ k.text = sound.apart b.0 k.text (record { ticket = word; holders = b.1 }) had b.2 k.held refl in
      let many = same-holders (m.held b.0) (m.held k.text) word word b.1 k.holders (ap m.held same) b.2 k.held in
      let few = b.3 in
      let left = some_left had (omega (arith, many, few)) (λ e. omega (arith, many, few, e)) in
      inr (inr (k.text, k.holders - 1, written-there m new k.text (unless_given_up (one_less had)) (written m new k.text _ x.1.1.1) ∙ left, omega (arith, many, few)))

  pub gives-listed : Gives t limits m word new → IsSoundMap t m → (before after : List ℕ) → AreHeld t m (before ++ word ∷ after) → AreHeld t new (before ++ after)
  gives-listed h sound before after = listed-less t m new word before after (gives-grow h) (gives-less h sound)

-- ---- no ticket comes twice

-- each ticket that is held is one that its bucket has given
pub held-given : (t : Tables) (m : InternMap) → IsSoundMap t m → (ticket : ℕ) → IsHeldTicket m ticket → IsGivenTicket m ticket
held-given t m sound ticket k =
    let g = sound.given k.text (record { ticket = ticket; holders = k.holders }) k.held in
    (g.serial, bucket_of t m.buckets k.text, g.right, sym g.is, g.given)

abbrev pub IsFresh : InternMap → InternMap → Type 0
IsFresh m new = (ticket : ℕ) → IsHeldTicket new ticket → IsHeldTicket m ticket ⊎ IsNewTicket m ticket

fresh-same : (m new : InternMap) → new ≡ m → IsFresh m new
fresh-same m new e ticket k = inl (subst (λ (n : InternMap). IsHeldTicket n ticket) e k)

-- a text that is held gets another number of holders, or goes
fresh-written : (m new : InternMap) (text : List ℕ) (own holders : ℕ) (w : Option Holding) → m.held text ≡ held_by own holders → IsWritten m new text w
    → ((ticket n : ℕ) → w ≡ held_by ticket n → ticket ≡ own) → IsFresh m new
fresh-written m new text own holders w had is only ticket k = inl (elim (written-cases m new text w is k.text) [
  | inl same ↦
      let own_is : ticket ≡ own = only ticket k.holders (sym (written-there m new text w is) ∙ ap new.held same ∙ k.held) in
      record { text = text; holders = holders; held = had ∙ ap (λ (n : ℕ). held_by n holders) (sym own_is) }
  | inr stays ↦ record { text = k.text; holders = k.holders; held = sym stays ∙ k.held }
])

module _ (t : Tables) (limits : Bounds) (m new : InternMap) (word : ℕ) where
  clones-fresh : (result : Result ℕ Fault) → Clones t limits m word result new → IsFresh m new
  clones-fresh result (inl x) = fresh-same m new x.2
  clones-fresh result (inr x) = elim x.1.1 [
    | inl y ↦ fresh-written m new x.1.0.text word x.1.0.holders (held_by word (x.1.0.holders + 1)) x.1.0.held (written m new x.1.0.text _ y.2)
        (λ ticket n e. sym (ap (λ (v : Holding). v.ticket) (same_Some _ _ e)))
    | inr y ↦ fresh-same m new y.2
  ]

  gives-fresh : Gives t limits m word new → IsFresh m new
  gives-fresh (inl x) = fresh-same m new x.1
  gives-fresh (inr x) =
      let had : Holding = record { ticket = word; holders = x.1.0.holders } in
      fresh-written m new x.1.0.text word x.1.0.holders (unless_given_up (one_less had)) x.1.0.held (written m new x.1.0.text _ x.1.1.1) (λ ticket n e. left-ticket (one_less had) ticket n e)
    where
      left-ticket : (left : Holding) (ticket n : ℕ) → unless_given_up left ≡ held_by ticket n → ticket ≡ left.ticket
      left-ticket left ticket n e = elim (cases_Bool (left.holders == 0)) [
        | inl gone ↦ absurd (none-some _ (sym (ap (λ b. cond b None (Some left)) gone) ∙ e))
        | inr stays ↦ sym (ap (λ (v : Holding). v.ticket) (same_Some _ _ (sym (ap (λ b. cond b None (Some left)) stays) ∙ e)))
      ]

pub answers-fresh : (t : Tables) (limits : Bounds) (m new : InternMap) (c : Call) (answer : TableReply) → IsSoundMap t new → Answers t limits m c answer new → IsFresh m new
answers-fresh t limits m new (call.Intern text) answer sound x = λ ticket. interns-fresh t limits m new (string_bytes text) x.0 ticket sound x.1
answers-fresh t limits m new (call.Clone word) answer sound (inl x) = clones-fresh t limits m new word x.0 x.1
answers-fresh t limits m new (call.Clone word) answer sound (inr x) = fresh-same m new x.2
answers-fresh t limits m new (call.Give word) answer sound (inl x) = gives-fresh t limits m new word x.0
answers-fresh t limits m new (call.Give word) answer sound (inr x) = fresh-same m new x.2

-- one call after another
pub fresh-more : (m mid new : InternMap) → ((bucket : ℕ) → m.last bucket ≤ mid.last bucket) → IsFresh m mid → IsFresh mid new → IsFresh m new
fresh-more m mid new grow first second ticket k = elim (second ticket k) [
  | inl before ↦ first ticket before
  | inr x ↦ let more = grow x.1 in let above = x.4 in inr (x.0, x.1, x.2, x.3, omega (arith, more, above))
]
