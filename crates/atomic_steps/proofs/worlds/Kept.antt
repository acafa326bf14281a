-- What every reached world keeps.
use Rattle.std.proofs.Common.{◌≡◌, ℕ, ◌+◌, ◌<◌, ◌≤◌, ◌≢◌, inl, inr, Bool, true, false, cond, List, [], ◌∷◌, ◌++◌, length, None, Some, refl, sym, ap, ◌∙◌, subst, arith, suc, get_or-set_same, get_or-set_other, length-set}
use Rattle.std.specs.Prelude.{slice_set, slice_index, ◌==◌, ◌&&◌}
use Rattle.std.specs.List.{AllByRecursion}
use Rattle.std.specs.Option.{option_map}
use Rattle.std.specs.Str.{bytes_eq}
use Rattle.std.proofs.lemmas.Bool.{and_parts, and_from, and_left, and_right, cases_eq, false_from_ne_true}
use Rattle.std.proofs.lemmas.Slice.Eq.{bytes_eq-Decides}
use Rattle.text_forms.specs.Layout.{most_buckets}
use Rattle.atomic_steps.specs.Steps.{replaced, without_party, with_one}
use Rattle.text_forms.specs.Word.{ticket_of}
use Rattle.atomic_steps.specs.World.{WorldEntry, PartyPass, is_linked, is_living}
use Rattle.atomic_steps.specs.Sound.{At, IsNumbered, SoundTable, IsDead, SoundPass}
use Rattle.text_forms.specs.Times.{times}
use Rattle.atomic_steps.specs.Runs.{living_at}
use Rattle.text_forms.specs.Map.{InternMap, Holding}
use Rattle.text_forms.proofs.words.Tickets.{ticket_of-same}
use Rattle.atomic_steps.proofs.lists.Facts.{at_set_same, at_set_cases, at_push_old, at_push_cases, at_push_new, at_one, find-set, find-push, find-is, find-none, all_weaker, times-with_one_same, times-with_one_other, if_case, at_set_other}
use Rattle.text_forms.specs.Tables.{Tables}

-- ---- one entry changes

pub record Changes (x y : WorldEntry) : Type 0 where
  pub text : y.text ≡ x.text
  pub bucket : y.bucket ≡ x.bucket
  pub ticket : y.ticket ≡ x.ticket
  pub living : is_living y ≡ true → is_living x ≡ true
  pub zero_stays : x.count ≡ 0 → y.count ≡ 0

unchanged : (x y : WorldEntry) → y ≡ x → Changes x y
unchanged x y e = record {
  text = ap (λ (z : WorldEntry). z.text) e;
  bucket = ap (λ (z : WorldEntry). z.bucket) e;
  ticket = ap (λ (z : WorldEntry). z.ticket) e;
  living = λ h. subst (λ (z : WorldEntry). is_living z ≡ true) e h;
  zero_stays = λ h. subst (λ (z : WorldEntry). z.count ≡ 0) (sym e) h;
}

-- what stood where z stands now
record Was (es : List WorldEntry) (j : ℕ) (z : WorldEntry) : Type 0 where
  entry : WorldEntry
  at : At es j entry
  changes : Changes entry z

was : (es : List WorldEntry) (k : ℕ) (x y : WorldEntry) → At es k x → Changes x y → (j : ℕ) (z : WorldEntry) → At (slice_set es k y) j z → Was es j z
was es k x y a ch j z b =
    elim (at_set_cases es k y j z b) [
      | inl (e, f) ↦ record { entry = x; at = subst (λ (i : ℕ). At es i x) (sym e) a; changes = subst (λ (v : WorldEntry). Changes x v) (sym f) ch }
      | inr (n, old) ↦ record { entry = z; at = old; changes = unchanged z z refl }
    ]

numbered_as : (lasts : List ℕ) (x z : WorldEntry) → Changes x z → IsNumbered lasts x → IsNumbered lasts z
numbered_as lasts x z ch n =
    let same : x.bucket ≡ z.bucket = sym ch.bucket in
    (n.0, ch.ticket ∙ n.1 ∙ ap (λ b. ticket_of n.0 b) same, subst (λ (b : ℕ). n.0 ≤ slice_index lasts b) same n.2, subst (λ (b : ℕ). b < length lasts) same n.3)

module _ (es : List WorldEntry) (lasts bag bag' : List ℕ) (k : ℕ) (x y : WorldEntry) (table : SoundTable es lasts bag) (at : At es k x) (ch : Changes x y) where
  pub table-set : y.count ≡ times y.ticket bag' → ((t : ℕ) → x.ticket ≢ t → times t bag' ≡ times t bag) → (0 < y.count → is_linked y.place ≡ true) → SoundTable (slice_set es k y) lasts bag'
  table-set count others linked = record {
    some = table.some;
    few = table.few;
    numbered = λ j z a. let old = was es k x y at ch j z a in numbered_as lasts old.entry z old.changes (table.numbered j old.entry old.at);
    apart = λ i j u v a b e.
        let o = was es k x y at ch i u a in
        let p = was es k x y at ch j v b in
        table.apart i j o.entry p.entry o.at p.at (sym o.changes.ticket ∙ e ∙ p.changes.ticket);
    one = λ i j u v a b lu lv e.
        let o = was es k x y at ch i u a in
        let p = was es k x y at ch j v b in
        table.one i j o.entry p.entry o.at p.at (o.changes.living lu) (p.changes.living lv) (sym o.changes.text ∙ e ∙ p.changes.text);
    counted = λ j z a. elim (at_set_cases es k y j z a) [
      | inl (e, f) ↦ subst (λ (v : WorldEntry). v.count ≡ times v.ticket bag') (sym f) count
      | inr (n, old) ↦ table.counted j z old ∙ sym (others z.ticket (λ e. n (table.apart j k z x old at (sym e))))
    ];
    bagged = λ t none. elim (cases_eq x.ticket t) [
      | inl e ↦ absurd (none k y (at_set_same es k x y at) (ch.ticket ∙ e))
      | inr n ↦ others t n ∙ table.bagged t (λ j z a e. elim (cases_eq j k) [
        | inl same ↦ n (ap (λ (v : WorldEntry). v.ticket) (at_one es k x z at (subst (λ (i : ℕ). At es i z) same a)) ∙ e)
        | inr other ↦ none j z (at_set_other es k y j z other a) e
      ])
    ];
    linked = λ j z a above. elim (at_set_cases es k y j z a) [
      | inl (e, f) ↦ subst (λ (v : WorldEntry). 0 < v.count → is_linked v.place ≡ true) (sym f) linked above
      | inr (n, old) ↦ table.linked j z old above
    ];
  }

  pub dead-set : (e : ℕ) → IsDead es e → IsDead (slice_set es k y) e
  dead-set e d = elim (cases_eq d.0 k) [
    | inl same ↦
        let same_entry : d.1 ≡ x = at_one es k d.1 x (subst (λ (i : ℕ). At es i d.1) same d.3) at in
        (k, y, d.2 ∙ ap suc same, at_set_same es k x y at, ch.zero_stays (subst (λ (v : WorldEntry). v.count ≡ 0) same_entry d.4))
    | inr other ↦ (d.0, d.1, d.2, at_set_other es k y d.0 d.1 other d.3, d.4)
  ]

pub passes-weaker : (tables : Tables) (n : ℕ) (es es' : List WorldEntry) → ((e : ℕ) → IsDead es e → IsDead es' e) → (passes : List PartyPass) → AllByRecursion (SoundPass tables n es) passes → AllByRecursion (SoundPass tables n es') passes
passes-weaker tables n es es' h passes all = all_weaker (SoundPass tables n es) (SoundPass tables n es') (λ pass s. record { below = s.below; right = s.right; dead = λ e d. h e (s.dead e d) }) passes all

pub all_replaced : (P : PartyPass → Type 0) (passes : List PartyPass) (new : PartyPass) → AllByRecursion P passes → P new → AllByRecursion P (replaced passes new)
all_replaced P [] new all h = all
all_replaced P (pass ∷ passes) new all h =
    if_case (λ ys. AllByRecursion P ys) (pass.party == new.party) (new ∷ passes) (pass ∷ replaced passes new)
    (λ e. (h, all.1))
    (λ e. (all.0, all_replaced P passes new all.1 h))

pub all_without_party : (P : PartyPass → Type 0) (passes : List PartyPass) (party : ℕ) → AllByRecursion P passes → AllByRecursion P (without_party passes party)
all_without_party P [] party all = all
all_without_party P (pass ∷ passes) party all =
    if_case (λ ys. AllByRecursion P ys) (pass.party == party) passes (pass ∷ without_party passes party)
    (λ e. all.1)
    (λ e. (all.0, all_without_party P passes party all.1))

-- ---- one more entry

module _ (es : List WorldEntry) (lasts bag : List ℕ) (y : WorldEntry) (table : SoundTable es lasts bag) (below : y.bucket < length lasts) (ticket : y.ticket ≡ ticket_of (slice_index lasts y.bucket + 1) y.bucket) where
  pub fresh : (k : ℕ) (x : WorldEntry) → At es k x → x.ticket ≢ y.ticket
  fresh k x a e =
      let n = table.numbered k x a in
      let few = table.few in
      let same = ticket_of-same x.bucket y.bucket n.0 (slice_index lasts y.bucket + 1) (omega (arith, few, n.3)) (omega (arith, few, below)) (sym n.1 ∙ e ∙ ticket) in
      let bound : n.0 ≤ slice_index lasts y.bucket = subst (λ (b : ℕ). n.0 ≤ slice_index lasts b) same.0 n.2 in
      omega (arith, same.1, bound)

  pub same_length : length (slice_set lasts y.bucket (slice_index lasts y.bucket + 1)) ≡ length lasts
  same_length = length-set lasts y.bucket (slice_index lasts y.bucket + 1)

  longer : (b : ℕ) → b < length lasts → b < length (slice_set lasts y.bucket (slice_index lasts y.bucket + 1))
  longer b h = subst (λ (m : ℕ). b < m) (sym same_length) h

  numbered_old : (x : WorldEntry) → IsNumbered lasts x → IsNumbered (slice_set lasts y.bucket (slice_index lasts y.bucket + 1)) x
  numbered_old x n = elim (cases_eq x.bucket y.bucket) [
    | inl e ↦
        let now : slice_index (slice_set lasts y.bucket (slice_index lasts y.bucket + 1)) y.bucket ≡ slice_index lasts y.bucket + 1 = get_or-set_same lasts y.bucket (slice_index lasts y.bucket + 1) 0 below in
        let was : n.0 ≤ slice_index lasts y.bucket = subst (λ (b : ℕ). n.0 ≤ slice_index lasts b) e n.2 in
        (n.0, n.1, subst (λ (b : ℕ). n.0 ≤ slice_index (slice_set lasts y.bucket (slice_index lasts y.bucket + 1)) b) (sym e) (omega (arith, now, was)), longer x.bucket n.3)
    | inr other ↦ (n.0, n.1, subst (λ (m : ℕ). n.0 ≤ m) (sym (get_or-set_other lasts y.bucket x.bucket (slice_index lasts y.bucket + 1) 0 other)) n.2, longer x.bucket n.3)
  ]

  pub table-push : y.count ≡ 1 → is_linked y.place ≡ true → ((k : ℕ) (x : WorldEntry) → At es k x → is_living x ≡ true → x.text ≢ y.text) → SoundTable (es ++ y ∷ []) (slice_set lasts y.bucket (slice_index lasts y.bucket + 1)) (with_one y.ticket bag)
  table-push count linked alone = record {
    some = subst (λ (m : ℕ). 0 < m) (sym same_length) table.some;
    few = subst (λ (m : ℕ). m ≤ most_buckets) (sym same_length) table.few;
    numbered = λ j z a. elim (at_push_cases es y j z a) [
      | inl old ↦ numbered_old z (table.numbered j z old)
      | inr (e, f) ↦ subst (λ (v : WorldEntry). IsNumbered (slice_set lasts y.bucket (slice_index lasts y.bucket + 1)) v) (sym f)
          (let inside : y.bucket < length lasts = below in
          (slice_index lasts y.bucket + 1, ticket, subst (λ (m : ℕ). slice_index lasts y.bucket + 1 ≤ m) (sym (get_or-set_same lasts y.bucket (slice_index lasts y.bucket + 1) 0 inside)) (omega arith), longer y.bucket below))
    ];
    apart = λ i j u v a b e. elim (at_push_cases es y i u a) [
      | inl old ↦ elim (at_push_cases es y j v b) [
        | inl old' ↦ table.apart i j u v old old' e
        | inr (p, q) ↦ absurd (fresh i u old (e ∙ ap (λ (z : WorldEntry). z.ticket) q))
      ]
      | inr (p, q) ↦ elim (at_push_cases es y j v b) [
        | inl old' ↦ absurd (fresh j v old' (sym e ∙ ap (λ (z : WorldEntry). z.ticket) q))
        | inr (p', q') ↦ p ∙ sym p'
      ]
    ];
    one = λ i j u v a b lu lv e. elim (at_push_cases es y i u a) [
      | inl old ↦ elim (at_push_cases es y j v b) [
        | inl old' ↦ table.one i j u v old old' lu lv e
        | inr (p, q) ↦ absurd (alone i u old lu (e ∙ ap (λ (z : WorldEntry). z.text) q))
      ]
      | inr (p, q) ↦ elim (at_push_cases es y j v b) [
        | inl old' ↦ absurd (alone j v old' lv (sym e ∙ ap (λ (z : WorldEntry). z.text) q))
        | inr (p', q') ↦ p ∙ sym p'
      ]
    ];
    counted = λ j z a. elim (at_push_cases es y j z a) [
      | inl old ↦ table.counted j z old ∙ sym (times-with_one_other y.ticket z.ticket bag (λ e. fresh j z old (sym e)))
      | inr (e, f) ↦ subst (λ (v : WorldEntry). v.count ≡ times v.ticket (with_one y.ticket bag)) (sym f)
          (let none : times y.ticket bag ≡ 0 = table.bagged y.ticket fresh in
          let more = times-with_one_same y.ticket bag in omega (arith, count, none, more))
    ];
    bagged = λ t none.
        times-with_one_other y.ticket t bag (none (length es) y (at_push_new es y))
        ∙ table.bagged t (λ k x a. none k x (at_push_old es y k x a));
    linked = λ j z a above. elim (at_push_cases es y j z a) [
      | inl old ↦ table.linked j z old above
      | inr (e, f) ↦ subst (λ (v : WorldEntry). is_linked v.place ≡ true) (sym f) linked
    ];
  }

  pub dead-push : (e : ℕ) → IsDead es e → IsDead (es ++ y ∷ []) e
  dead-push e d = (d.0, d.1, d.2, at_push_old es y d.0 d.1 d.3, d.4)

-- ---- what is seen

pub same_map : (m n : InternMap) → m.buckets ≡ n.buckets → ((text : List ℕ) → m.held text ≡ n.held text) → ((b : ℕ) → m.last b ≡ n.last b) → m ≡ n
same_map m n s h l = λ i. record { buckets = s i; held = λ text. h text i; last = λ b. l b i }

abbrev pub holding_of : WorldEntry → Holding
holding_of entry = record { ticket = entry.ticket; holders = entry.count }

abbrev pub is_living_of : List ℕ → WorldEntry → Bool
is_living_of text x = is_living x && bytes_eq x.text text

pub same_text : (x y : List ℕ) → bytes_eq x y ≡ true → x ≡ y
same_text x y = (bytes_eq-Decides x y).0

matched : (text : List ℕ) (x : WorldEntry) → is_living x ≡ true → x.text ≡ text → is_living_of text x ≡ true
matched text x l e = and_from (is_living x) (bytes_eq x.text text) l ((bytes_eq-Decides x.text text).1 e)

unmatched : (text : List ℕ) (x : WorldEntry) → x.text ≢ text → is_living_of text x ≡ false
unmatched text x n = and_right (is_living x) (bytes_eq x.text text) (false_from_ne_true (bytes_eq x.text text) (λ e. n (same_text x.text text e)))

module _ (es : List WorldEntry) (lasts bag : List ℕ) (table : SoundTable es lasts bag) where
  pub living_at-is : (k : ℕ) (x : WorldEntry) → At es k x → is_living x ≡ true → living_at es x.text ≡ Some (holding_of x)
  unfolding living_at
  living_at-is k x a living =
      ap (option_map (λ (entry : WorldEntry). holding_of entry))
      (find-is (is_living_of x.text) es k x a (matched x.text x living refl)
      (λ j z b h. let parts = and_parts (is_living z) (bytes_eq z.text x.text) h in
      table.one j k z x b a parts.0 living (same_text z.text x.text parts.1)))

  pub living_at-none : (text : List ℕ) → ((k : ℕ) (x : WorldEntry) → At es k x → is_living x ≡ true → x.text ≢ text) → living_at es text ≡ None
  unfolding living_at
  living_at-none text none =
      ap (option_map (λ (entry : WorldEntry). holding_of entry))
      (find-none (is_living_of text) es (λ j z b h. let parts = and_parts (is_living z) (bytes_eq z.text text) h in none j z b parts.0 (same_text z.text text parts.1)))

module _ (es : List WorldEntry) (lasts bag : List ℕ) (table : SoundTable es lasts bag) where
  none_left : (k : ℕ) (x y : WorldEntry) (bag' : List ℕ) → At es k x → is_living x ≡ true → Changes x y → SoundTable (slice_set es k y) lasts bag' → (text : List ℕ) → text ≡ y.text → is_living y ≡ false → living_at (slice_set es k y) text ≡ None
  none_left k x y bag' a living ch new text here dead =
      living_at-none (slice_set es k y) lasts bag' new text (λ j z b lz e.
      let old = was es k x y a ch j z b in
      let same : j ≡ k = table.one j k old.entry x old.at a (old.changes.living lz) living (sym old.changes.text ∙ e ∙ here ∙ ch.text) in
      let is : z ≡ y = at_one (slice_set es k y) k z y (subst (λ (i : ℕ). At (slice_set es k y) i z) same b) (at_set_same es k x y a) in
      let no_more : is_living z ≡ false = ap is_living is ∙ dead in
      let clash : true ≡ false = sym lz ∙ no_more in cc)

  pub living_at-changed : (k : ℕ) (x y : WorldEntry) (bag' : List ℕ) → At es k x → is_living x ≡ true → Changes x y → SoundTable (slice_set es k y) lasts bag'
      → (text : List ℕ) → living_at (slice_set es k y) text ≡ cond (bytes_eq x.text text) (cond (is_living y) (Some (holding_of y)) None) (living_at es text)
  unfolding living_at
  living_at-changed k x y bag' a living ch new text =
      if_case (λ o. living_at (slice_set es k y) text ≡ o) (bytes_eq x.text text) (cond (is_living y) (Some (holding_of y)) None) (living_at es text)
      (λ e.
      let here : text ≡ y.text = sym (same_text x.text text e) ∙ sym ch.text in
      if_case (λ o. living_at (slice_set es k y) text ≡ o) (is_living y) (Some (holding_of y)) None
      (λ l. ap (living_at (slice_set es k y)) here ∙ living_at-is (slice_set es k y) lasts bag' new k y (at_set_same es k x y a) l)
      (λ l. none_left k x y bag' a living ch new text here l))
      (λ e. ap (option_map (λ (entry : WorldEntry). holding_of entry))
      (let other : x.text ≢ text = λ p. absurd (let q : bytes_eq x.text text ≡ true = (bytes_eq-Decides x.text text).1 p in let r : false ≡ true = sym e ∙ q in cc) in
      find-set (is_living_of text) es k x y a (unmatched text x other) (unmatched text y (λ p. other (sym ch.text ∙ p)))))

  -- what changes while it is not living is not seen
  pub living_at-dead : (k : ℕ) (x y : WorldEntry) → At es k x → is_living x ≡ false → is_living y ≡ false → (text : List ℕ) → living_at (slice_set es k y) text ≡ living_at es text
  unfolding living_at
  living_at-dead k x y a dead dead' text =
      ap (option_map (λ (entry : WorldEntry). holding_of entry))
      (find-set (is_living_of text) es k x y a (and_left (is_living x) (bytes_eq x.text text) dead) (and_left (is_living y) (bytes_eq y.text text) dead'))

pub living_at-push_other : (es : List WorldEntry) (y : WorldEntry) (text : List ℕ) → y.text ≢ text → living_at (es ++ y ∷ []) text ≡ living_at es text
unfolding living_at
living_at-push_other es y text n =
    ap (option_map (λ (entry : WorldEntry). holding_of entry)) (find-push (is_living_of text) es y (unmatched text y n))
