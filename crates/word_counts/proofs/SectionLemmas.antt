-- A text in sections, as far as it is cut; what comes before a section; and sections with their numbers.
use Rattle.std.proofs.Common.{◌≡◌, ℕ, ◌+◌, ◌-◌, ◌<◌, ◌≤◌, List, [], ◌∷◌, ◌++◌, length, take, drop, get_or, Fits, w64, refl, sym, ap, ◌∙◌, arith, append_assoc, append-nil, drop_of_length-le, suc, zero}
use Rattle.std.proofs.Math.Seq.{drop-append_seam}
use Rattle.std.specs.List.{All}
use Rattle.std.proofs.lemmas.Grind.{common_steps, flat_map-append}
use Rattle.std.proofs.lemmas.List.{drop-take, flat_map_more, length-take, nil_from_length, take-append-drop, take_all}
use Rattle.std.proofs.lemmas.List.Concat.{length-flat_map}
use Rattle.std.proofs.lemmas.List.Elements.{All-cons, All-get_or, All-nil}
use Rattle.std.proofs.lemmas.List.Folds.{length-flat_map-take}
use Rattle.std.proofs.lemmas.List.Sums.{sum_by_more}
use denote.Ref.{Bor}
use Rattle.word_counts.specs.Parts.{AreSections, HaveRests, words_of_sections}
use Rattle.word_counts.specs.Words.{words}
use Rattle.word_counts.specs.declared.count.parts.Section.{Section}
use Rattle.word_counts.proofs.WordLemmas.{words_of_nothing}

-- the text from a section on has the words of this one, of those behind it, and of the rest
abbrev Before : List ℕ → List Section → Type 0
Before rest [] = Unit {0}
Before rest (s ∷ ss) = (words s.rest.now ≡ words_of_sections (s ∷ ss) ++ words rest) × Before rest ss

-- the sections so far, before the rest of the text
pub record Sectioned (text rest : List ℕ) (sections : List Section) : Type 0 where
  pub whole : words text ≡ words_of_sections sections ++ words rest
  pub rests : Before rest sections

pub sectioned_none : (text : List ℕ) → Sectioned text text []
sectioned_none text = record { whole = refl; rests = tt }

module _ {rest : List ℕ} (s : Section) (behind : List ℕ) (at : s.rest.now ≡ rest) (cut : words rest ≡ words s.own.now ++ words behind) where
  moved : (ss : List Section) → words_of_sections ss ++ words rest ≡ words_of_sections (ss ++ (s ∷ [])) ++ words behind
  moved ss =
      ap (λ l. words_of_sections ss ++ l) cut ∙ sym (append_assoc (words_of_sections ss) (words s.own.now) (words behind))
      ∙ ap (λ l. l ++ words behind) (flat_map_more (λ (section : Section). words section.own.now) [] ss s)

  all_moved : (ss : List Section) → Before rest ss → Before behind (ss ++ (s ∷ []))
  all_moved [] none = (ap words at ∙ moved [], tt)
  all_moved (x ∷ ss) (first, others) = (first ∙ moved (x ∷ ss), all_moved ss others)

  pub section_next : {text : List ℕ} {sections : List Section} → Sectioned text rest sections → Sectioned text behind (sections ++ (s ∷ []))
  section_next {text} {sections} p = record { whole = p.whole ∙ moved sections; rests = all_moved sections p.rests }

module _ (rest : List ℕ) (none : length rest ≡ 0) where
  ended : (ws : List (List ℕ)) → ws ++ words rest ≡ ws
  ended ws = ap (λ l. ws ++ words l) (nil_from_length rest none) ∙ ap (λ l. ws ++ l) words_of_nothing ∙ append-nil ws

  all_ended : (ss : List Section) → Before rest ss → HaveRests ss
  all_ended [] h = tt
  all_ended (s ∷ ss) (first, others) = (first ∙ ended (words_of_sections (s ∷ ss)), all_ended ss others)

  pub sections_whole : {text : List ℕ} {sections : List Section} → Sectioned text rest sections → words_of_sections sections ≡ words text
  sections_whole {text} {sections} p = sym (p.whole ∙ ended (words_of_sections sections))

  pub sections_rests : {text : List ℕ} {sections : List Section} → Sectioned text rest sections → HaveRests sections
  sections_rests {text} {sections} p = all_ended sections p.rests

-- ---- their numbers

-- a section with its number
abbrev pub IsCounted : Section → Section → Type 0
IsCounted old new = (new.own ≡ old.own) × (new.rest ≡ old.rest) × (new.words ≡ length (words old.own.now))

-- they have the words and the rests that they had, and their numbers
pub all_counted : (old new : List Section) → length new ≡ length old → ((i : ℕ) (d : Section) → i < length old → IsCounted (get_or old i d) (get_or new i d))
    → (words_of_sections new ≡ words_of_sections old) × (HaveRests old → HaveRests new) × All (λ section. section.words ≡ length (words section.own.now)) new
all_counted [] [] long each = (refl, λ h. h, All-nil (λ (section : Section). section.words ≡ length (words section.own.now)))
all_counted [] (t ∷ new) long each = absurd (omega (arith, long))
all_counted (s ∷ old) [] long each = absurd (omega (arith, long))
all_counted (s ∷ old) (t ∷ new) long each =
    let first = each 0 s (omega arith) in
    let others = all_counted old new (omega (arith, long)) (λ i d h. each (suc i) d (omega (arith, h))) in
    let same : words_of_sections (t ∷ new) ≡ words_of_sections (s ∷ old) = ap (λ (own : Bor (List ℕ)). words own.now ++ words_of_sections new) first.0 ∙ ap (λ l. words s.own.now ++ l) others.0 in (
      same,
      λ h. (ap (λ (rest : Bor (List ℕ)). words rest.now) first.1 ∙ h.0 ∙ sym same, others.1 h.1),
      All-cons (λ (section : Section). section.words ≡ length (words section.own.now)) t new (first.2 ∙ ap (λ (own : Bor (List ℕ)). length (words own.now)) (sym first.0)) others.2,
    )

-- a list whose elements were written where they stand
pub written_back : (old new : List Section) (n : ℕ) → length new ≡ length old → n ≡ length old → take n (new ++ drop (length new) old) ≡ new
written_back old new n long is =
    ap (λ l. take n (new ++ l)) (drop_of_length-le old (omega (arith, long))) ∙ ap (take n) (append-nil new) ∙ take_all n new (omega (arith, long, is))

-- ---- the words before a section

-- a section's rest has the words behind the sections before it
rest_at : (sections : List Section) → HaveRests sections → (i : ℕ) (d : Section) → i < length sections → (before : ℕ) → before ≡ length (words_of_sections (take i sections))
    → words (get_or sections i d).rest.now ≡ drop before (words_of_sections sections)
rest_at sections rests i d h before is =
    let front = words_of_sections (take i sections) in
    let back = words_of_sections (drop i sections) in
    let whole : words_of_sections sections ≡ front ++ back =
    ap words_of_sections (sym (take-append-drop i sections)) ∙ flat_map-append (λ (section : Section). words section.own.now) (take i sections) (drop i sections) in
    found sections rests i h ∙ sym (drop-append_seam front back) ∙ ap (λ l. drop (length front) l) (sym whole) ∙ ap (λ n. drop n (words_of_sections sections)) (sym is)
  where
    found : (ss : List Section) → HaveRests ss → (j : ℕ) → j < length ss → words (get_or ss j d).rest.now ≡ words_of_sections (drop j ss)
    found [] rests j h = absurd (omega (arith, h))
    found (s ∷ ss) rests zero h = rests.0
    found (s ∷ ss) rests (suc j) h = found ss rests.1 j (omega (arith, h))

module _ (sections : List Section) (are : AreSections sections) (i : ℕ) (d : Section) (within : i < length sections) (before : ℕ) (is : before ≡ length (words_of_sections (take i sections))) where
  number_at : (get_or sections i d).words ≡ length (words (get_or sections i d).own.now)
  number_at = All-get_or (λ (section : Section). section.words ≡ length (words section.own.now)) sections i d within are.numbers

  -- with this section's own it is those before the next
  pub before_next : before + (get_or sections i d).words ≡ length (words_of_sections (take (i + 1) sections))
  before_next =
      let own = λ (section : Section). words section.own.now in
      ap (λ n. before + n) number_at ∙ ap (λ n. n + length (own (get_or sections i d))) (is ∙ length-flat_map own (take i sections))
      ∙ sym (sum_by_more (λ (section : Section). length (own section)) sections i d within) ∙ sym (length-flat_map own (take (i + 1) sections))

  pub before_fits : Fits w64 (before + (get_or sections i d).words)
  before_fits = omega (arith, is, number_at, are.few, length-flat_map-take (λ (section : Section). words section.own.now) sections i d within)

  -- the words between two indices, told from this section on
  pub told_by : (from to : ℕ) → before ≤ from → from ≤ to → drop (from - before) (take (to - before) (words (get_or sections i d).rest.now)) ≡ drop from (take to (words_of_sections sections))
  told_by from to low high =
      let ws = words_of_sections sections in
      let begins : before + (from - before) ≡ from = omega (arith, low) in
      let ends : before + (to - before) ≡ to = omega (arith, low, high) in
      ap (λ l. drop (from - before) (take (to - before) l)) (rest_at sections are.rests i d within before is) ∙ ap (drop (from - before)) (sym (drop-take before (to - before) ws))
      ∙ ap (λ n. drop (from - before) (drop before (take n ws))) ends ∙ drop_twice before (from - before) (take to ws) ∙ ap (λ n. drop n (take to ws)) begins
    where
      drop_twice : {A : Type 0} (m n : ℕ) (xs : List A) → drop n (drop m xs) ≡ drop (m + n) xs
      drop_twice m n xs = grind (arith, common_steps)

pub before_all : (sections : List Section) (i : ℕ) → length sections ≤ i → (before : ℕ) → before ≡ length (words_of_sections (take i sections)) → before ≡ length (words_of_sections sections)
before_all sections i end before is = is ∙ ap (λ ss. length (words_of_sections ss)) (take_all i sections end)

-- no words are behind all
pub none_behind : (ws : List (List ℕ)) (from to : ℕ) → length ws ≤ from → [] ≡ drop from (take to ws)
none_behind ws from to past = sym (drop_of_length-le (take to ws) (omega (arith, past, length-take to ws)))
