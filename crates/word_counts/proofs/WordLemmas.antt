-- The words of a text come off its front, one by one.
use Rattle.std.proofs.Common.{◌≡◌, ℕ, ◌<◌, ◌≤◌, Bool, true, false, not, List, [], ◌∷◌, ◌++◌, length, sym, refl, ap, ◌∙◌, subst, append_assoc, append-nil, length-append, arith, map, cond, suc, take, drop, filter}
use Rattle.std.proofs.Math.Seq.{drop-cons}
use Rattle.std.specs.Prelude.{encode_utf8_all, encode_utf8, slice_index}
use Rattle.std.specs.Str.{NonePass, NoCharPasses, EmptyOrStartsWithPassing, IsUtf8, chars}
use Rattle.std.specs.Char.{is_whitespace, is_not_whitespace}
use Rattle.std.proofs.lemmas.Str.{cons_from_encodes, encode_same, encodes_same, length-encode, len_utf8_bounds, chars-append, chars_past_char, encodes-chars, length-le-encodes, chars_from_encodes, encode_ascii, IsCharBoundary-before_ascii, IsUtf8-take, IsUtf8-drop}
use Rattle.std.proofs.lemmas.List.{take-append-drop, map-append, length-map}
use Rattle.std.proofs.lemmas.List.Elements.{filter-append}
use Rattle.word_counts.specs.Words.{cons_first, parts, has_chars, char_words, words}

-- white space in front changes no word
pub words_past_gap : (gap cs : List ℕ) → NonePass is_not_whitespace gap → char_words (gap ++ cs) ≡ char_words cs
words_past_gap [] cs h = refl
words_past_gap (c ∷ gap) cs h = let white : is_whitespace c ≡ true = not_false (is_whitespace c) h.0 in rw white (words_past_gap gap cs h.1)
  where
    not_false : (b : Bool) → not b ≡ false → b ≡ true
    not_false true e = refl
    not_false false e = sym e

-- the characters w in front of the first part
abbrev pub onto_first : List ℕ → List (List ℕ) → List (List ℕ)
onto_first w [] = w ∷ []
onto_first w (part ∷ parts) = (w ++ part) ∷ parts

cons_onto_first : (c : ℕ) (w : List ℕ) (ps : List (List ℕ)) → cons_first c (onto_first w ps) ≡ onto_first (c ∷ w) ps
cons_onto_first c w [] = refl
cons_onto_first c w (p ∷ ps) = refl

-- characters that aren't white space stand in the first part
parts_past_word : (w cs : List ℕ) (ps : List (List ℕ)) → NonePass is_whitespace w → parts cs ≡ [] ∷ ps → parts (w ++ cs) ≡ onto_first w ([] ∷ ps)
parts_past_word [] cs ps h e = e
parts_past_word (c ∷ w) cs ps h e = rw (h.0) (ap (cons_first c) (parts_past_word w cs ps h.1 e) ∙ cons_onto_first c w ([] ∷ ps))

-- a word comes off the front, before white space or the end
word_comes : (w cs : List ℕ) (ps : List (List ℕ)) → NonePass is_whitespace w → 0 < length w → parts cs ≡ [] ∷ ps → char_words (w ++ cs) ≡ w ∷ char_words cs
word_comes [] cs ps h some e = let no : ⊥ = omega (arith, some) in absurd no
word_comes (c ∷ w) cs ps h some e =
    rw (parts_past_word (c ∷ w) cs ps h e, e, append-nil w) refl

-- gs comes off the front of the characters
pub strip_chars : (gs ds bs : List ℕ) → encode_utf8_all ds ≡ encode_utf8_all gs ++ bs → (es : List ℕ) × (ds ≡ gs ++ es) × (encode_utf8_all es ≡ bs)
strip_chars [] ds bs e = (ds, refl, e)
strip_chars (g ∷ gs) ds bs e =
    let first = cons_from_encodes ds (encode_utf8_all gs ++ bs) g (e ∙ append_assoc (encode_utf8 g) (encode_utf8_all gs) bs) in
    let more = strip_chars gs first.0 bs first.2 in
    (more.0, first.1 ∙ ap (λ v. g ∷ v) more.1, more.2)

-- the characters es, unless they are none, begin with white space, so their first part is empty
first_part_empty : (es bs more : List ℕ) → encode_utf8_all es ≡ bs → EmptyOrStartsWithPassing is_whitespace bs more → (ps : List (List ℕ)) × (parts es ≡ [] ∷ ps)
first_part_empty [] bs more e h = ([], refl)
first_part_empty (c ∷ cs) bs more e h =
    let some : 0 < length (encode_utf8 c ++ encode_utf8_all cs) = omega (arith, length-append (encode_utf8 c) (encode_utf8_all cs), length-encode c, (len_utf8_bounds c).0) in
    let begins = h (subst (λ v. 0 < length v) e some) in
    let same = encode_same c begins.0 (encode_utf8_all cs) more (e ∙ begins.2) in
    let white : is_whitespace c ≡ true = ap is_whitespace same.0 ∙ begins.1 in
    (parts cs, rw white refl)

some_chars : (ws : List ℕ) → 0 < length (encode_utf8_all ws) → 0 < length ws
some_chars [] h = h
some_chars (w ∷ ws) h = omega arith

-- The bytes bs of the characters ds are a gap, the word w and rest, so the words of bs are w and those of rest.
pub record WordComes (ds bs w rest : List ℕ) : Type 0 where
  pub left : List ℕ
  pub spells : encode_utf8_all left ≡ rest
  pub shorter : length rest < length bs
  pub first : map encode_utf8_all (char_words ds) ≡ w ∷ map encode_utf8_all (char_words left)

pub word_comes_off : (ds bs w rest : List ℕ) → encode_utf8_all ds ≡ bs
    → (gap : List ℕ) × (bs ≡ gap ++ (w ++ rest)) × (0 < length w) × NoCharPasses is_not_whitespace gap × NoCharPasses is_whitespace w × ((more : List ℕ) × EmptyOrStartsWithPassing is_whitespace rest more)
    → WordComes ds bs w rest
word_comes_off ds bs w rest e item =
    let gs = item.3.0 in
    let ws = item.4.0 in
    let one = strip_chars gs ds (w ++ rest) (e ∙ item.1 ∙ ap (λ v. v ++ (w ++ rest)) (sym item.3.1)) in
    let two = strip_chars ws one.0 rest (one.2 ∙ ap (λ v. v ++ rest) (sym item.4.1)) in
    let empty = first_part_empty two.0 rest item.5.0 two.2 item.5.1 in
    let some = some_chars ws (subst (λ v. 0 < length v) (sym item.4.1) item.2) in
    let split : char_words ds ≡ ws ∷ char_words two.0 = ap char_words one.1 ∙ words_past_gap gs one.0 item.3.2 ∙ ap char_words two.1 ∙ word_comes ws two.0 empty.0 item.4.2 some empty.1 in
    record {
      left = two.0;
      spells = two.2;
      shorter = omega (arith, ap length item.1, length-append item.0 (w ++ rest), length-append w rest, item.2);
      first = ap (map encode_utf8_all) split ∙ ap (λ v. v ∷ map encode_utf8_all (char_words two.0)) item.4.1;
    }

-- white space alone has no words
pub no_words : (ds bs : List ℕ) → encode_utf8_all ds ≡ bs → NoCharPasses is_not_whitespace bs → char_words ds ≡ []
no_words ds bs e h = ap char_words (encodes_same ds h.0 (e ∙ sym h.1) ∙ sym (append-nil h.0)) ∙ words_past_gap h.0 [] h.2

-- ---- a text cut before white space

some_parts : (cs : List ℕ) → (p : List ℕ) × ((ps : List (List ℕ)) × (parts cs ≡ p ∷ ps))
some_parts [] = ([], ([], refl))
some_parts (c ∷ cs) =
    let rest = some_parts cs in
    elim (is_whitespace c) as (λ b. (p : List ℕ) × ((ps : List (List ℕ)) × (cond b ([] ∷ parts cs) (cons_first c (parts cs)) ≡ p ∷ ps))) [
      | true ↦ ([], (parts cs, refl))
      | false ↦ (c ∷ rest.0, (rest.1.0, ap (cons_first c) rest.1.1))
    ]

cons_first_joined : (c : ℕ) (p : List ℕ) (ps all more : List (List ℕ)) → all ≡ p ∷ ps → cons_first c (all ++ more) ≡ cons_first c all ++ more
cons_first_joined c p ps all more is = ap (λ l. cons_first c (l ++ more)) is ∙ sym (ap (λ l. cons_first c l ++ more) is)

parts_joined : (c : ℕ) (bs cs : List ℕ) → is_whitespace c ≡ true → parts (bs ++ (c ∷ cs)) ≡ parts bs ++ parts cs
parts_joined c [] cs white = ap (λ b. cond b ([] ∷ parts cs) (cons_first c (parts cs))) white
parts_joined c (b ∷ bs) cs white =
    let rest = parts_joined c bs cs white in
    let some = some_parts bs in
    elim (is_whitespace b) as (λ v. cond v ([] ∷ parts (bs ++ (c ∷ cs))) (cons_first b (parts (bs ++ (c ∷ cs)))) ≡ cond v ([] ∷ parts bs) (cons_first b (parts bs)) ++ parts cs) [
      | true ↦ ap (λ l. [] ∷ l) rest
      | false ↦ ap (cons_first b) rest ∙ cons_first_joined b some.0 some.1.0 (parts bs) (parts cs) some.1.1
    ]

char_words_joined : (c : ℕ) (bs cs : List ℕ) → is_whitespace c ≡ true → char_words (bs ++ (c ∷ cs)) ≡ char_words bs ++ char_words (c ∷ cs)
char_words_joined c bs cs white =
    ap (filter has_chars) (parts_joined c bs cs white) ∙ filter-append has_chars (parts bs) (parts cs)
    ∙ ap (λ l. char_words bs ++ l) (sym (ap (filter has_chars) (parts_joined c [] cs white)))

-- the words of both parts are those of the text
pub words_joined : (text : List ℕ) (i : ℕ) → IsUtf8 text → i < length text → slice_index text i < 128 → is_whitespace (slice_index text i) ≡ true
    → words text ≡ words (take i text) ++ words (drop i text)
words_joined text i utf8 within ascii white =
    let seam = IsCharBoundary-before_ascii text i within ascii in
    let front = IsUtf8-take text i utf8 seam in
    let back = IsUtf8-drop text i utf8 seam in
    let c = slice_index text i in
    let first : chars (drop i text) ≡ c ∷ chars (drop (suc i) text) =
    chars_past_char (drop i text) (drop (suc i) text) c back (drop-cons text i 0 within ∙ ap (λ e. e ++ drop (suc i) text) (sym (encode_ascii c ascii))) in
    ap (λ t. map encode_utf8_all (char_words (chars t))) (sym (take-append-drop i text))
    ∙ ap (λ t. map encode_utf8_all (char_words t)) (chars-append (take i text) (drop i text) front)
    ∙ ap (λ t. map encode_utf8_all (char_words (chars (take i text) ++ t))) first
    ∙ ap (map encode_utf8_all) (char_words_joined c (chars (take i text)) (chars (drop (suc i) text)) white)
    ∙ map-append encode_utf8_all (char_words (chars (take i text))) (char_words (c ∷ chars (drop (suc i) text)))
    ∙ ap (λ t. words (take i text) ++ map encode_utf8_all (char_words t)) (sym first)

-- nothing has no words
pub words_of_nothing : words [] ≡ []
words_of_nothing = ap (λ cs. map encode_utf8_all (char_words cs)) (sym (chars_from_encodes [] [] ([], (refl, refl)) refl))

-- ---- no more words than bytes

some_follow : (p : List ℕ) (ps : List (List ℕ)) → length (filter has_chars ps) ≤ length (filter has_chars (p ∷ ps))
some_follow [] ps = omega arith
some_follow (c ∷ p) ps = omega arith

few_words : (cs : List ℕ) → length (char_words cs) ≤ length cs
few_words [] = omega arith
few_words (c ∷ cs) =
    let rest = few_words cs in
    let some = some_parts cs in
    elim (is_whitespace c) as (λ b. length (filter has_chars (cond b ([] ∷ parts cs) (cons_first c (parts cs)))) ≤ suc (length cs)) [
      | true ↦ omega (arith, rest)
      | false ↦ subst (λ ps. length (filter has_chars (cons_first c ps)) ≤ suc (length cs)) (sym some.1.1)
          (omega (arith, some_follow some.0 some.1.0, subst (λ ps. length (filter has_chars ps) ≤ length cs) some.1.1 rest))
    ]

pub length-words-le : (text : List ℕ) → IsUtf8 text → length (words text) ≤ length text
length-words-le text utf8 =
    omega (arith, length-map (char_words (chars text)) encode_utf8_all, few_words (chars text), length-le-encodes (chars text), ap length (encodes-chars text utf8))
