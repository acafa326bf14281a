-- The eight bytes of an inline word.
use Rattle.std.proofs.Common.{◌≡◌, ℕ, zero, suc, ◌+◌, ◌-◌, ◌*◌, ◌/◌, ◌%◌, ◌^◌, ◌<◌, ◌≤◌, List, [], ◌∷◌, ◌++◌, length, take, drop, get_or, refl, sym, ap, ◌∙◌, arith, length-append, length-take, length-drop, subst}
use Rattle.std.proofs.Math.ListN.{replicate, length-replicate}
use Rattle.std.proofs.lemmas.List.{take-append-drop, take_all}
use Rattle.std.specs.Prelude.{true}
use Rattle.std.specs.Str.{IsUtf8}
use Rattle.std.proofs.Math.Seq.{take-append_seam, drop-append_seam}
use Rattle.std.specs.List.{list_all}
use Rattle.std.proofs.lemmas.Bool.{eqb-true}
use Rattle.std.proofs.Common.{eqb}
use Rattle.std.specs.Int.Bits.{bit_or}
use Rattle.std.proofs.lemmas.Nat.{le_or_l, le_or_r}
use Rattle.std.specs.Str.{IsAscii}
use Rattle.std.proofs.lemmas.Str.{IsAscii-drop, IsAscii-take, IsUtf8-from_ascii}
use Rattle.std.proofs.lemmas.Str.Ascii.{IsAscii-from_reads}
use Rattle.std.specs.Int.{w64, from_le_bytes, to_le_bytes}
use Rattle.std.proofs.lemmas.Nat.{from_le_bytes-to_le_bytes_8, le_bytes_8}
use Rattle.text_forms.specs.Word.{inline_word, IsInlineText, IsInlineWord}
use Rattle.text_forms.specs.InlineText.{word_bytes}
use Rattle.text_forms.proofs.words.BytesValue.{bytes_value-cons, bytes_value-append_zeros, from_le_bytes-bytes_value}
use Rattle.text_forms.proofs.words.TextBytes.{both, AllBytes, AllBytes-get_or, AllBytes-append, AllBytes-IsUtf8}

-- four bytes are at most their `|`
at_most : (a b c d all : ℕ) → all ≡ bit_or (bit_or (bit_or a b) c) d → (a ≤ all) × (b ≤ all) × (c ≤ all) × (d ≤ all)
at_most a b c d all is =
    let two = bit_or a b in
    let three = bit_or two c in
    let last : three ≤ bit_or three d = le_or_l three d in
    let behind : two ≤ three = le_or_l two c in
    (omega (arith, is, le_or_l a b, behind, last), omega (arith, is, le_or_r a b, behind, last), omega (arith, is, le_or_r two c, last), omega (arith, is, le_or_r three d))

-- eight bytes whose `|` is ASCII are
pub ascii-bytes : (bs : List ℕ) (low high : ℕ) → length bs ≡ 8 → low ≡ bit_or (bit_or (bit_or (get_or bs 0 0) (get_or bs 1 0)) (get_or bs 2 0)) (get_or bs 3 0)
    → high ≡ bit_or (bit_or (bit_or (get_or bs 4 0) (get_or bs 5 0)) (get_or bs 6 0)) (get_or bs 7 0) → bit_or low high < 128 → IsAscii bs
ascii-bytes bs low high size front back below = IsAscii-from_reads bs 8 (omega (arith, size)) reads
  where
    first : (get_or bs 0 0 ≤ low) × (get_or bs 1 0 ≤ low) × (get_or bs 2 0 ≤ low) × (get_or bs 3 0 ≤ low)
    first = at_most (get_or bs 0 0) (get_or bs 1 0) (get_or bs 2 0) (get_or bs 3 0) low front

    second : (get_or bs 4 0 ≤ high) × (get_or bs 5 0 ≤ high) × (get_or bs 6 0 ≤ high) × (get_or bs 7 0 ≤ high)
    second = at_most (get_or bs 4 0) (get_or bs 5 0) (get_or bs 6 0) (get_or bs 7 0) high back

    lower : low < 128
    lower = omega (arith, le_or_l low high, below)

    upper : high < 128
    upper = omega (arith, le_or_r low high, below)

    reads : (k : ℕ) → k < 8 → get_or bs k 0 < 128
    reads zero there = omega (arith, first.0, lower)
    reads (suc zero) there = omega (arith, first.1, lower)
    reads (suc (suc zero)) there = omega (arith, first.2, lower)
    reads (suc (suc (suc zero))) there = omega (arith, first.3, lower)
    reads (suc (suc (suc (suc zero)))) there = omega (arith, second.0, upper)
    reads (suc (suc (suc (suc (suc zero))))) there = omega (arith, second.1, upper)
    reads (suc (suc (suc (suc (suc (suc zero)))))) there = omega (arith, second.2, upper)
    reads (suc (suc (suc (suc (suc (suc (suc zero))))))) there = omega (arith, second.3, upper)
    reads (suc (suc (suc (suc (suc (suc (suc (suc k)))))))) there = absurd (omega (arith, there))

-- any bytes of ASCII behind the lowest are UTF-8
pub ascii-utf8 : (le : List ℕ) (n : ℕ) → IsAscii le → IsUtf8 (take n (drop 1 le))
ascii-utf8 le n ascii = IsUtf8-from_ascii (take n (drop 1 le)) (IsAscii-take (drop 1 le) n (IsAscii-drop le 1 ascii))

AllBytes-zeros : (n : ℕ) → AllBytes (replicate n 0)
AllBytes-zeros zero = tt
AllBytes-zeros (suc n) = (omega arith, AllBytes-zeros n)

-- the bytes that an `InlineText` holds spell the inline word of its text
pub spelt : (text : List ℕ) → length text ≤ 7 → from_le_bytes w64 (word_bytes text) ≡ inline_word text
spelt text short =
    let size : length (word_bytes text) ≡ 8 = simp (length-append, length-replicate) (omega (arith, short)) in
    from_le_bytes-bytes_value (word_bytes text) size ∙ bytes_value-cons (1 + 16 * length text) (text ++ replicate (7 - length text) 0)
    ∙ ap (λ n. 1 + 16 * length text + 256 * n) (bytes_value-append_zeros text (7 - length text))

-- the bytes of the inline word of a text
pub inline_bytes : (word : ℕ) (le text : List ℕ) → le ≡ to_le_bytes w64 word → IsInlineText text → inline_word text ≡ word → le ≡ word_bytes text
inline_bytes word le text is h same =
    let size : length (word_bytes text) ≡ 8 = simp (length-append, length-replicate) (omega (arith, h.1)) in
    let small = AllBytes-get_or (word_bytes text) (omega (arith, h.1), AllBytes-append text (replicate (7 - length text) 0) (AllBytes-IsUtf8 text h.0) (AllBytes-zeros (7 - length text))) in
    is ∙ le_bytes_8 (word_bytes text) word size small (sym (spelt text h.1 ∙ same))

pub inline_parts : (word : ℕ) (le text : List ℕ) → le ≡ to_le_bytes w64 word → IsInlineText text → inline_word text ≡ word
    → (get_or le 0 0 ≡ 1 + 16 * length text) × (drop 1 le ≡ text ++ replicate (7 - length text) 0)
inline_parts word le text is h same =
    let whole = inline_bytes word le text is h same in
    (ap (λ xs. get_or xs 0 0) whole, ap (drop 1) whole)

-- eight bytes are the lowest, and the others
parted : (le : List ℕ) → length le ≡ 8 → le ≡ get_or le 0 0 ∷ drop 1 le
parted [] size = absurd (omega arith)
parted (head ∷ rest) size = refl

-- of eight bytes, all but the lowest are seven
pub others : (le : List ℕ) → length le ≡ 8 → take 7 (drop 1 le) ≡ drop 1 le
others le size = take_all 7 (drop 1 le) (omega (arith, length-drop 1 le))

-- eight bytes with the tag 1, the length n and zeros behind n bytes are those of these n
pub held : (le : List ℕ) (n : ℕ) → length le ≡ 8 → get_or le 0 0 ≡ 1 + 16 * n → n ≤ 7 → drop n (drop 1 le) ≡ replicate (7 - n) 0 → le ≡ word_bytes (take n (drop 1 le))
held le n size head short zeros =
    let count : length (take n (drop 1 le)) ≡ n = length-take n (drop 1 le) ∙ omega (arith, length-drop 1 le) in
    let rest : drop 1 le ≡ take n (drop 1 le) ++ replicate (7 - n) 0 = sym (take-append-drop n (drop 1 le)) ∙ ap (λ xs. take n (drop 1 le) ++ xs) zeros in
    parted le size ∙ (λ i. head i ∷ rest i) ∙ ap (λ k. (1 + 16 * k) ∷ take n (drop 1 le) ++ replicate (7 - k) 0) (sym count)

-- and the word is the inline word of these n
pub unpacked : (word : ℕ) (le text : List ℕ) → word < 2 ^ 64 → le ≡ to_le_bytes w64 word → length text ≤ 7 → le ≡ word_bytes text → inline_word text ≡ word
unpacked word le text fits is short bytes = sym (spelt text short) ∙ ap (from_le_bytes w64) (sym bytes ∙ is) ∙ from_le_bytes-to_le_bytes_8 word fits

pub zeros-from_list_all : (xs : List ℕ) → list_all (λ x. eqb x 0) xs ≡ true → xs ≡ replicate (length xs) 0
zeros-from_list_all [] e = refl
zeros-from_list_all (x ∷ xs) e =
    let parts = both (eqb x 0) (list_all (λ y. eqb y 0) xs) e in
    let first : x ≡ 0 = eqb-true x 0 parts.0 in
    let rest = zeros-from_list_all xs parts.1 in
    λ i. first i ∷ rest i

pub list_all-zeros : (n : ℕ) → list_all (λ x. eqb x 0) (replicate n 0) ≡ true
list_all-zeros zero = refl
list_all-zeros (suc n) = list_all-zeros n

module _ (word : ℕ) (le : List ℕ) (is : le ≡ to_le_bytes w64 word) (inline : IsInlineWord word) where
  pub text-inline : take (get_or le 0 0 / 16) (drop 1 le) ≡ inline.0
  text-inline =
      let parts = inline_parts word le inline.0 is inline.1 inline.2 in
      let count : get_or le 0 0 / 16 ≡ length inline.0 = omega (arith, parts.0) in
      (λ i. take (count i) (parts.1 i)) ∙ take-append_seam inline.0 (replicate (7 - length inline.0) 0)

  pub zeros-inline : list_all (λ x. eqb x 0) (drop (get_or le 0 0 / 16) (drop 1 le)) ≡ true
  zeros-inline =
      let parts = inline_parts word le inline.0 is inline.1 inline.2 in
      let count : get_or le 0 0 / 16 ≡ length inline.0 = omega (arith, parts.0) in
      ap (list_all (λ x. eqb x 0)) ((λ i. drop (count i) (parts.1 i)) ∙ drop-append_seam inline.0 (replicate (7 - length inline.0) 0)) ∙ list_all-zeros (7 - length inline.0)

  pub utf8-inline : IsUtf8 (take (get_or le 0 0 / 16) (drop 1 le))
  utf8-inline = subst IsUtf8 (sym text-inline) inline.1.0

-- what a test for zeros behind n bytes says
pub zeros_behind : (bytes behind : List ℕ) (n : ℕ) → behind ≡ drop n bytes → length bytes ≡ 7 → list_all (λ x. eqb x 0) behind ≡ true → drop n bytes ≡ replicate (7 - n) 0
zeros_behind bytes behind n is size all =
    let count : length behind ≡ 7 - n = ap length is ∙ length-drop n bytes ∙ omega arith in
    sym is ∙ zeros-from_list_all behind all ∙ ap (λ k. replicate k 0) count

-- two texts with one word are one text
pub inline_word_same : (s t : List ℕ) → IsInlineText s → IsInlineText t → inline_word s ≡ inline_word t → s ≡ t
inline_word_same s t hs ht same =
    let le = to_le_bytes w64 (inline_word t) in
    let left = inline_parts (inline_word t) le s refl hs same in
    let right = inline_parts (inline_word t) le t refl ht refl in
    let count : length s ≡ length t = omega (arith, left.0, right.0) in
    sym (take-append_seam s (replicate (7 - length s) 0)) ∙ ap (take (length s)) (sym left.1 ∙ right.1) ∙ ap (λ n. take n (t ++ replicate (7 - length t) 0)) count
    ∙ take-append_seam t (replicate (7 - length t) 0)

-- no word has two of the three tags
pub inline_word_tag : (word : ℕ) → IsInlineWord word → word % 4 ≡ 1
inline_word_tag word inline = omega (arith, inline.2)
