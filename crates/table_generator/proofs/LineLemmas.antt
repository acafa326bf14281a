-- A line of a table text stands at the front of a text in one way.
use Rattle.std.proofs.Common.{◌≡◌, ◌≢◌, ℕ, ◌+◌, ◌^◌, ◌<◌, Bool, true, false, nat_lt, length-append, List, [], ◌∷◌, ◌++◌, length, get_or, sym, refl, ap, ◌∙◌, arith, codes, decimal, append_assoc}
use Rattle.std.specs.Prelude.{if◌then◌else◌}
use Rattle.std.proofs.lemmas.Bool.{false≢true, ltb-true}
use Rattle.std.proofs.lemmas.List.{get_or_default, get_or-append-add}
use Rattle.table_generator.specs.TableText.{key_line, disp_line, atom_line, hex_digits, HasNoFeed}
use Rattle.text_forms.proofs.Cuts.{Lacks, cut_before, lacks_append, lacks_cons}
use Rattle.table_generator.proofs.HexLemmas.{hex_count, hex_lacks}
use Rattle.text_forms.proofs.NumberLemmas.{decimal_byte}

-- ---- the words of a line, in front of its line feed

abbrev pub key_words : ℕ → List ℕ
key_words key = codes "key " ++ decimal key

abbrev pub disp_words : ℕ × ℕ → List ℕ
disp_words pair = codes "disp " ++ (decimal pair.0 ++ (codes " " ++ decimal pair.1))

abbrev pub atom_words : ℕ → List ℕ → List ℕ
atom_words hash text = codes "atom " ++ (hex_digits 16 hash ++ (codes " " ++ text))

pub key_flat : (key : ℕ) (rest : List ℕ) → key_line key ++ rest ≡ key_words key ++ (10 ∷ rest)
key_flat key rest = ap (λ v. codes "key " ++ v) (append_assoc (decimal key) (10 ∷ []) rest)

pub disp_flat : (pair : ℕ × ℕ) (rest : List ℕ) → disp_line pair ++ rest ≡ disp_words pair ++ (10 ∷ rest)
disp_flat pair rest = simp append_assoc

pub atom_flat : (hash : ℕ) (text rest : List ℕ) → atom_line hash text ++ rest ≡ atom_words hash text ++ (10 ∷ rest)
atom_flat hash text rest = simp append_assoc

-- ---- they have no line feed

pub decimal_lacks : (byte n : ℕ) → byte < 48 → n < 2 ^ 64 → Lacks byte (decimal n)
decimal_lacks byte n low small i h same = absurd (omega (arith, low, (decimal_byte n small i h).0, same))

-- every byte is above a line feed
above_feed : List ℕ → Bool
above_feed [] = true
above_feed (b ∷ bs) = if nat_lt 10 b then above_feed bs else false

front_lacks : (words bs : List ℕ) → above_feed words ≡ true → Lacks 10 bs → Lacks 10 (words ++ bs)
unfolding above_feed
front_lacks [] bs high rest = rest
front_lacks (w ∷ words) bs high rest = go (nat_lt 10 w) refl high (λ above. front_lacks words bs above rest)
  where
    go : (b : Bool) → nat_lt 10 w ≡ b → (if b then above_feed words else false) ≡ true → (above_feed words ≡ true → Lacks 10 (words ++ bs)) → Lacks 10 (w ∷ (words ++ bs))
    go true low high more = lacks_cons 10 w (words ++ bs) (λ same. absurd (omega (arith, ltb-true 10 w low, same))) (more high)
    go false low high more = absurd (false≢true high)

other : (a b : ℕ) → b < a → a ≢ b
other a b low same = absurd (omega (arith, low, same))

pub key_lacks : (key : ℕ) → key < 2 ^ 64 → Lacks 10 (key_words key)
unfolding above_feed
key_lacks key small =
    front_lacks (codes "key ") (decimal key) refl (decimal_lacks 10 key (omega arith) small)

-- two numbers one space apart
numbers_lack : (pair : ℕ × ℕ) → pair.0 < 2 ^ 32 → pair.1 < 2 ^ 32 → Lacks 10 (decimal pair.0 ++ (codes " " ++ decimal pair.1))
numbers_lack pair p q =
    lacks_append 10 (decimal pair.0) (codes " " ++ decimal pair.1) (decimal_lacks 10 pair.0 (omega arith) (omega (arith, p)))
    (lacks_cons 10 32 (decimal pair.1) (other 32 10 (omega arith)) (decimal_lacks 10 pair.1 (omega arith) (omega (arith, q))))

pub disp_lacks : (pair : ℕ × ℕ) → pair.0 < 2 ^ 32 → pair.1 < 2 ^ 32 → Lacks 10 (disp_words pair)
unfolding above_feed
disp_lacks pair p q = front_lacks (codes "disp ") (decimal pair.0 ++ (codes " " ++ decimal pair.1)) refl (numbers_lack pair p q)

pub no_feed_lacks : (text : List ℕ) → HasNoFeed text → Lacks 10 text
no_feed_lacks text none i h = none i 0 h

pub lacks_no_feed : (text : List ℕ) → Lacks 10 text → HasNoFeed text
lacks_no_feed text none i d h same = none i h (get_or_default text i 0 d h ∙ same)

pub atom_lacks : (hash : ℕ) (text : List ℕ) → HasNoFeed text → Lacks 10 (atom_words hash text)
unfolding above_feed
atom_lacks hash text none =
    front_lacks (codes "atom ") (hex_digits 16 hash ++ (codes " " ++ text)) refl
    (lacks_append 10 (hex_digits 16 hash) (codes " " ++ text) (hex_lacks 10 16 hash (omega arith)) (lacks_cons 10 32 text (other 32 10 (omega arith)) (no_feed_lacks text none)))

-- the text behind the hash has no line feed, where the line has none
pub text_lacks : (line text : List ℕ) (hash : ℕ) → Lacks 10 line → line ≡ atom_words hash text → HasNoFeed text
text_lacks line text hash none is = lacks_no_feed text (λ i h same. none (k i) (omega (arith, ap length is, count, h)) (ap (λ v. get_or v (k i) 0) is ∙ at i ∙ same))
  where
    digits : List ℕ
    digits = hex_digits 16 hash ++ (32 ∷ [])

    k : ℕ → ℕ
    k i = 22 + i

    flat : atom_words hash text ≡ (codes "atom " ++ digits) ++ text
    flat = simp append_assoc

    front : length (codes "atom " ++ digits) ≡ 22
    front = omega (arith, length-append (hex_digits 16 hash) (32 ∷ []), hex_count 16 hash)

    count : length (atom_words hash text) ≡ 22 + length text
    count = ap length flat ∙ length-append (codes "atom " ++ digits) text ∙ ap (λ m. m + length text) front

    at : (i : ℕ) → get_or (atom_words hash text) (k i) 0 ≡ get_or text i 0
    at i = ap (λ v. get_or v (k i) 0) flat ∙ ap (λ m. get_or ((codes "atom " ++ digits) ++ text) (m + i) 0) (sym front) ∙ get_or-append-add (codes "atom " ++ digits) text i 0

-- ---- the words of a line, where a text is cut at its first line feed

pub words_are : (text line rest words more : List ℕ) → Lacks 10 line → text ≡ line ++ (10 ∷ rest) → Lacks 10 words → text ≡ words ++ (10 ∷ more) → (line ≡ words) × (rest ≡ more)
words_are text line rest words more p d q e = cut_before 10 text line rest words more p q d e
