-- How far the cutting of a text into words has come.
use Rattle.std.proofs.Common.{◌≡◌, List, [], ◌∷◌, ◌++◌, ℕ, refl, sym, ap, ◌∙◌, map, length, arith, append_assoc, append-nil}
use Rattle.std.specs.Prelude.{encode_utf8_all}
use Rattle.std.specs.Char.{is_not_whitespace}
use Rattle.std.specs.Iterator.{Yields}
use Rattle.std.specs.Str.{chars, IsUtf8, NoCharPasses}
use Rattle.std.specs.declared.str.SplitWhitespace.{SplitWhitespace}
use Rattle.std.specs.Str.Iter.{split_whitespace_rest, split_whitespace_steps}
use Rattle.std.proofs.lemmas.Str.{encodes-chars}
use denote.Ref.{Bor}
use Rattle.word_counts.specs.Words.{char_words, words}
use Rattle.word_counts.proofs.WordLemmas.{WordComes, no_words, word_comes_off}

-- these words are done, and the rest of the text holds the others
pub record Cutting (text rest : List ℕ) (done : List (List ℕ)) : Type 0 where
  pub left : List ℕ
  pub spells : encode_utf8_all left ≡ rest
  pub whole : words text ≡ done ++ map encode_utf8_all (char_words left)

pub cutting_begins : (text : List ℕ) → IsUtf8 text → Cutting text text []
cutting_begins text utf8 = record { left = chars text; spells = encodes-chars text utf8; whole = refl }

module _ {text rest : List ℕ} {done : List (List ℕ)} (p : Cutting text rest done) where
  pub cut_next : {w rest' : List ℕ} → WordComes p.left rest w rest' → Cutting text rest' (done ++ (w ∷ []))
  cut_next {w} {rest'} comes = record {
    left = comes.left;
    spells = comes.spells;
    whole = p.whole ∙ ap (λ v. done ++ v) comes.first ∙ sym (append_assoc done (w ∷ []) (map encode_utf8_all (char_words comes.left)));
  }

  pub cut_ends : NoCharPasses is_not_whitespace rest → done ≡ words text
  cut_ends blank = sym (p.whole ∙ ap (λ v. done ++ map encode_utf8_all v) (no_words p.left rest p.spells blank) ∙ append-nil done)

-- ---- counting them

-- the words that come off the front one by one are as many as the text has
pub words_number : (ws : List (Bor (List ℕ))) (s t : SplitWhitespace) (left : List ℕ) → encode_utf8_all left ≡ split_whitespace_rest s → Yields split_whitespace_steps s ws t
    → NoCharPasses is_not_whitespace (split_whitespace_rest t) → length ws ≡ length (map encode_utf8_all (char_words left))
words_number [] s t left spells same blank = sym (ap (λ v. length (map encode_utf8_all v)) (no_words left (split_whitespace_rest t) (spells ∙ ap split_whitespace_rest same) blank))
words_number (w ∷ ws) s t left spells yields blank =
    let comes = word_comes_off left (split_whitespace_rest s) w.now (split_whitespace_rest yields.0) spells yields.1 in
    omega (arith, ap length comes.first, words_number ws yields.0 t comes.left comes.spells yields.2 blank)
