-- How far the loop over the words has come.
use Rattle.std.proofs.Common.{◌≡◌, ℕ, ◌+◌, ◌≤◌, cond, List, [], ◌∷◌, ◌++◌, length, Option, sym, refl, ap, ◌∙◌, arith, map}
use Rattle.std.specs.Prelude.{encode_utf8_all}
use Rattle.std.specs.HashMap.{HashMap}
use Rattle.std.specs.Str.{bytes_eq, NoCharPasses, chars, IsUtf8}
use Rattle.std.specs.Char.{is_not_whitespace}
use Rattle.std.specs.Io.KnownBytes.{Appends}
use Rattle.std.proofs.lemmas.Str.{encodes-chars}
use Rattle.std.proofs.lemmas.List.{length_push}
use Rattle.std.proofs.lemmas.List.Sums.{sum_by_push}
use denote.Ref.{Bor}
use Rattle.commands.specs.TimesSeen.{count_of, CountsOneMore}
use Rattle.text_streams.specs.Streams.{AppendsBeginning, Moves}
use Rattle.word_counts.specs.Words.{char_words, times_seen}
use Rattle.commands.specs.WordLines.{seen_line, lines_after, word_lines}
use Rattle.text_streams.proofs.StreamLemmas.{appends_nothing, keeps_same}
use Rattle.word_counts.proofs.WordLemmas.{WordComes, no_words}
use Rattle.commands.proofs.WrittenLines.{Written, all_written, line_pends, lines_begun, moved}

-- the lines of the words `seen` are written or pending, and the words of rest are to come
pub record Progress {S : Type 0} (old new : Option (List ℕ)) (text rest pending : List ℕ) (counts : HashMap (Bor (List ℕ)) ℕ S) : Type 0 where
  pub seen : List (List ℕ)
  pub left : List ℕ
  pub spells : encode_utf8_all left ≡ rest
  pub counted : (word : List ℕ) → count_of counts word ≡ times_seen seen word
  pub few : length seen + length rest ≤ length text
  pub lines : Written old new (word_lines text) pending (lines_after seen (map encode_utf8_all (char_words left)))

module _ {S : Type 0} {old new : Option (List ℕ)} {text rest pending : List ℕ} {counts : HashMap (Bor (List ℕ)) ℕ S} (p : Progress old new text rest pending counts) where
  -- one more word, whose line is pending
  pub next_word : {w rest' pending' : List ℕ} {counts' : HashMap (Bor (List ℕ)) ℕ S} → WordComes p.left rest w rest' → CountsOneMore counts counts' w
      → pending' ≡ pending ++ seen_line w (count_of counts w) → Progress old new text rest' pending' counts'
  next_word {w} {rest'} {pending'} {counts'} comes counted line = record {
    seen = p.seen ++ (w ∷ []);
    left = comes.left;
    spells = comes.spells;
    counted = λ v. counted v ∙ ap (λ k. k + cond (bytes_eq v w) 1 0) (p.counted v) ∙ sym (sum_by_push _ p.seen w);
    few = omega (arith, length_push p.seen w, p.few, comes.shorter);
    lines =
        line_pends p.lines (seen_line w (times_seen p.seen w)) (lines_after (p.seen ++ (w ∷ [])) (map encode_utf8_all (char_words comes.left))) pending'
        (ap (lines_after p.seen) comes.first) (line ∙ ap (λ k. pending ++ seen_line w k) (p.counted w));
  }

  -- a beginning of what is pending is written
  pub flushed : {new' : Option (List ℕ)} {left : List ℕ} → Moves new new' pending left → Progress old new' text rest left counts
  flushed m = record { seen = p.seen; left = p.left; spells = p.spells; counted = p.counted; few = p.few; lines = moved p.lines m }

  -- what was written is a beginning, also with a beginning of what is pending
  pub begun : (new' : Option (List ℕ)) → AppendsBeginning new new' pending → AppendsBeginning old new' (word_lines text)
  begun new' more = lines_begun p.lines new' more

  -- where no word is left, what is pending is the last of them
  pub finished : (new' : Option (List ℕ)) → NoCharPasses is_not_whitespace rest → Appends new new' pending → Appends old new' (word_lines text)
  finished new' blank more = all_written p.lines new' (ap (λ ws. lines_after p.seen (map encode_utf8_all ws)) (no_words p.left rest p.spells blank)) more

-- nothing is read yet
pub progress_begins : {S : Type 0} (old : Option (List ℕ)) (text : List ℕ) (counts : HashMap (Bor (List ℕ)) ℕ S) → IsUtf8 text → ((word : List ℕ) → count_of counts word ≡ 0) → Progress old old text text [] counts
progress_begins old text counts utf8 none = record {
  seen = [];
  left = chars text;
  spells = encodes-chars text utf8;
  counted = none;
  few = omega arith;
  lines = record { written = []; appended = appends_nothing old old (keeps_same old); whole = refl };
}
