-- How far a worker has come in its part of a text's words, and the pieces that are all of them.
use Rattle.std.proofs.Common.{◌≡◌, ℕ, ◌+◌, ◌-◌, ◌*◌, ◌/◌, ◌<◌, ◌≤◌, cond, List, [], ◌∷◌, ◌++◌, length, take, drop, refl, sym, ap, ◌∙◌, subst, arith, append-nil, length-append, length-drop, drop_of_length-le, ⊎_elim}
use Rattle.std.specs.Str.{bytes_eq, IsUtf8, NoCharPasses}
use Rattle.std.specs.Char.{is_not_whitespace}
use Rattle.std.proofs.lemmas.List.{drop-append-le, drop-take, flat_map_more, take-append-le, take_all}
use Rattle.std.proofs.lemmas.List.Sums.{sum_by_push, count_by-le-length}
use Rattle.std.proofs.lemmas.Bool.{cases_lt}
use Rattle.std.proofs.lemmas.Nat.{le-div}
use Rattle.std.proofs.Math.Nat.{div-mul-le_self, mul-div_cancel_left, zero-div}
use Rattle.std.proofs.Math.Seq.{take-append_seam, take-add}
use Rattle.std.specs.Prelude.{encode_utf8_all, map}
use Rattle.word_counts.specs.MergedCounts.{AreCountsOf}
use Rattle.word_counts.specs.Parts.{words_of_part, words_of_parts}
use Rattle.word_counts.specs.WordCounts.{word_counts}
use Rattle.word_counts.specs.Words.{char_words, times_seen, words}
use Rattle.word_counts.specs.declared.count.parts.Part.{Part}
use Rattle.word_counts.proofs.CutWords.{Cutting, cutting_begins, cut_next, cut_ends}
use Rattle.word_counts.proofs.WordLemmas.{WordComes}

-- `index` words were passed, and those from index `from` on were seen
pub record Reached (text rest : List ℕ) (from to index : ℕ) (seen : List ℕ → ℕ) : Type 0 where
  pub done : List (List ℕ)
  pub cutting : Cutting text rest done
  pub place : index ≡ length done
  pub within : index ≤ to
  pub numbers : (q : List ℕ) → seen q ≡ times_seen (drop from done) q

pub reached_none : (text rest : List ℕ) (from to : ℕ) (seen : List ℕ → ℕ) → IsUtf8 text → rest ≡ text → ((q : List ℕ) → seen q ≡ times_seen [] q) → Reached text rest from to 0 seen
reached_none text rest from to seen utf8 is none = record {
  done = [];
  cutting = subst (λ r. Cutting text r []) (sym is) (cutting_begins text utf8);
  place = refl;
  within = omega arith;
  numbers = λ q. none q ∙ ap (λ l. times_seen l q) (sym (drop_of_length-le [] (omega arith)));
}

module _ {text rest : List ℕ} {from to index : ℕ} {seen : List ℕ → ℕ} (p : Reached text rest from to index seen) where
  -- the next word is before the part
  pub reached_before : {w rest' : List ℕ} → index < to → index < from → WordComes p.cutting.left rest w rest' → Reached text rest' from to (index + 1) seen
  reached_before {w} {rest'} below before comes = record {
    done = p.done ++ (w ∷ []);
    cutting = cut_next p.cutting comes;
    place = omega (arith, p.place, length-append p.done (w ∷ []));
    within = omega (arith, below);
    numbers = λ q. p.numbers q ∙ ap (λ l. times_seen l q) (drop_of_length-le p.done (omega (arith, p.place, before)))
        ∙ ap (λ l. times_seen l q) (sym (drop_of_length-le (p.done ++ (w ∷ [])) (omega (arith, p.place, before, length-append p.done (w ∷ [])))));
  }

  -- the next word is in the part, and is seen
  pub reached_within : {w rest' : List ℕ} {seen' : List ℕ → ℕ} → index < to → from ≤ index → WordComes p.cutting.left rest w rest' → ((q : List ℕ) → seen' q ≡ seen q + cond (bytes_eq q w) 1 0)
      → Reached text rest' from to (index + 1) seen'
  reached_within {w} {rest'} {seen'} below at comes sees = record {
    done = p.done ++ (w ∷ []);
    cutting = cut_next p.cutting comes;
    place = omega (arith, p.place, length-append p.done (w ∷ []));
    within = omega (arith, below);
    numbers = λ q. sees q ∙ ap (λ n. n + cond (bytes_eq q w) 1 0) (p.numbers q)
        ∙ sym (sum_by_push (λ (x : List ℕ). cond (bytes_eq q x) 1 0) (drop from p.done) w)
        ∙ ap (λ l. times_seen l q) (sym (drop-append-le from p.done (w ∷ []) (omega (arith, p.place, at))));
  }

  -- no word was seen more often than words were passed
  pub seen_fits : (q : List ℕ) → seen q ≤ index
  seen_fits q = omega (arith, p.place, p.numbers q, count_by-le-length (bytes_eq q) (drop from p.done), length-drop from p.done)

  -- the part ends
  pub reached_to : to ≤ index → (q : List ℕ) → seen q ≡ times_seen (drop from (take to (words text))) q
  reached_to end q =
      let at : length p.done ≡ to = omega (arith, p.place, p.within, end) in
      let front : take to (words text) ≡ p.done =
      ap (λ n. take n (words text)) (sym at) ∙ ap (take (length p.done)) p.cutting.whole ∙ take-append_seam p.done (map encode_utf8_all (char_words p.cutting.left)) in
      p.numbers q ∙ ap (λ l. times_seen (drop from l) q) (sym front)

  -- or the text does
  pub reached_all : NoCharPasses is_not_whitespace rest → (q : List ℕ) → seen q ≡ times_seen (drop from (take to (words text))) q
  reached_all blank q =
      let whole : p.done ≡ words text = cut_ends p.cutting blank in
      p.numbers q ∙ ap (λ l. times_seen (drop from l) q) (whole ∙ sym (take_all to (words text) (omega (arith, p.place, p.within, ap length whole))))

-- ---- the pieces

-- a piece begins where it ends, or before
pub ends_rise : (i words pieces : ℕ) → 0 < pieces → i * words / pieces ≤ (i + 1) * words / pieces
ends_rise i words pieces some = le-div (i * words / pieces) ((i + 1) * words) pieces some (step (i * words / pieces * pieces) (div-mul-le_self (i * words) pieces))
  where
    step : (p : ℕ) → p ≤ i * words → p ≤ (i + 1) * words
    step p h = grind (arith, h)

parts_join : (ws : List (List ℕ)) (s e : ℕ) → s ≤ e → take s ws ++ drop s (take e ws) ≡ take e ws
parts_join ws s e at =
    let whole : s + (e - s) ≡ e = omega (arith, at) in
    subst (λ n. take s ws ++ drop s (take n ws) ≡ take n ws) whole (ap (λ l. take s ws ++ l) (drop-take s (e - s) ws) ∙ sym (take-add s (e - s) ws))

-- the first i of n pieces of these words
pub record Pieces (ws : List (List ℕ)) (n i : ℕ) (parts : List Part) : Type 0 where
  pub number : length parts ≡ i
  pub ends : (k : ℕ) → k ≤ i → words_of_parts (take k parts) ≡ take (k * length ws / n) ws

pub pieces_none : (ws : List (List ℕ)) (n : ℕ) → Pieces ws n 0 []
pieces_none ws n = record { number = refl; ends = λ k h. ap words_of_parts (take_all k [] (omega arith)) ∙ ap (λ m. take m ws) (sym (at k (omega (arith, h)))) }
  where
    at : (k : ℕ) → k ≡ 0 → k * length ws / n ≡ 0
    at k none = ap (λ j. j * length ws / n) none ∙ ap (λ m. m / n) (omega arith) ∙ zero-div n

module _ (ws : List (List ℕ)) (n i : ℕ) (parts : List Part) (p : Part) (so : Pieces ws n i parts) (some : 1 ≤ n) (words from to : ℕ) (counted : words ≡ length ws) (begins : from ≡ i * words / n)
    (ends : to ≡ (i + 1) * words / n) (is : words_of_part p ≡ drop from (take to ws)) where
  earlier : (k : ℕ) → k ≤ i → words_of_parts (take k (parts ++ (p ∷ []))) ≡ take (k * length ws / n) ws
  earlier k h = ap words_of_parts (take-append-le k parts (p ∷ []) (omega (arith, h, so.number))) ∙ so.ends k h

  last : (k : ℕ) → k ≡ i + 1 → words_of_parts (take k (parts ++ (p ∷ []))) ≡ take (k * length ws / n) ws
  last k at =
      let begin : i * length ws / n ≡ from = ap (λ m. i * m / n) (sym counted) ∙ sym begins in
      let end : to ≡ k * length ws / n = ends ∙ ap (λ m. (i + 1) * m / n) counted ∙ ap (λ j. j * length ws / n) (sym at) in
      let rise : from ≤ to = omega (arith, begins, ends, ends_rise i words n (omega (arith, some))) in
      let front : words_of_parts parts ≡ take from ws = ap words_of_parts (sym (take_all i parts (omega (arith, so.number)))) ∙ so.ends i (omega arith) ∙ ap (λ m. take m ws) begin in
      ap words_of_parts (take_all k (parts ++ (p ∷ [])) (omega (arith, at, so.number, length-append parts (p ∷ [])))) ∙ sym (flat_map_more words_of_part [] parts p)
      ∙ ap (λ l. l ++ words_of_part p) front ∙ ap (λ l. take from ws ++ l) is ∙ parts_join ws from to rise ∙ ap (λ m. take m ws) end

  pub pieces_next : Pieces ws n (i + 1) (parts ++ (p ∷ []))
  pieces_next = record {
    number = omega (arith, so.number, length-append parts (p ∷ []));
    ends = λ k h. ⊎_elim (λ before. earlier k (omega (arith, before))) (λ at. last k (omega (arith, h, at))) (cases_lt k (i + 1));
  }

-- all pieces have all words
pub pieces_whole : (ws : List (List ℕ)) (n : ℕ) (parts : List Part) → 1 ≤ n → length parts ≡ n → ((k : ℕ) → k ≤ n → words_of_parts (take k parts) ≡ take (k * length ws / n) ws) → words_of_parts parts ≡ ws
pieces_whole ws n parts some number ends =
    ap words_of_parts (sym (take_all n parts (omega (arith, number)))) ∙ ends n (omega arith)
    ∙ ap (λ k. take k ws) (mul-div_cancel_left (length ws) (omega (arith, some))) ∙ take_all (length ws) ws (omega arith)

-- one part has all of them
pub one_part : (ws : List (List ℕ)) (to : ℕ) → length ws ≤ to → take to ws ++ [] ≡ ws
one_part ws to enough = append-nil (take to ws) ∙ take_all to ws enough

-- the counts of parts are those of their words
pub counts_of_parts : (parts : List Part) (ws : List (List ℕ)) (lists : List (List (List ℕ × ℕ))) → words_of_parts parts ≡ ws → lists ≡ map (λ part. word_counts (words_of_part part)) parts → AreCountsOf ws lists
counts_of_parts parts ws lists whole are = subst (AreCountsOf ws) (sym are) (subst (λ l. AreCountsOf l (map (λ part. word_counts (words_of_part part)) parts)) whole (each parts))
  where
    each : (ps : List Part) → AreCountsOf (words_of_parts ps) (map (λ part. word_counts (words_of_part part)) ps)
    each [] = refl
    each (p ∷ ps) = (words_of_part p, words_of_parts ps, refl, refl, each ps)
