-- Lines that are written piece by piece.
use Rattle.std.proofs.Common.{◌≡◌, ℕ, ◌+◌, ◌<◌, List, [], ◌∷◌, ◌++◌, length, drop, get_or, Option, sym, subst, ap, ◌∙◌, append_assoc, append-nil}
use Rattle.std.specs.List.{flat_map}
use Rattle.std.specs.Io.KnownBytes.{Appends}
use Rattle.std.proofs.lemmas.List.{drop_more}
use Rattle.string_cache.specs.AtomValue.{AtomValue}
use Rattle.commands.specs.CountLines.{count_line}
use Rattle.text_streams.specs.Streams.{AppendsBeginning, Moves}
use Rattle.word_counts.specs.WordCounts.{counted_texts}
use Rattle.text_streams.proofs.StreamLemmas.{appends_then, beginning_then}

-- of all lines some are written, some are pending, and the rest is to come
pub record Written (old new : Option (List ℕ)) (all pending rest : List ℕ) : Type 0 where
  pub written : List ℕ
  pub appended : Appends old new written
  pub whole : all ≡ (written ++ pending) ++ rest

module _ {old new : Option (List ℕ)} {all pending rest : List ℕ} (p : Written old new all pending rest) where
  -- one more line is pending
  pub line_pends : (line rest' pending' : List ℕ) → rest ≡ line ++ rest' → pending' ≡ pending ++ line → Written old new all pending' rest'
  line_pends line rest' pending' comes pends = record {
    written = p.written;
    appended = p.appended;
    whole =
        p.whole ∙ ap (λ v. (p.written ++ pending) ++ v) comes ∙ sym (append_assoc (p.written ++ pending) line rest')
        ∙ ap (λ v. v ++ rest') (append_assoc p.written pending line ∙ ap (λ v. p.written ++ v) (sym pends));
  }

  -- a beginning of what is pending is written
  pub moved : {new' : Option (List ℕ)} {left : List ℕ} → Moves new new' pending left → Written old new' all left rest
  moved {new'} {left} m = record {
    written = p.written ++ m.0;
    appended = appends_then old new new' p.written m.0 p.appended m.2;
    whole = p.whole ∙ ap (λ v. v ++ rest) (ap (λ v. p.written ++ v) m.1 ∙ sym (append_assoc p.written m.0 left));
  }

  -- what was written is a beginning, also with a beginning of what is pending
  pub lines_begun : (new' : Option (List ℕ)) → AppendsBeginning new new' pending → AppendsBeginning old new' all
  lines_begun new' more = beginning_then old new new' p.written pending rest all p.appended more p.whole

  -- where none is to come, what is pending is the last of them
  pub all_written : (new' : Option (List ℕ)) → rest ≡ [] → Appends new new' pending → Appends old new' all
  all_written new' none more =
      subst (Appends old new') (sym (p.whole ∙ ap (λ v. (p.written ++ pending) ++ v) none ∙ append-nil (p.written ++ pending)))
      (appends_then old new new' p.written pending p.appended more)

-- the lines from a place on
pub line_at : (counts : List (AtomValue × ℕ)) (i : ℕ) (item : AtomValue × ℕ) → i < length counts → item ≡ get_or counts i item
    → flat_map count_line (counted_texts (drop i counts)) ≡ count_line (item.0.text, item.1) ++ flat_map count_line (counted_texts (drop (i + 1) counts))
line_at counts i item below is = ap (λ l. flat_map count_line (counted_texts l)) (drop_more counts i item below ∙ ap (λ x. x ∷ drop (i + 1) counts) (sym is))
