-- The serial that is printed of a ticket, and the lines of the entries that are held, one after the other.
use Rattle.std.proofs.Common.{◌≡◌, ℕ, ◌+◌, ◌/◌, ◌%◌, ◌^◌, ◌<◌, ◌≤◌, ◌==◌, Bool, true, false, List, [], ◌∷◌, ◌++◌, length, drop, sym, refl, ap, ◌∙◌, suc, zero, append_assoc, append-nil, arith, add-one}
use Rattle.std.specs.Prelude.{Option, None, Some, slice_get, if◌then◌else◌}
use Rattle.std.specs.Option.{option_map}
use Rattle.std.proofs.lemmas.Bool.{eqb-true}
use Rattle.text_forms.specs.Layout.{ticket_unit}
use Rattle.text_forms.specs.Word.{IsTicketWord}
use Rattle.atomic_steps.specs.World.{WorldEntry, World}
use Rattle.atomic_steps.specs.Steps.{entry_at}
use Rattle.replay_script.specs.Replay.{held_line, held_lines_from, serial_in}

-- a word that is no ticket has no serial
pub serial_in-none : (word : ℕ) → word < 2 ^ 64 → ¬ (IsTicketWord word) → 0 ≡ serial_in word
serial_in-none word small none = by_tag (word % 4 == 0) (λ e. no_serial (eqb-true (word % 4) 0 e) (word / ticket_unit) refl)
  where
    no_serial : word % 4 ≡ 0 → (n : ℕ) → word / ticket_unit ≡ n → 0 ≡ n
    no_serial tag zero is = refl
    no_serial tag (suc k) is = absurd (none (suc k, (word % ticket_unit) / 4, (omega arith, omega (arith, is, small), omega arith), omega (arith, is, tag)))

    by_tag : (b : Bool) → (b ≡ true → 0 ≡ word / ticket_unit) → 0 ≡ (if b then word / ticket_unit else 0)
    by_tag true f = f refl
    by_tag false f = refl

-- the line of an entry that may be there
abbrev pub line_at : ℕ → Option ℕ → List ℕ
line_at e None = []
line_at e (Some count) = held_line e count

-- the lines from a place on are that place's and those behind it
pub held_next : (e k : ℕ) (entries : List WorldEntry) → held_lines_from e (drop k entries) ≡ line_at e (option_map (λ entry. entry.count) (slice_get entries k)) ++ held_lines_from (e + 1) (drop (suc k) entries)
held_next e zero [] = refl
held_next e zero (x ∷ entries) = refl
held_next e (suc k) [] = refl
held_next e (suc k) (x ∷ entries) = held_next e k entries

-- behind the last there is none
pub held_none : (e k : ℕ) (entries : List WorldEntry) → length entries ≤ k → held_lines_from e (drop k entries) ≡ []
held_none e zero [] h = refl
held_none e zero (x ∷ entries) h = absurd (omega (arith, h))
held_none e (suc k) [] h = refl
held_none e (suc k) (x ∷ entries) h = held_none e k entries (omega (arith, h))

entry_after : (w : World) (k : ℕ) → entry_at w.entries (k + 1) ≡ slice_get w.entries k
entry_after w k = rw add-one refl

-- one line more
pub held_step : (old out new : List ℕ) (w : World) (k : ℕ) (count : Option ℕ) → count ≡ option_map (λ entry. entry.count) (entry_at w.entries (k + 1)) → new ≡ out ++ line_at (k + 1) count
    → out ++ held_lines_from (k + 1) (drop k w.entries) ≡ old ++ held_lines_from 1 w.entries
    → new ++ held_lines_from (k + 1 + 1) (drop (k + 1) w.entries) ≡ old ++ held_lines_from 1 w.entries
held_step old out new w k count is line before =
    let here : line_at (k + 1) count ≡ line_at (k + 1) (option_map (λ entry. entry.count) (slice_get w.entries k)) = ap (line_at (k + 1)) (is ∙ ap (option_map (λ entry. entry.count)) (entry_after w k)) in
    let later : held_lines_from (k + 1 + 1) (drop (k + 1) w.entries) ≡ held_lines_from (k + 1 + 1) (drop (suc k) w.entries) = ap (λ n. held_lines_from (k + 1 + 1) (drop n w.entries)) (add-one k) in
    ap (λ v. v ++ held_lines_from (k + 1 + 1) (drop (k + 1) w.entries)) line
    ∙ append_assoc out (line_at (k + 1) count) (held_lines_from (k + 1 + 1) (drop (k + 1) w.entries))
    ∙ ap (λ v. out ++ v) (ap (λ v. line_at (k + 1) count ++ v) later ∙ ap (λ v. v ++ held_lines_from (k + 1 + 1) (drop (suc k) w.entries)) here ∙ sym (held_next (k + 1) k w.entries))
    ∙ before

-- and the last one
pub held_end : (old out : List ℕ) (w : World) (k : ℕ) → length w.entries ≤ k → out ++ held_lines_from (k + 1) (drop k w.entries) ≡ old ++ held_lines_from 1 w.entries → out ≡ old ++ held_lines_from 1 w.entries
held_end old out w k most before = sym (append-nil out) ∙ ap (λ v. out ++ v) (sym (held_none (k + 1) k w.entries most)) ∙ before
