-- How a script's lines come off its front, and what they spell together.
use Rattle.std.proofs.Common.{◌≡◌, ◌≢◌, ℕ, ◌+◌, ◌<◌, ◌≤◌, inl, inr, Bool, false, List, [], ◌∷◌, ◌++◌, length, get_or, sym, refl, ap, subst, ◌∙◌, arith, suc, drop, length-append, append_assoc, rules}
use Rattle.std.specs.Prelude.{◌==◌, Option, None, Some, MatchOption, is_some}
use Rattle.std.specs.Option.{unwrap_or}
use Rattle.std.specs.Str.Pattern.{FindsChar, SplitsAroundMatch}
use Rattle.std.proofs.lemmas.Str.Pattern.{split_parts, NoCharPasses-char}
use denote.Ref.{Bor}
use mir.Val.{bool_byte}
use Rattle.text_forms.specs.Bounds.{Bounds}
use Rattle.atomic_steps.specs.declared.steps.Step.{Step}
use Rattle.atomic_steps.specs.Runs.{Script}
use Rattle.text_forms.specs.Layout.{usual_bits}
use Rattle.replay_script.specs.Script.{cons_first, script_lines, Spells, SpellsBuckets, SpellsLimits, SpellSteps, SpellBody, SpellScript, AreSteps, Takes, StopsAfter, IsFirstBadLine, greatest}

-- no line feed is in the bytes
abbrev pub NoFeed : List ℕ → Type 0
NoFeed bs = (i : ℕ) → i < length bs → get_or bs i 0 ≢ 10

no_feed_at : (b : ℕ) → b ≢ 10 → (b == 10) ≡ false
no_feed_at b h = search rules

-- a line comes off at its line feed
lines_cut : (line rest : List ℕ) → NoFeed line → script_lines (line ++ (10 ∷ rest)) ≡ line ∷ script_lines rest
lines_cut [] rest none = refl
lines_cut (b ∷ line) rest none = rw (no_feed_at b (none 0 (omega arith))) (ap (cons_first b) (lines_cut line rest (λ i h. none (suc i) (omega arith))))

-- bytes without a line feed are one line
last_line : (b : ℕ) (bs : List ℕ) → NoFeed (b ∷ bs) → script_lines (b ∷ bs) ≡ (b ∷ bs) ∷ []
last_line b [] none = rw (no_feed_at b (none 0 (omega arith))) refl
last_line b (c ∷ bs) none = rw (no_feed_at b (none 0 (omega arith))) (ap (cons_first b) (last_line c bs (λ i h. none (suc i) (omega arith))))

pub one_line : (bs : List ℕ) → 0 < length bs → FindsChar 10 bs None → script_lines bs ≡ bs ∷ []
one_line [] some none = absurd (omega (arith, some))
one_line (b ∷ bs) some none = last_line b bs (λ i h. NoCharPasses-char 10 (b ∷ bs) i none (omega arith) h)

pub first_line : (bs : List ℕ) (a b : Bor (List ℕ)) → SplitsAroundMatch (FindsChar 10) bs a.now b.now → (script_lines bs ≡ a.now ∷ script_lines b.now) × (length b.now < length bs)
first_line bs a b cut =
    let parts = split_parts 10 bs (Some (a, b)) cut (omega arith) in
    (ap script_lines parts.0 ∙ lines_cut a.now b.now parts.1, omega (arith, ap length parts.0, length-append a.now (10 ∷ b.now)))

first_same : {x y : List ℕ} {xs ys : List (List ℕ)} → x ∷ xs ≡ y ∷ ys → x ≡ y
first_same e = ap (λ v. get_or v 0 []) e

-- ---- steps

-- one line and its step more
pub spell_more : (lines : List (List ℕ)) (steps : Script) (line : List ℕ) (s : ℕ × Step) → SpellSteps lines steps → Spells line s → SpellSteps (lines ++ (line ∷ [])) (steps ++ (s ∷ []))
spell_more [] [] line s all one = (one, tt)
spell_more [] (x ∷ steps) line s all one = absurd all
spell_more (l ∷ lines) [] line s all one = absurd all
spell_more (l ∷ lines) (x ∷ steps) line s all one = (all.0, spell_more lines steps line s all.1 one)

-- the last of some lines spells a step too
spell_last : (lines : List (List ℕ)) (line : List ℕ) (steps : Script) → SpellSteps (lines ++ (line ∷ [])) steps → (s : ℕ × Step) × Spells line s
spell_last [] line [] all = absurd all
spell_last [] line (s ∷ steps) all = (s, all.0)
spell_last (l ∷ lines) line [] all = absurd all
spell_last (l ∷ lines) line (s ∷ steps) all = spell_last lines line steps all.1

-- a line among those that spell steps spells one
pub spell_at : (lines : List (List ℕ)) (line : List ℕ) (rest : List (List ℕ)) → AreSteps (lines ++ (line ∷ rest)) → (s : ℕ × Step) × Spells line s
spell_at [] line rest ([], all) = absurd all
spell_at [] line rest (s ∷ steps, all) = (s, all.0)
spell_at (l ∷ lines) line rest ([], all) = absurd all
spell_at (l ∷ lines) line rest (s ∷ steps, all) = spell_at lines line rest (steps, all.1)

-- there are as many lines as steps
pub spell_length : (lines : List (List ℕ)) (steps : Script) → SpellSteps lines steps → length lines ≡ length steps
spell_length [] [] all = refl
spell_length [] (s ∷ steps) all = absurd all
spell_length (line ∷ lines) [] all = absurd all
spell_length (line ∷ lines) (s ∷ steps) all = ap suc (spell_length lines steps all.1)

-- The lines before `rest` are read, `number` of them with those that were passed before, and spell steps.
pub record Reading (text rest : List ℕ) (passed number : ℕ) : Type 0 where
  pub lines : List (List ℕ)
  pub steps : Script
  pub is : script_lines text ≡ lines ++ script_lines rest
  pub good : SpellSteps lines steps
  pub counted : number ≡ passed + length lines
  pub few : length lines + length rest ≤ length text

pub reading_begins : (text : List ℕ) (passed : ℕ) → Reading text text passed passed
reading_begins text passed = record { lines = []; steps = []; is = refl; good = tt; counted = omega arith; few = omega arith }

module _ {text rest : List ℕ} {passed number : ℕ} (p : Reading text rest passed number) where
  pub reading_next : (line after : List ℕ) (s : ℕ × Step) → script_lines rest ≡ line ∷ script_lines after → length after < length rest → Spells line s
      → Reading text after passed (number + 1)
  reading_next line after s cut shorter spells = record {
    lines = p.lines ++ (line ∷ []);
    steps = p.steps ++ (s ∷ []);
    is = p.is ∙ ap (λ v. p.lines ++ v) cut ∙ sym (append_assoc p.lines (line ∷ []) (script_lines after));
    good = spell_more p.lines p.steps line s p.good spells;
    counted = omega (arith, p.counted, length-append p.lines (line ∷ []));
    few = omega (arith, p.few, shorter, length-append p.lines (line ∷ []));
  }

-- ---- the whole script

-- no such lines end with a line, not the first of them, that spells no step
no_body : (first : List ℕ) (lines : List (List ℕ)) (line : List ℕ) → ((s : ℕ × Step) → Spells line s → ⊥) → (b : ℕ) (steps : Script) → SpellBody (first ∷ (lines ++ (line ∷ []))) b steps → ⊥
no_body first lines line bad b steps (inl h) = let last = spell_last (first ∷ lines) line steps h.1 in bad last.0 last.1
no_body first lines line bad b steps (inr h) =
    let rest : lines ++ (line ∷ []) ≡ h.1 = ap (drop 1) h.2 in
    let last = spell_last lines line steps (subst (λ v. SpellSteps v steps) (sym rest) h.4) in
    bad last.0 last.1

-- nor with a first line that spells no number of buckets either
no_first_line : (line : List ℕ) → ((s : ℕ × Step) → Spells line s → ⊥) → ((b : ℕ) → SpellsBuckets line b → ⊥) → (b : ℕ) (steps : Script) → SpellBody (line ∷ []) b steps → ⊥
no_first_line line bad none b steps (inl h) = let last = spell_last [] line steps h.1 in bad last.0 last.1
no_first_line line bad none b steps (inr h) = none b (subst (λ v. SpellsBuckets v b) (sym (first_same h.2)) h.3)

-- Line n is the first of these that isn't of the grammar behind a line of limits, where the first of them is line
-- `passed + 1`.
record StopsBody (lines : List (List ℕ)) (passed n : ℕ) : Type 0 where
  before : List (List ℕ)
  line : List ℕ
  after : List (List ℕ)
  is : lines ≡ before ++ (line ∷ after)
  number : n ≡ passed + length before + 1
  bits : ℕ
  steps : Script
  good : SpellBody before bits steps
  bad : (b : ℕ) (s : Script) → SpellBody (before ++ (line ∷ [])) b s → ⊥
  no_step : (s : ℕ × Step) → Spells line s → ⊥

-- how many lines an opening line is
abbrev pub IsLineCount : {X : Type 0} → Option X → ℕ → Type 0
IsLineCount given n = MatchOption given (n ≡ 0) (λ x. n ≡ 1)

-- the first line that spells no step, behind that of the number of buckets
body_stops : (text rest : List ℕ) (given : Option ℕ) (passed more n : ℕ) → Takes SpellsBuckets text given rest → IsLineCount given more → StopsAfter (script_lines rest) (passed + more) n → StopsBody (script_lines text) passed n
body_stops text rest None passed more n opens is stops = record {
  before = stops.before;
  line = stops.line;
  after = stops.after;
  is = ap script_lines (sym opens.1) ∙ stops.is;
  number = omega (arith, stops.number, is);
  bits = usual_bits;
  steps = stops.steps;
  good = inl (refl, stops.good);
  bad = bad_at stops.before (ap script_lines (sym opens.1) ∙ stops.is);
  no_step = stops.bad;
}
  where
    bad_at : (before : List (List ℕ)) → script_lines text ≡ before ++ (stops.line ∷ stops.after) → (b : ℕ) (s : Script) → SpellBody (before ++ (stops.line ∷ [])) b s → ⊥
    bad_at [] e = no_first_line stops.line stops.bad (λ b. opens.0 stops.line stops.after b e)
    bad_at (first ∷ before) e = no_body first before stops.line stops.bad
body_stops text rest (Some b) passed more n opens is stops = record {
  before = opens.0.0 ∷ stops.before;
  line = stops.line;
  after = stops.after;
  is = opens.0.1 ∙ ap (λ v. opens.0.0 ∷ v) stops.is;
  number = omega (arith, stops.number, is);
  bits = b;
  steps = stops.steps;
  good = inr (opens.0.0, stops.before, refl, opens.0.2, stops.good);
  bad = no_body opens.0.0 stops.before stops.line stops.bad;
  no_step = stops.bad;
}

-- and behind that of the limits: it is the script's first bad line
limits_stop : (text rest : List ℕ) (given : Option Bounds) (passed n : ℕ) → Takes SpellsLimits text given rest → IsLineCount given passed → StopsBody (script_lines rest) passed n → IsFirstBadLine (script_lines text) n
limits_stop text rest None passed n opens is stops = record {
  before = stops.before;
  line = stops.line;
  after = stops.after;
  is = whole;
  number = omega (arith, stops.number, is);
  limits = greatest;
  bits = stops.bits;
  steps = stops.steps;
  good = inl (refl, stops.good);
  bad = λ l b s. no_script l b s;
}
  where
    whole : script_lines text ≡ stops.before ++ (stops.line ∷ stops.after)
    whole = ap script_lines (sym opens.1) ∙ stops.is

    first_of : (before : List (List ℕ)) (line : List ℕ) (after : List (List ℕ)) (first : List ℕ) (lines : List (List ℕ)) → before ++ (line ∷ []) ≡ first ∷ lines → (more : List (List ℕ)) × (before ++ (line ∷ after) ≡ first ∷ more)
    first_of [] line after first lines e = (after, ap (λ v. v ∷ after) (first_same e))
    first_of (x ∷ before) line after first lines e = (before ++ (line ∷ after), ap (λ v. v ∷ (before ++ (line ∷ after))) (first_same e))

    no_script : (l : Bounds) (b : ℕ) (s : Script) → SpellScript (stops.before ++ (stops.line ∷ [])) l b s → ⊥
    no_script l b s (inl h) = stops.bad b s h.1
    no_script l b s (inr h) = let more = first_of stops.before stops.line stops.after h.0 h.1 h.2 in opens.0 h.0 more.0 l (whole ∙ more.1) h.3
limits_stop text rest (Some l) passed n opens is stops = record {
  before = opens.0.0 ∷ stops.before;
  line = stops.line;
  after = stops.after;
  is = opens.0.1 ∙ ap (λ v. opens.0.0 ∷ v) stops.is;
  number = omega (arith, stops.number, is);
  limits = l;
  bits = stops.bits;
  steps = stops.steps;
  good = inr (opens.0.0, stops.before, refl, opens.0.2, stops.good);
  bad = λ m b s. no_script m b s;
}
  where
    no_script : (m : Bounds) (b : ℕ) (s : Script) → SpellScript (opens.0.0 ∷ (stops.before ++ (stops.line ∷ []))) m b s → ⊥
    no_script m b s (inl h) = no_body opens.0.0 stops.before stops.line stops.no_step b s h.1
    no_script m b s (inr h) = stops.bad b s (subst (λ v. SpellBody v b s) (sym (ap (drop 1) h.2)) h.4)

pub script_stops : (text body rest : List ℕ) (limits : Option Bounds) (bits : Option ℕ) (passed more n : ℕ) → Takes SpellsLimits text limits body → Takes SpellsBuckets body bits rest → IsLineCount limits passed → IsLineCount bits more
    → StopsAfter (script_lines rest) (passed + more) n → IsFirstBadLine (script_lines text) n
script_stops text body rest limits bits passed more n opens follows is too stops = limits_stop text body limits passed n opens is (body_stops body rest bits passed more n follows too stops)

pub line_counted : {X : Type 0} (given : Option X) (some : Bool) (passed : ℕ) → some ≡ is_some given → passed ≡ bool_byte some → IsLineCount given passed
line_counted None some passed is counted = counted ∙ ap bool_byte is
line_counted (Some x) some passed is counted = counted ∙ ap bool_byte is

-- steps behind the opening lines are a script's
body_opens : (text rest : List ℕ) (given : Option ℕ) (steps : Script) → Takes SpellsBuckets text given rest → SpellSteps (script_lines rest) steps → SpellBody (script_lines text) (unwrap_or given usual_bits) steps
body_opens text rest None steps opens all = inl (refl, subst (λ v. SpellSteps (script_lines v) steps) opens.1 all)
body_opens text rest (Some b) steps opens all = inr (opens.0.0, script_lines rest, opens.0.1, opens.0.2, all)

pub script_opens : (text body rest : List ℕ) (limits : Option Bounds) (bits : Option ℕ) (steps : Script) → Takes SpellsLimits text limits body → Takes SpellsBuckets body bits rest → SpellSteps (script_lines rest) steps
    → SpellScript (script_lines text) (unwrap_or limits greatest) (unwrap_or bits usual_bits) steps
script_opens text body rest None bits steps opens follows all = inl (refl, subst (λ v. SpellBody (script_lines v) (unwrap_or bits usual_bits) steps) opens.1 (body_opens body rest bits steps follows all))
script_opens text body rest (Some l) bits steps opens follows all = inr (opens.0.0, script_lines body, opens.0.1, opens.0.2, body_opens body rest bits steps follows all)
