-- Runs one after another.
use Rattle.std.proofs.Common.{◌≡◌, ℕ, ◌+◌, ◌^◌, ◌<◌, ◌≤◌, List, [], ◌∷◌, ◌++◌, length, sym, refl, ap, subst, ◌∙◌, arith, append_assoc, append-nil, length-append}
use Rattle.std.specs.List.{flat_map}
use Rattle.std.proofs.lemmas.Grind.{flat_map-append}
use Rattle.text_forms.specs.Bounds.{Bounds}
use Rattle.text_forms.specs.Tables.{Tables}
use Rattle.atomic_steps.specs.World.{World}
use Rattle.atomic_steps.specs.declared.steps.Step.{Step}
use Rattle.atomic_steps.specs.declared.steps.StepReply.{StepReply}
use Rattle.atomic_steps.specs.Steps.{opening}
use Rattle.atomic_steps.specs.Runs.{Event, Leads, Script, events_of}
use Rattle.atomic_steps.specs.Theorem.{HasRun, IsSoundRun}
use Rattle.replay_script.specs.Script.{script_lines, Spells, SpellSteps, AreSteps}
use Rattle.replay_script.specs.Replay.{reply_line, held_lines_from, RunsOn, IsOutput}
use Rattle.replay_script.proofs.LineLemmas.{spell_more, spell_at, spell_length}
use Rattle.replay_script.proofs.GrowthLemmas.{run_few}

leads_join : (t : Tables) (w u v : World) (xs ys : List Event) → Leads t w xs u → Leads t u ys v → Leads t w (xs ++ ys) v
leads_join t w u v [] ys p q = subst (λ (k : World). Leads t k ys v) p q
leads_join t w u v (x ∷ xs) ys p q = (p.0, p.1, leads_join t p.0 u v xs ys p.2 q)

events_join : (s u : Script) (q r : List StepReply) → length q ≡ length s → events_of (s ++ u) (q ++ r) ≡ events_of s q ++ events_of u r
events_join [] u [] r same = refl
events_join [] u (g ∷ q) r same = absurd (omega (arith, same))
events_join (x ∷ s) u [] r same = absurd (omega (arith, same))
events_join (x ∷ s) u (g ∷ q) r same = ap (λ es. record { party = x.0; does = x.1; reply = g } ∷ es) (events_join s u q r (omega (arith, same)))

module _ (t : Tables) (w u v : World) (s z : Script) (q r : List StepReply) (a : HasRun t w s [] q u) (b : HasRun t u z [] r v) (all : length q ≡ length s) where
  joined : events_of (s ++ z) (a.appended ++ b.appended) ≡ events_of s a.appended ++ events_of z b.appended
  joined = events_join s z a.appended b.appended (sym (ap length a.is) ∙ all)

  -- one run and then another are one run
  pub run_join : HasRun t w (s ++ z) [] (q ++ r) v
  run_join = record {
    appended = a.appended ++ b.appended;
    is = ap (λ rs. rs ++ r) a.is ∙ ap (λ rs. a.appended ++ rs) b.is;
    one_each = omega (arith, a.one_each, b.one_each, length-append a.appended b.appended, length-append s z);
    leads = subst (λ (es : List Event). Leads t w es v) (sym joined) (leads_join t w u v (events_of s a.appended) (events_of z b.appended) a.leads b.leads);
    sound = λ limits buckets earlier low high came.
        let later = b.sound limits buckets (earlier ++ events_of s a.appended) low high (leads_join t (opening limits buckets) w u earlier (events_of s a.appended) came a.leads) in
        subst (λ (es : List Event). IsSoundRun t (opening limits buckets) es v)
        (append_assoc earlier (events_of s a.appended) (events_of z b.appended) ∙ ap (λ es. earlier ++ es) (sym joined)) later;
  }

-- The lines before `rest` are read, `most` of them; of their steps those of `chunk` are to be made, and the lines of the
-- other replies are printed. Whatever is run next goes on the run from the beginning.
pub record Running (t : Tables) (limits : Bounds) (bits : ℕ) (text rest : List ℕ) (world : World) (chunk : Script) (out : List ℕ) (most : ℕ) : Type 0 where
  pub lines : List (List ℕ)
  pub made : Script
  pub replies : List StepReply
  pub is : script_lines text ≡ lines ++ script_lines rest
  pub good : SpellSteps lines (made ++ chunk)
  pub all : length replies ≡ length made
  pub printed : out ≡ flat_map reply_line replies
  pub onward : (s : Script) (r : List StepReply) (v : World) → HasRun t world s [] r v → HasRun t (opening limits (2 ^ bits)) (made ++ s) [] (replies ++ r) v
  pub counted : most ≡ length lines
  pub few : length lines + length rest ≤ length text

pub running_begins : (t : Tables) (limits : Bounds) (bits : ℕ) (text : List ℕ) (world : World) (chunk : Script) (out : List ℕ) → world ≡ opening limits (2 ^ bits) → chunk ≡ [] → out ≡ [] → Running t limits bits text text world chunk out 0
running_begins t limits bits text world chunk out opens none empty = record {
  lines = [];
  made = [];
  replies = [];
  is = refl;
  good = subst (λ s. SpellSteps [] s) (sym none) tt;
  all = refl;
  printed = empty;
  onward = λ s r v run. subst (λ w. HasRun t w s [] r v) opens run;
  counted = refl;
  few = omega arith;
}

module _ {t : Tables} {limits : Bounds} {bits : ℕ} {text rest : List ℕ} {world : World} {chunk : Script} {out : List ℕ} {most : ℕ} (p : Running t limits bits text rest world chunk out most) where
  -- the next line spells a step
  pub running_line : AreSteps (script_lines text) → (line after : List ℕ) → script_lines rest ≡ line ∷ script_lines after → ((s : ℕ × Step) → Spells line s → ⊥) → ⊥
  running_line steps line after cut none =
      let found = spell_at p.lines line (script_lines after) (subst AreSteps (p.is ∙ ap (λ v. p.lines ++ v) cut) steps) in
      none found.0 found.1

  -- which is to be made too
  pub running_next : (line after : List ℕ) (s : ℕ × Step) (chunk' : Script) → script_lines rest ≡ line ∷ script_lines after → length after < length rest → Spells line s → chunk' ≡ chunk ++ (s ∷ [])
      → Running t limits bits text after world chunk' out (most + 1)
  running_next line after s chunk' cut shorter spells grown = record {
    lines = p.lines ++ (line ∷ []);
    made = p.made;
    replies = p.replies;
    is = p.is ∙ ap (λ v. p.lines ++ v) cut ∙ sym (append_assoc p.lines (line ∷ []) (script_lines after));
    good = subst (λ (z : Script). SpellSteps (p.lines ++ (line ∷ [])) z) (append_assoc p.made chunk (s ∷ []) ∙ ap (λ z. p.made ++ z) (sym grown)) (spell_more p.lines (p.made ++ chunk) line s p.good spells);
    all = p.all;
    printed = p.printed;
    onward = p.onward;
    counted = omega (arith, p.counted, length-append p.lines (line ∷ []));
    few = omega (arith, p.few, shorter, length-append p.lines (line ∷ []));
  }

  -- all are made
  pub running_on : (world' : World) (chunk' : Script) (out' : List ℕ) → RunsOn t world world' chunk out out' → chunk' ≡ [] → Running t limits bits text rest world' chunk' out' most
  running_on world' chunk' out' ran none = record {
    lines = p.lines;
    made = p.made ++ chunk;
    replies = p.replies ++ ran.replies;
    is = p.is;
    good = subst (λ (z : Script). SpellSteps p.lines z) (sym (ap (λ z. (p.made ++ chunk) ++ z) none ∙ append-nil (p.made ++ chunk))) p.good;
    all = omega (arith, length-append p.replies ran.replies, length-append p.made chunk, p.all, ran.all);
    printed = ran.is ∙ ap (λ v. v ++ flat_map reply_line ran.replies) p.printed ∙ sym (flat_map-append reply_line p.replies ran.replies);
    onward = λ s r v run.
        subst (λ (z : Script). HasRun t (opening limits (2 ^ bits)) z [] ((p.replies ++ ran.replies) ++ r) v) (sym (append_assoc p.made chunk s))
        (subst (λ (rs : List StepReply). HasRun t (opening limits (2 ^ bits)) (p.made ++ (chunk ++ s)) [] rs v) (sym (append_assoc p.replies ran.replies r))
        (p.onward (chunk ++ s) (ran.replies ++ r) v (run_join t world world' v chunk s ran.replies r ran.run run ran.all)));
    counted = p.counted;
    few = p.few;
  }

  module _ (none : script_lines rest ≡ []) (world' : World) (out' : List ℕ) (ran : RunsOn t world world' chunk out out') where
    whole_run : HasRun t (opening limits (2 ^ bits)) (p.made ++ chunk) [] (p.replies ++ ran.replies) world'
    whole_run = p.onward chunk ran.replies world' ran.run

    -- no more entries than lines
    pub running_few : length world'.entries ≤ most
    running_few =
        let few = run_few t limits (2 ^ bits) (opening limits (2 ^ bits)) (p.made ++ chunk) [] (p.replies ++ ran.replies) world' refl whole_run in
        omega (arith, few, spell_length p.lines (p.made ++ chunk) p.good, p.counted)

    pub running_ends : (output : List ℕ) → output ≡ out' ++ held_lines_from 1 world'.entries → (steps : Script) × SpellSteps (script_lines text) steps × IsOutput t limits bits steps output
    running_ends output held = (
      p.made ++ chunk,
      subst (λ (ls : List (List ℕ)). SpellSteps ls (p.made ++ chunk)) (sym (p.is ∙ ap (λ v. p.lines ++ v) none ∙ append-nil p.lines)) p.good,
      record {
        replies = p.replies ++ ran.replies;
        world = world';
        run = whole_run;
        all = omega (arith, length-append p.replies ran.replies, length-append p.made chunk, p.all, ran.all);
        is = held ∙ ap (λ v. v ++ held_lines_from 1 world'.entries) (ran.is ∙ ap (λ v. v ++ flat_map reply_line ran.replies) p.printed ∙ sym (flat_map-append reply_line p.replies ran.replies));
      },
    )
