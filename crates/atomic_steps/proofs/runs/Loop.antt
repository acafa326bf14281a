-- The replies and the world of the steps so far, and one step more: what the loop of `run` keeps.
use Rattle.std.proofs.Common.{◌≡◌, ℕ, ◌+◌, ◌<◌, ◌≤◌, List, [], ◌∷◌, ◌++◌, refl, ap, ◌∙◌, sym, subst, zero, suc, length, take, get_or, inl, inr, true, false, Option, None, Some, arith, length-append, append_assoc}
use Rattle.std.proofs.lemmas.Bool.{cases_eq}
use Rattle.std.proofs.lemmas.List.{take_more, length-take-le}
use Rattle.atomic_steps.specs.declared.steps.Step.{Step}
use Rattle.atomic_steps.specs.declared.steps.StepReply.{StepReply}
use Rattle.text_forms.specs.Tables.{Tables}
use Rattle.atomic_steps.specs.World.{WorldEntry, World, is_linked}
use Rattle.atomic_steps.specs.Sound.{SoundWorld}
use Rattle.atomic_steps.specs.Steps.{step, IsStep, entry_at, opening}
use Rattle.atomic_steps.specs.Runs.{Script, Leads, events_of}
use Rattle.atomic_steps.specs.Theorem.{HasRun}
use Rattle.atomic_steps.proofs.worlds.Apart.{held_by}
use Rattle.atomic_steps.proofs.runs.Every.{every_run, leads-join}

-- the replies and the world that the table of steps gives
abbrev pub replies_of : Tables → World → Script → List StepReply
replies_of t w [] = []
replies_of t w (s ∷ steps) = (step t w s.0 s.1).0 ∷ replies_of t (step t w s.0 s.1).1 steps

abbrev pub world_after : Tables → World → Script → World
world_after t w [] = w
world_after t w (s ∷ steps) = world_after t (step t w s.0 s.1).1 steps

module _ (tables : Tables) where
  -- a step leads from a sound world to a sound world
  pub sound_step : (w : World) (party : ℕ) (s : Step) (reply : StepReply) (new : World) → SoundWorld tables w → IsStep tables w party s reply new → SoundWorld tables new
  sound_step w party s reply new sound does = held_by tables w sound (record { party = party; does = s; reply = reply }) new does

  -- what isn't linked has no holder
  pub unlinked_zero : (w : World) → SoundWorld tables w → (number : ℕ) (x : WorldEntry) → entry_at w.entries number ≡ Some x → is_linked x.place ≡ false → x.count ≡ 0
  unlinked_zero w sound zero x at gone = absurd (let e : ◌≡◌ {A = Option WorldEntry} None (Some x) = at in cc)
  unlinked_zero w sound (suc k) x at gone = elim (cases_eq x.count 0) [
    | inl e ↦ e
    | inr n ↦ absurd (let linked = sound.sound.table.linked k x at (omega arith) in let clash : true ≡ false = sym linked ∙ gone in cc)
  ]

  world_after-append : (w : World) (xs ys : Script) → world_after tables w (xs ++ ys) ≡ world_after tables (world_after tables w xs) ys
  world_after-append w [] ys = refl
  world_after-append w (x ∷ xs) ys = world_after-append (step tables w x.0 x.1).1 xs ys

  replies_of-append : (w : World) (xs ys : Script) → replies_of tables w (xs ++ ys) ≡ replies_of tables w xs ++ replies_of tables (world_after tables w xs) ys
  replies_of-append w [] ys = refl
  replies_of-append w (x ∷ xs) ys = ap (λ (rs : List StepReply). (step tables w x.0 x.1).0 ∷ rs) (replies_of-append (step tables w x.0 x.1).1 xs ys)

  length-replies_of : (w : World) (script : Script) → length (replies_of tables w script) ≡ length script
  length-replies_of w [] = refl
  length-replies_of w (x ∷ xs) = ap suc (length-replies_of (step tables w x.0 x.1).1 xs)

  pub reply_count : (w : World) (script : Script) (before after : List StepReply) (i : ℕ) → i ≤ length script → after ≡ before ++ replies_of tables w (take i script) → length after ≡ length before + i
  reply_count w script before after i h e =
      ap length e ∙ length-append before (replies_of tables w (take i script)) ∙ ap (λ (n : ℕ). length before + n) (length-replies_of w (take i script) ∙ length-take-le i script h)

  events_lead : (w : World) (script : Script) (i : ℕ) → Leads tables w (events_of script (replies_of tables w (take i script))) (world_after tables w (take i script))
  events_lead w [] zero = refl
  events_lead w [] (suc i) = refl
  events_lead w (s ∷ script) zero = refl
  events_lead w (s ∷ script) (suc i) = ((step tables w s.0 s.1).1, refl, events_lead (step tables w s.0 s.1).1 script i)

  pub has_run : (w : World) (script : Script) (before out after : List StepReply) (mid new : World) (i : ℕ) → i ≤ length script
      → after ≡ out → out ≡ before ++ replies_of tables w (take i script) → new ≡ mid → mid ≡ world_after tables w (take i script) → HasRun tables w script before after new
  has_run w script before out after mid new i h same e still r =
      let events = events_of script (replies_of tables w (take i script)) in
      let leads : Leads tables w events new = subst (λ (v : World). Leads tables w events v) (sym (still ∙ r)) (events_lead w script i) in
      let count = length-replies_of w (take i script) ∙ length-take-le i script h in
      record {
        appended = replies_of tables w (take i script);
        is = same ∙ e;
        one_each = omega (arith, count, h);
        leads = leads;
        sound = λ limits n earlier some few came. every_run tables limits n (earlier ++ events) new some few (leads-join tables (opening limits n) w new earlier events came leads);
      }

  -- the steps so far, and the next
  next : (script : Script) (i : ℕ) (s : ℕ × Step) → i < length script → s ≡ get_or script i s → take (i + 1) script ≡ take i script ++ s ∷ []
  next script i s h is = take_more script i s h ∙ ap (λ (x : ℕ × Step). take i script ++ x ∷ []) (sym is)

  module _ (w : World) (script : Script) (i : ℕ) (s : ℕ × Step) (h : i < length script) (is : s ≡ get_or script i s) (mid new : World) (reply : StepReply) (reached : mid ≡ world_after tables w (take i script)) (does : IsStep tables mid s.0 s.1 reply new) where
    made : step tables (world_after tables w (take i script)) s.0 s.1 ≡ (reply, new)
    made = ap (λ (v : World). step tables v s.0 s.1) (sym reached) ∙ does

    pub reached_more : new ≡ world_after tables w (take (i + 1) script)
    reached_more = sym (ap (world_after tables w) (next script i s h is) ∙ world_after-append w (take i script) (s ∷ []) ∙ ap (λ (o : StepReply × World). o.1) made)

    pub replied_more : (before out reserved after : List StepReply) → out ≡ before ++ replies_of tables w (take i script) → reserved ≡ out → after ≡ reserved ++ reply ∷ [] → after ≡ before ++ replies_of tables w (take (i + 1) script)
    replied_more before out reserved after e same f =
        f ∙ ap (λ (rs : List StepReply). rs ++ reply ∷ []) (same ∙ e) ∙ append_assoc before (replies_of tables w (take i script)) (reply ∷ [])
        ∙ ap (λ (rs : List StepReply). before ++ rs)
        (sym (ap (replies_of tables w) (next script i s h is) ∙ replies_of-append w (take i script) (s ∷ []) ∙ ap (λ (o : StepReply × World). replies_of tables w (take i script) ++ o.0 ∷ []) made))
