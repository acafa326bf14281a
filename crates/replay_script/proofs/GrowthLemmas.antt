-- A step links one entry at most.
use Rattle.std.proofs.Common.{◌≡◌, ℕ, ◌+◌, ◌≤◌, ◌-◌, Bool, true, false, cond, List, [], ◌∷◌, length, refl, ap, subst, suc, zero, arith, length-append}
use Rattle.std.specs.Prelude.{Option, None, Some, nat_lt, ◌==◌}
use Rattle.std.specs.Option.{unwrap_or}
use Rattle.std.proofs.lemmas.List.{length-set}
use Rattle.text_forms.specs.Bounds.{Bounds}
use Rattle.text_forms.specs.Tables.{Tables}
use Rattle.atomic_steps.specs.World.{WorldEntry, PartyPass, World}
use Rattle.atomic_steps.specs.declared.steps.Step.{Step}
use Rattle.atomic_steps.specs.declared.steps.Step.TheVariants.{TakeIntern, TakeSweep, Add, Link, Clone, Give, Unlink, Free, Leave}
use Rattle.atomic_steps.specs.declared.steps.StepReply.{StepReply}
use Rattle.atomic_steps.specs.declared.steps.StepReply.TheVariants as reply
use Rattle.atomic_steps.specs.Steps.{step, ◌>>=◌, only_if, pass_of, entry_at, with_entry, take_bucket, add, link, clone, give, unlink, last_of, without_party, opening}
use Rattle.atomic_steps.specs.Runs.{Event, Leads, Script, events_of}
use Rattle.atomic_steps.specs.Theorem.{HasRun}

bind_case : {A B : Type 0} (P : B → Type 0) (o : Option A) (f : A → Option B) (d : B) → P d → ((x : A) → P (unwrap_or (f x) d)) → P (unwrap_or (o >>= f) d)
bind_case P None f d none some = none
bind_case P (Some x) f d none some = some x

guard_case : {B : Type 0} (P : B → Type 0) (b : Bool) (x d : B) → P d → P x → P (unwrap_or (only_if b x) d)
guard_case P true x d is_not is = is
guard_case P false x d is_not is = is_not

if_case : {B : Type 0} (P : B → Type 0) (b : Bool) (x y : B) → P x → P y → P (cond b x y)
if_case P true x y is is_not = is
if_case P false x y is is_not = is_not

module _ (t : Tables) (w : World) where
  abbrev pub Grows : StepReply × World → Type 0
  Grows o = length o.1.entries ≤ length w.entries + 1

  same : (r : StepReply) (v : World) → v.entries ≡ w.entries → Grows (r, v)
  same r v e = omega (arith, ap length e)

  set_entry : (r : StepReply) (e : ℕ) (x : WorldEntry) → length (with_entry w e x).entries ≤ length w.entries + 1
  set_entry r zero x = omega arith
  set_entry r (suc k) x = omega (arith, length-set w.entries k x)

  add_grows : (pass : PartyPass) (e : ℕ) (x : WorldEntry) → Grows (add w pass e x)
  unfolding add
  add_grows pass e x = if_case Grows (x.count == 0) _ _ (omega arith) (if_case Grows (nat_lt x.count w.limits.holders) _ _ (set_entry reply.No e (record x { count = x.count + 1 })) (omega arith))

  link_grows : (pass : PartyPass) (room : Bool) (text : List ℕ) → Grows (link w pass room text)
  unfolding link
  link_grows pass room text =
      if_case Grows (nat_lt (last_of w pass.bucket) w.limits.serials) _ _
      (if_case Grows room _ _ (omega (arith, length-append {A = WorldEntry})) (omega arith))
      (omega arith)

  clone_grows : (e : ℕ) (x : WorldEntry) → Grows (clone w e x)
  unfolding clone
  clone_grows e x = if_case Grows (nat_lt x.count w.limits.holders) _ _ (set_entry reply.No e (record x { count = x.count + 1 })) (omega arith)

  give_grows : (e : ℕ) (x : WorldEntry) → Grows (give w e x)
  unfolding give
  give_grows e x = set_entry reply.No e (record x { count = x.count - 1 })

  unlink_grows : (pass : PartyPass) (e : ℕ) (x : WorldEntry) → Grows (unlink w pass e x)
  unfolding unlink
  unlink_grows pass e x = if_case Grows (x.count == 0) _ _ (set_entry reply.No e _) (omega arith)

  take_grows : (party bucket : ℕ) (wanted : Option (List ℕ)) → Grows (take_bucket w party bucket wanted)
  unfolding take_bucket
  take_grows party bucket wanted = omega arith

  step_grows : (party : ℕ) (s : Step) → Grows (step t w party s)
  step_grows party (TakeIntern text) = guard_case Grows _ _ (reply.No, w) (omega arith) (take_grows _ _ _)
  step_grows party (TakeSweep bucket) = guard_case Grows _ _ (reply.No, w) (omega arith) (take_grows _ _ _)
  step_grows party (Add e) =
      bind_case Grows (pass_of w party) _ _ (omega arith) (λ pass.
      bind_case Grows (entry_at w.entries e) _ _ (omega arith) (λ x. guard_case Grows _ _ (reply.No, w) (omega arith) (add_grows pass e x)))
  step_grows party (Link room) =
      bind_case Grows (pass_of w party) _ _ (omega arith) (λ pass.
      bind_case Grows pass.wanted _ _ (omega arith) (λ text. guard_case Grows _ _ (reply.No, w) (omega arith) (link_grows pass room text)))
  step_grows party (Clone e) = bind_case Grows (entry_at w.entries e) _ _ (omega arith) (λ x. guard_case Grows _ _ (reply.No, w) (omega arith) (clone_grows e x))
  step_grows party (Give e) = bind_case Grows (entry_at w.entries e) _ _ (omega arith) (λ x. guard_case Grows _ _ (reply.No, w) (omega arith) (give_grows e x))
  step_grows party (Unlink e) =
      bind_case Grows (pass_of w party) _ _ (omega arith) (λ pass.
      bind_case Grows (entry_at w.entries e) _ _ (omega arith) (λ x. guard_case Grows _ _ (reply.No, w) (omega arith) (unlink_grows pass e x)))
  step_grows party (Free e) = bind_case Grows (entry_at w.entries e) _ _ (omega arith) (λ x. guard_case Grows _ _ (reply.No, w) (omega arith) (set_entry reply.No e _))
  step_grows party Leave = bind_case Grows (pass_of w party) _ _ (omega arith) (λ pass. guard_case Grows _ _ (reply.No, w) (omega arith) (same reply.Left (record w { passes = without_party w.passes party }) refl))

-- a run links one entry a step at most
run_grows : (t : Tables) (w : World) (events : List Event) (v : World) → Leads t w events v → length v.entries ≤ length w.entries + length events
run_grows t w [] v leads = omega (arith, ap (λ (u : World). length u.entries) leads)
run_grows t w (e ∷ events) v leads =
    let later = run_grows t leads.0 events v leads.2 in
    let one : length leads.0.entries ≤ length w.entries + 1 = subst (λ (o : StepReply × World). length o.1.entries ≤ length w.entries + 1) leads.1 (step_grows t w e.party e.does) in
    omega (arith, later, one)

events_few : (steps : Script) (replies : List StepReply) → length (events_of steps replies) ≤ length steps
events_few [] replies = omega arith
events_few (s ∷ steps) [] = omega arith
events_few (s ∷ steps) (r ∷ replies) = omega (arith, events_few steps replies)

-- from the opening world at most as many entries as steps
pub entries_few : (t : Tables) (limits : Bounds) (buckets : ℕ) (steps : Script) (replies : List StepReply) (v : World) → Leads t (opening limits buckets) (events_of steps replies) v → length v.entries ≤ length steps
unfolding opening
entries_few t limits buckets steps replies v leads = omega (arith, run_grows t (opening limits buckets) (events_of steps replies) v leads, events_few steps replies)

pub run_few : (t : Tables) (limits : Bounds) (buckets : ℕ) (old : World) (steps : Script) (before after : List StepReply) (v : World) → old ≡ opening limits buckets → HasRun t old steps before after v → length v.entries ≤ length steps
run_few t limits buckets old steps before after v is run =
    entries_few t limits buckets steps run.appended v (subst (λ w. Leads t w (events_of steps run.appended) v) is run.leads)
