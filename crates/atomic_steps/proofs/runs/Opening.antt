-- A run from the opening world keeps what worlds keep, and its calls are those of one map.
use Rattle.std.proofs.Common.{◌≡◌, ℕ, ◌<◌, ◌≤◌, List, [], ◌∷◌, ◌++◌, length, Option, None, Some, refl, sym, ap, ◌∙◌, subst, zero, suc, replicate}
use Rattle.std.specs.Prelude.{slice_index}
use Rattle.std.proofs.lemmas.List.{length-replicate}
use Rattle.atomic_steps.specs.declared.steps.StepReply.{StepReply}
use Rattle.atomic_steps.specs.Steps.{step, opening}
use Rattle.text_forms.specs.Bounds.{Bounds}
use Rattle.text_forms.specs.Layout.{most_buckets}
use Rattle.atomic_steps.specs.World.{WorldEntry, World}
use Rattle.atomic_steps.specs.Sound.{At, Sound}
use Rattle.atomic_steps.specs.Runs.{living_at, live_map, call_of, history_of, Event, Leads, Made, ReplaysHistory}
use Rattle.text_forms.specs.Map.{InternMap, empty_map}
use Rattle.atomic_steps.proofs.worlds.Kept.{same_map}
use Rattle.text_forms.specs.Tables.{Tables}
use Rattle.atomic_steps.proofs.worlds.Outcomes.{outcome_of}
use Rattle.atomic_steps.proofs.runs.History.{keeps}

module _ (tables : Tables) where
  replays-append : (limits : Bounds) (m : InternMap) (xs ys : List Made) (mid new : InternMap) → ReplaysHistory tables limits m xs mid → ReplaysHistory tables limits mid ys new → ReplaysHistory tables limits m (xs ++ ys) new
  replays-append limits m [] ys mid new a b = subst (λ (m : InternMap). ReplaysHistory tables limits m ys new) a b
  replays-append limits m (x ∷ xs) ys mid new a b = (a.0, a.1, replays-append limits a.0 xs ys mid new a.2 b)

  pub record KeepsAll (w : World) (events : List Event) (new : World) : Type 0 where
    pub buckets : length new.lasts ≡ length w.lasts
    pub sound : Sound tables new
    pub limits : new.limits ≡ w.limits
    pub told : ReplaysHistory tables w.limits (live_map w) (history_of tables w events) (live_map new)

  pub keeps_all : (w : World) → Sound tables w → (events : List Event) (new : World) → Leads tables w events new → KeepsAll w events new
  keeps_all w sound [] new e = record {
    sound = subst (Sound tables) (sym e) sound;
    buckets = ap (λ (v : World). length v.lasts) e;
    limits = ap (λ (v : World). v.limits) e;
    told = ap live_map e;
  }
  keeps_all w sound (e ∷ events) new leads =
      let mid = leads.0 in
      let one = keeps tables w sound e.party (outcome_of tables w e mid leads.1) in
      let rest = keeps_all mid one.sound events new leads.2 in
      let is : mid ≡ (step tables w e.party e.does).1 = sym (ap (λ (o : StepReply × World). o.1) leads.1) in
      record {
        sound = rest.sound;
        limits = rest.limits ∙ one.limits;
        buckets = rest.buckets ∙ one.buckets;
        told = replays-append w.limits (live_map w) (call_of w e.party e.does e.reply) (history_of tables (step tables w e.party e.does).1 events) (live_map mid) (live_map new) one.told
            (subst (λ (v : World). ReplaysHistory tables w.limits (live_map mid) (history_of tables v events) (live_map new)) is
            (subst (λ (limits : Bounds). ReplaysHistory tables limits (live_map mid) (history_of tables mid events) (live_map new)) one.limits rest.told));
      }

  zeros : (n b : ℕ) → slice_index (replicate n 0) b ≡ 0
  zeros zero b = refl
  zeros (suc n) zero = refl
  zeros (suc n) (suc b) = zeros n b

  nothing_at : (j : ℕ) (x : WorldEntry) {P : Type 0} → At {X = WorldEntry} [] j x → P
  nothing_at j x h = absurd (let e : ◌≡◌ {A = Option WorldEntry} None (Some x) = h in cc)

  opens : (limits : Bounds) (n : ℕ) → 0 < n → n ≤ most_buckets → Sound tables (record { limits = limits; lasts = replicate n 0; entries = []; passes = []; bag = [] })
  opens limits n some few = record {
    table = record {
      some = subst (λ (m : ℕ). 0 < m) (sym (length-replicate n 0)) some;
      few = subst (λ (m : ℕ). m ≤ most_buckets) (sym (length-replicate n 0)) few;
      numbered = λ k x a. nothing_at k x a;
      apart = λ j k x y a b e. nothing_at j x a;
      one = λ j k x y a b lx ly e. nothing_at j x a;
      counted = λ k x a. nothing_at k x a;
      bagged = λ t none. refl;
      linked = λ k x a h. nothing_at k x a;
    };
    each = tt;
  }

  empty_seen : (limits : Bounds) (n : ℕ) → live_map (record { limits = limits; lasts = replicate n 0; entries = []; passes = []; bag = [] }) ≡ empty_map (length (replicate {A = ℕ} n 0))
  unfolding living_at
  empty_seen limits n = same_map _ _ refl (λ text. refl) (λ b. zeros n b)

  pub opening_sound : (limits : Bounds) (n : ℕ) → 0 < n → n ≤ most_buckets → Sound tables (opening limits n)
  unfolding opening
  opening_sound limits n some few = opens limits n some few

  pub one_map : (limits : Bounds) (n : ℕ) (some : 0 < n) (few : n ≤ most_buckets) (events : List Event) (new : World) → Leads tables (opening limits n) events new
      → ReplaysHistory tables (opening limits n).limits (empty_map (length (opening limits n).lasts)) (history_of tables (opening limits n) events) (live_map new)
  unfolding opening
  one_map limits n some few events new leads =
      subst (λ (m : InternMap). ReplaysHistory tables (opening limits n).limits m (history_of tables (opening limits n) events) (live_map new)) (empty_seen limits n)
      (keeps_all (opening limits n) (opening_sound limits n some few) events new leads).told
