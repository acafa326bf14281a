-- One party that sweeps all buckets leaves exactly the entries with a holder.
use Rattle.std.proofs.Common.{◌≡◌, ℕ, ◌+◌, ◌<◌, ◌≢◌, inl, inr, true, false, List, [], ◌∷◌, ◌++◌, length, Option, None, Some, refl, sym, ap, ◌∙◌, subst, arith, zero, suc, append_assoc}
use Rattle.std.specs.Prelude.{slice_set}
use Rattle.std.specs.List.{AllByRecursion}
use Rattle.std.proofs.lemmas.Bool.{cases_eq}
use Rattle.atomic_steps.specs.declared.steps.world_entry.Place.TheVariants as place
use Rattle.atomic_steps.specs.declared.steps.Step.{Step}
use Rattle.atomic_steps.specs.declared.steps.Step.TheVariants.{TakeSweep, Give, Leave}
use Rattle.atomic_steps.specs.declared.steps.StepReply.{StepReply}
use Rattle.atomic_steps.specs.declared.steps.StepReply.TheVariants as reply
use Rattle.atomic_steps.specs.World.{WorldEntry, World, is_linked}
use Rattle.atomic_steps.specs.Steps.{step}
use Rattle.atomic_steps.specs.Runs.{Event, Leads}
use Rattle.atomic_steps.specs.Theorem.{event, IsAlone, Sweeps, OnlyHeldLinked}
use Rattle.atomic_steps.specs.Sound.{At, Sound}
use Rattle.text_forms.specs.Times.{times}
use Rattle.atomic_steps.proofs.lists.Facts.{at_one, at_set_cases, at_push_cases, false_is_true}
use Rattle.atomic_steps.proofs.runs.Opening.{keeps_all}
use Rattle.atomic_steps.proofs.worlds.Outcomes.{Outcome, outcome_of}
use Rattle.atomic_steps.proofs.worlds.Outcomes as did
use Rattle.atomic_steps.proofs.worlds.Entries.{sound_by, all_sound, stays_gone}
use Rattle.atomic_steps.proofs.passes.Parties.{leads-append}
use Rattle.atomic_steps.proofs.passes.Zeros.{AtZero, zero_taken, zero_all, zero_left}
use Rattle.text_forms.specs.Tables.{Tables}

-- What stood at zero here, linked if z is.
pub record StoodAtZero (es : List WorldEntry) (k : ℕ) (z : WorldEntry) : Type 0 where
  pub entry : WorldEntry
  pub at : At es k entry
  pub zero_then : entry.count ≡ 0
  pub bucket : z.bucket ≡ entry.bucket
  pub linked : is_linked z.place ≡ true → is_linked entry.place ≡ true

-- Whatever is at zero now was so before.
abbrev pub Came : List WorldEntry → List WorldEntry → Type 0
Came es es' = (k : ℕ) (z : WorldEntry) → At es' k z → z.count ≡ 0 → StoodAtZero es k z

came_same : (es : List WorldEntry) → Came es es
came_same es k z at zero_now = record { entry = z; at = at; zero_then = zero_now; bucket = refl; linked = λ h. h }

came_push : (es : List WorldEntry) (y : WorldEntry) → y.count ≡ 1 → Came es (es ++ y ∷ [])
came_push es y one k z at zero_now = elim (at_push_cases es y k z at) [
  | inl old ↦ came_same es k z old zero_now
  | inr (e, f) ↦ absurd (let c : z.count ≡ y.count = ap (λ (v : WorldEntry). v.count) f in omega (arith, c, one, zero_now))
]

came_set : (es : List WorldEntry) (j : ℕ) (x y : WorldEntry) → At es j x → (y.count ≡ 0 → x.count ≡ 0) → y.bucket ≡ x.bucket → (is_linked y.place ≡ true → is_linked x.place ≡ true) → Came es (slice_set es j y)
came_set es j x y at zero_was bucket linked k z b zero_now = elim (at_set_cases es j y k z b) [
  | inl (e, f) ↦ record {
    entry = x;
    at = subst (λ (i : ℕ). At es i x) (sym e) at;
    zero_then = zero_was (sym (ap (λ (v : WorldEntry). v.count) f) ∙ zero_now);
    bucket = ap (λ (v : WorldEntry). v.bucket) f ∙ bucket;
    linked = λ h. linked (sym (ap (λ (v : WorldEntry). is_linked v.place) f) ∙ h);
  }
  | inr (n, old) ↦ came_same es k z old zero_now
]

module _ (tables : Tables) where
  pub came : (w : World) (party : ℕ) {s : Step} {o : StepReply × World} → Outcome tables w party s o → ((e : ℕ) → s ≢ Give e) → Came w.entries o.1.entries
  came w party (did.Added l wanted some room) n = came_set w.entries l.k l.entry (record l.entry { count = l.entry.count + 1 }) l.at (λ h. absurd (omega (arith, h))) refl (λ h. h)
  came w party (did.Linked m left) n = came_push w.entries _ refl
  came w party (did.Cloned h room) n = came_set w.entries h.k h.entry (record h.entry { count = h.entry.count + 1 }) h.at (λ h. absurd (omega (arith, h))) refl (λ h. h)
  came w party (did.Given h) n = absurd (n (suc h.k) refl)
  came w party (did.Unlinked l none) n = came_set w.entries l.k l.entry (record l.entry { place = place.UnlinkedBy l.pass.party }) l.at (λ h. h) refl (λ h. false_is_true h)
  came w party (did.Freed k x at own) n = came_set w.entries k x (record x { place = place.Freed }) at (λ h. h) refl (λ h. false_is_true h)
  came w party other n = came_same w.entries

  pub came_all : (party : ℕ) (w : World) (events : List Event) (v : World) → Leads tables w events v → IsAlone party events → Came w.entries v.entries
  came_all party w [] v leads alone k z at zero_now = came_same w.entries k z (subst (λ (u : World). At u.entries k z) leads at) zero_now
  came_all party w (e ∷ events) v leads alone k z at zero_now =
      let later = came_all party leads.0 events v leads.2 alone.1 k z at zero_now in
      let first = came w e.party (outcome_of tables w e leads.0 leads.1) alone.0.1 k later.entry later.at later.zero_then in
      record { entry = first.entry; at = first.at; zero_then = first.zero_then; bucket = later.bucket ∙ first.bucket; linked = λ h. first.linked (later.linked h) }

  all_right : {X : Type 0} (P : X → Type 0) (xs ys : List X) → AllByRecursion P (xs ++ ys) → AllByRecursion P ys
  all_right P [] ys all = all
  all_right P (x ∷ xs) ys all = all_right P xs ys all.1

  unlinked_is : (es : List WorldEntry) (k : ℕ) (x y : WorldEntry) → At es k x → At es k y → is_linked x.place ≡ false → is_linked y.place ≡ true → ⊥
  unlinked_is es k x y a b out l =
      let clash : false ≡ true = sym out ∙ ap (λ (z : WorldEntry). is_linked z.place) (at_one es k x y a b) ∙ l in
      false_is_true clash

  -- What was at zero in a bucket that the party held isn't linked once the party has left.
  left_gone : (u : World) → Sound tables u → (party bucket k : ℕ) → AtZero u party bucket k → (after : List Event) (v : World) → Leads tables u (event party Leave reply.Left ∷ after) v
      → (y : WorldEntry) → At v.entries k y → is_linked y.place ≡ true → ⊥
  left_gone u sound party bucket k z after v leads y at l =
      let leave = event party Leave reply.Left in
      let out = zero_left tables u sound party bucket k z leave leads.0 leads.1 refl refl in
      let end = stays_gone tables leads.0 (sound_by tables u sound leave leads.0 leads.1) after v leads.2 k out.0 out.1 out.2 in
      unlinked_is v.entries k end.0 y end.1 at end.2 l

  -- Nor is what is at zero at the end, where the party is alone from the step on that took the bucket.
  taken_gone : (u mid : World) → Sound tables u → (party bucket : ℕ) → step tables u party (TakeSweep bucket) ≡ (reply.Taken, mid) → (middle after : List Event) (v : World)
      → Leads tables mid (middle ++ event party Leave reply.Left ∷ after) v → IsAlone party (middle ++ event party Leave reply.Left ∷ after)
      → (k : ℕ) (y : WorldEntry) → At v.entries k y → y.count ≡ 0 → y.bucket ≡ bucket → is_linked y.place ≡ true → ⊥
  taken_gone u mid sound party bucket does middle after v leads alone k y at zero_now right l =
      let sound' = sound_by tables u sound (event party (TakeSweep bucket) reply.Taken) mid does in
      let then = came_all party mid (middle ++ event party Leave reply.Left ∷ after) v leads alone k y at zero_now in
      let z = zero_taken tables u party bucket (TakeSweep bucket) mid refl does k then.entry then.at then.zero_then (sym then.bucket ∙ right) in
      let rest = leads-append tables mid v middle (event party Leave reply.Left ∷ after) leads in
      left_gone rest.0 (all_sound tables mid sound' middle rest.0 rest.1) party bucket k (zero_all tables mid sound' party bucket k z middle rest.0 rest.1) after v rest.2 y at l

  -- An entry of a bucket that was swept isn't both at zero and linked.
  swept_gone : (w : World) → Sound tables w → (party bucket : ℕ) (before middle after : List Event) (v : World)
      → Leads tables w (before ++ (event party (TakeSweep bucket) reply.Taken ∷ middle ++ event party Leave reply.Left ∷ after)) v
      → IsAlone party (before ++ (event party (TakeSweep bucket) reply.Taken ∷ middle ++ event party Leave reply.Left ∷ after))
      → (k : ℕ) (y : WorldEntry) → At v.entries k y → y.count ≡ 0 → y.bucket ≡ bucket → is_linked y.place ≡ true → ⊥
  swept_gone w sound party bucket before middle after v leads alone k y at zero_now right l =
      let swept = event party (TakeSweep bucket) reply.Taken ∷ middle ++ event party Leave reply.Left ∷ after in
      let first = leads-append tables w v before swept leads in
      let alone' = (all_right (λ (e : Event). (e.party ≡ party) × ((n : ℕ) → e.does ≢ Give n)) before swept alone).1 in
      taken_gone first.0 first.2.0 (all_sound tables w sound before first.0 first.1) party bucket first.2.1 middle after v first.2.2 alone' k y at zero_now right l

  pub only_held : (w : World) → Sound tables w → (party : ℕ) (part : List Event) (v : World) → Leads tables w part v → IsAlone party part → ((bucket : ℕ) → bucket < length w.lasts → Sweeps party part bucket) → OnlyHeldLinked v
  only_held w sound party part v leads alone sweeps zero y at = absurd (let e : ◌≡◌ {A = Option WorldEntry} None (Some y) = at in cc)
  only_held w sound party part v leads alone sweeps (suc k) y at = (held, linked)
    where
      sound' : Sound tables v
      sound' = all_sound tables w sound part v leads

      linked : 0 < times y.ticket v.bag → is_linked y.place ≡ true
      linked h = sound'.table.linked k y at (let c = sound'.table.counted k y at in omega (arith, h, c))

      below : y.bucket < length w.lasts
      below = (let b = (sound'.table.numbered k y at).3 in subst (λ (n : ℕ). y.bucket < n) (keeps_all tables w sound part v leads).buckets b)

      gone : y.count ≡ 0 → is_linked y.place ≡ true → Sweeps party part y.bucket → ⊥
      gone zero_now l s =
          let is = s.3 ∙ append_assoc s.0 (event party (TakeSweep y.bucket) reply.Taken ∷ s.1) (event party Leave reply.Left ∷ s.2) in
          swept_gone w sound party y.bucket s.0 s.1 s.2 v
          (subst (λ (es : List Event). Leads tables w es v) is leads) (subst (IsAlone party) is alone) k y at zero_now refl l

      held : is_linked y.place ≡ true → 0 < times y.ticket v.bag
      held l = elim (cases_eq y.count 0) [
        | inl z ↦ absurd (gone z l (sweeps y.bucket below))
        | inr n ↦ (let c = sound'.table.counted k y at in omega (arith, c, n))
      ]
