-- How entries go on: for good they keep text, bucket and ticket, a count of zero, and not being linked.
use Rattle.std.proofs.Common.{◌≡◌, ℕ, ◌+◌, ◌-◌, ◌<◌, ◌≢◌, inl, inr, true, false, List, [], ◌∷◌, ◌++◌, refl, sym, ap, ◌∙◌, subst, arith, suc}
use Rattle.std.specs.Prelude.{slice_set}
use Rattle.std.proofs.lemmas.Bool.{eqb-true, cases_eq}
use Rattle.std.specs.List.{AllByRecursion}
use Rattle.atomic_steps.specs.declared.steps.world_entry.Place.{Place}
use Rattle.atomic_steps.specs.declared.steps.world_entry.Place.TheVariants as place
use Rattle.atomic_steps.specs.declared.steps.Step.{Step}
use Rattle.atomic_steps.specs.declared.steps.Step.TheVariants.{Free}
use Rattle.atomic_steps.specs.declared.steps.StepReply.{StepReply}
use Rattle.atomic_steps.specs.declared.steps.StepReply.TheVariants as reply
use Rattle.atomic_steps.specs.World.{WorldEntry, World, is_linked, is_unlinked_by}
use Rattle.atomic_steps.specs.Steps.{step}
use Rattle.atomic_steps.specs.Runs.{Event, Leads}
use Rattle.atomic_steps.specs.Theorem.{event, FreesSoundly}
use Rattle.atomic_steps.specs.Sound.{At, Sound}
use Rattle.atomic_steps.proofs.lists.Facts.{at_set_same, at_push_old, at_one, at_set_other, false_is_true}
use Rattle.atomic_steps.proofs.worlds.Bag.{held_counts}
use Rattle.atomic_steps.proofs.worlds.Outcomes.{Holds, Outcome, outcome_of}
use Rattle.atomic_steps.proofs.worlds.Outcomes as did
use Rattle.atomic_steps.proofs.runs.History.{keeps, unlinked_counts_zero}
use Rattle.text_forms.specs.Tables.{Tables}

pub record Evolves (x y : WorldEntry) : Type 0 where
  pub text : y.text ≡ x.text
  pub bucket : y.bucket ≡ x.bucket
  pub ticket : y.ticket ≡ x.ticket
  pub dead : x.count ≡ 0 → y.count ≡ 0
  pub gone : is_linked x.place ≡ false → is_linked y.place ≡ false
  pub freed : x.place ≡ place.Freed → y.place ≡ place.Freed

same : (x : WorldEntry) → Evolves x x
same x = record { text = refl; bucket = refl; ticket = refl; dead = λ h. h; gone = λ h. h; freed = λ h. h }

abbrev pub Goes : List WorldEntry → List WorldEntry → Type 0
Goes es es' = (k : ℕ) (x : WorldEntry) → At es k x → (y : WorldEntry) × At es' k y × Evolves x y

goes_same : (es : List WorldEntry) → Goes es es
goes_same es k x a = (x, a, same x)

goes_push : (es : List WorldEntry) (y : WorldEntry) → Goes es (es ++ y ∷ [])
goes_push es y k x a = (x, at_push_old es y k x a, same x)

goes_set : (es : List WorldEntry) (j : ℕ) (x y : WorldEntry) → At es j x → Evolves x y → Goes es (slice_set es j y)
goes_set es j x y at ev k z a = elim (cases_eq k j) [
  | inl e ↦
      let is : z ≡ x = at_one es j z x (subst (λ (i : ℕ). At es i z) e a) at in
      (y, subst (λ (i : ℕ). At (slice_set es j y) i y) (sym e) (at_set_same es j x y at), subst (λ (v : WorldEntry). Evolves v y) (sym is) ev)
  | inr n ↦ (z, at_set_other es j y k z n a, same z)
]

module _ (tables : Tables) where
  module _ (w : World) (sound : Sound tables w) (party : ℕ) where
    counted : (n : ℕ) (x : WorldEntry) → 0 < x.count → Evolves x (record x { count = n })
    counted n x some = record { text = refl; bucket = refl; ticket = refl; dead = λ e. absurd (omega arith); gone = λ h. h; freed = λ h. h }

    held_counted : (n : ℕ) (h : Holds w) → Evolves h.entry (record h.entry { count = n })
    held_counted n h = counted n h.entry (held_counts w.entries w.lasts w.bag sound.table h.k h.entry h.at h.held)

    moved : (x : WorldEntry) (to : Place) → is_linked to ≡ false → (x.place ≡ place.Freed → to ≡ place.Freed) → Evolves x (record x { place = to })
    moved x to gone freed = record { text = refl; bucket = refl; ticket = refl; dead = λ h. h; gone = λ h. gone; freed = freed }

    not_freed_linked : (p : Place) {P : Type 0} → is_linked p ≡ true → p ≡ place.Freed → P
    not_freed_linked p l f = false_is_true (sym (ap is_linked f) ∙ l)

    pub goes : {s : Step} {o : StepReply × World} → Outcome tables w party s o → Goes w.entries o.1.entries
    goes (did.Added l wanted some room) = goes_set w.entries l.k l.entry (record l.entry { count = l.entry.count + 1 }) l.at (counted (l.entry.count + 1) l.entry some)
    goes (did.Linked m left) = goes_push w.entries _
    goes (did.Cloned h room) = goes_set w.entries h.k h.entry (record h.entry { count = h.entry.count + 1 }) h.at (held_counted (h.entry.count + 1) h)
    goes (did.Given h) = goes_set w.entries h.k h.entry (record h.entry { count = h.entry.count - 1 }) h.at (held_counted (h.entry.count - 1) h)
    goes (did.Unlinked l none) =
        goes_set w.entries l.k l.entry (record l.entry { place = place.UnlinkedBy l.pass.party }) l.at (moved l.entry (place.UnlinkedBy l.pass.party) refl (not_freed_linked l.entry.place l.linked))
    goes (did.Freed k x at own) = goes_set w.entries k x (record x { place = place.Freed }) at (moved x place.Freed refl (λ _. refl))
    goes other = goes_same w.entries

  -- an event, as a step
  pub goes_by : (w : World) → Sound tables w → (e : Event) (mid : World) → step tables w e.party e.does ≡ (e.reply, mid) → Goes w.entries mid.entries
  goes_by w sound e mid does = goes w sound e.party (outcome_of tables w e mid does)

  pub sound_by : (w : World) → Sound tables w → (e : Event) (mid : World) → step tables w e.party e.does ≡ (e.reply, mid) → Sound tables mid
  sound_by w sound e mid does = (keeps tables w sound e.party (outcome_of tables w e mid does)).sound

  pub all_sound : (w : World) → Sound tables w → (events : List Event) (v : World) → Leads tables w events v → Sound tables v
  all_sound w sound [] v leads = subst (Sound tables) (sym leads) sound
  all_sound w sound (e ∷ events) v leads = all_sound leads.0 (sound_by w sound e leads.0 leads.1) events v leads.2

  pub stays_gone : (w : World) → Sound tables w → (events : List Event) (v : World) → Leads tables w events v → (k : ℕ) (x : WorldEntry) → At w.entries k x → is_linked x.place ≡ false
      → (y : WorldEntry) × At v.entries k y × (is_linked y.place ≡ false)
  stays_gone w sound [] v leads k x at n = (x, subst (λ (u : World). At u.entries k x) (sym leads) at, n)
  stays_gone w sound (e ∷ events) v leads k x at n =
      let next = goes_by w sound e leads.0 leads.1 k x at in
      stays_gone leads.0 (sound_by w sound e leads.0 leads.1) events v leads.2 k next.0 next.1 (next.2.gone n)

  -- ---- what is freed

  freed_not_own : (party : ℕ) (p : Place) {P : Type 0} → p ≡ place.Freed → is_unlinked_by party p ≡ true → P
  freed_not_own party p f own = absurd (let e : is_unlinked_by party p ≡ false = ap (is_unlinked_by party) f in let c : true ≡ false = sym own ∙ e in cc)

  own_place : (party : ℕ) (p : Place) → is_unlinked_by party p ≡ true → p ≡ place.UnlinkedBy party
  own_place party place.Linked h = absurd (let e : false ≡ true = h in cc)
  own_place party (place.UnlinkedBy other) h = ap place.UnlinkedBy (eqb-true other party h)
  own_place party place.Freed h = absurd (let e : false ≡ true = h in cc)

  -- what is freed isn't freed again
  not_again : (w : World) (party k : ℕ) (mid : World) → Outcome tables w party (Free (suc k)) (reply.Freed, mid) → (x : WorldEntry) → At w.entries k x → x.place ≢ place.Freed
  not_again w party k mid (did.Freed j y at own) x there freed = freed_not_own party y.place (ap (λ (z : WorldEntry). z.place) (at_one w.entries k y x at there) ∙ freed) own

  freed_once : (w : World) → Sound tables w → (events : List Event) (new : World) → Leads tables w events new → (k : ℕ) (x : WorldEntry) → At w.entries k x → x.place ≡ place.Freed
      → AllByRecursion (λ (e : Event). e.does ≡ Free (suc k) → e.reply ≢ reply.Freed) events
  freed_once w sound [] new leads k x at f = tt
  freed_once w sound (e ∷ events) new leads k x at f =
      let by = outcome_of tables w e leads.0 leads.1 in
      let next = goes w sound e.party by k x at in (
        (λ is given. not_again w e.party k leads.0 (subst (λ (s : Step). Outcome tables w e.party s (reply.Freed, leads.0)) is (subst (λ (r : StepReply). Outcome tables w e.party e.does (r, leads.0)) given by)) x at f),
        freed_once leads.0 (sound_by w sound e leads.0 leads.1) events new leads.2 k next.0 next.1 (next.2.freed f),
      )

  freed_by : (w : World) → Sound tables w → (party e : ℕ) (later : List Event) (mid new : World) → Outcome tables w party (Free e) (reply.Freed, mid) → Leads tables mid later new → FreesSoundly w party e later
  freed_by w sound party e later mid new (did.Freed k x at own) leads =
      let freed = record x { place = place.Freed } in
      record {
        entry = x;
        is = at;
        own = own_place party x.place own;
        not_held = sym (sound.table.counted k x at) ∙ unlinked_counts_zero tables w sound party k x at own;
        once = freed_once _ (keeps tables w sound party (did.Freed k x at own)).sound later new leads k freed (at_set_same w.entries k x freed at) refl;
      }

  pub frees_soundly : (w : World) → Sound tables w → (party e : ℕ) (later : List Event) (mid new : World) → step tables w party (Free e) ≡ (reply.Freed, mid) → Leads tables mid later new → FreesSoundly w party e later
  frees_soundly w sound party e later mid new does leads = freed_by w sound party e later mid new (outcome_of tables w (event party (Free e) reply.Freed) mid does) leads
