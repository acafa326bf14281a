-- Entries at zero go with the next pass over their bucket.
use Rattle.std.proofs.Common.{◌≡◌, ℕ, ◌+◌, ◌⊎◌, inl, inr, Bool, true, false, not, List, [], ◌∷◌, ◌++◌, length, Option, None, Some, refl, sym, ap, ◌∙◌, subst, arith, zero, suc}
use Rattle.std.specs.Prelude.{◌==◌, ◌&&◌}
use Rattle.std.proofs.lemmas.Bool.{eqb-true, eq-eqb, cases_eq, and_parts, or_cases, false_from_ne_true}
use Rattle.atomic_steps.specs.declared.steps.Step.{Step}
use Rattle.atomic_steps.specs.declared.steps.Step.TheVariants.{Leave}
use Rattle.atomic_steps.specs.declared.steps.StepReply.TheVariants as reply
use Rattle.atomic_steps.specs.World.{WorldEntry, PartyPass, World, is_linked}
use Rattle.atomic_steps.specs.Steps.{pass_of, is_linked_in, has, all_looked_at, looked_at_if_linked, step}
use Rattle.atomic_steps.specs.Runs.{Event, Leads}
use Rattle.atomic_steps.specs.Theorem.{ZerosGo, event, bucket_taken}
use Rattle.atomic_steps.specs.Sound.{At, Sound}
use Rattle.atomic_steps.proofs.lists.Facts.{numbered_at}
use Rattle.atomic_steps.proofs.worlds.Entries.{Evolves, goes_by, sound_by, all_sound}
use Rattle.atomic_steps.proofs.passes.Parties.{own_event, other_event, took_event, leads-append}
use Rattle.text_forms.specs.Tables.{Tables}

-- The party's pass is over this bucket, and hasn't looked at the entry.
pub record Unseen (w : World) (party bucket k : ℕ) : Type 0 where
  pub pass : PartyPass
  pub found : pass_of w party ≡ Some pass
  pub over : pass.bucket ≡ bucket
  pub not_looked : has pass.looked (suc k) ≡ false

-- An entry of the bucket at zero, that is unlinked or unseen.
pub record AtZero (w : World) (party bucket k : ℕ) : Type 0 where
  pub entry : WorldEntry
  pub at : At w.entries k entry
  pub zero_now : entry.count ≡ 0
  pub right : entry.bucket ≡ bucket
  pub goes : (is_linked entry.place ≡ false) ⊎ Unseen w party bucket k

not_true : (b : Bool) → not b ≡ true → b ≡ false
not_true true h = absurd (let e : false ≡ true = h in cc)
not_true false h = refl

both : (a b : Bool) → (a && b) ≡ false → b ≡ true → a ≡ false
both true b h t = absurd (let e : true ≡ false = sym t ∙ h in cc)
both false b h t = refl

module _ (tables : Tables) where
  -- A party that leaves has looked at each linked entry.
  seen_all : (w : World) (party bucket k : ℕ) (u : Unseen w party bucket k) (x : WorldEntry) → At w.entries k x → x.bucket ≡ bucket → all_looked_at w u.pass ≡ true → is_linked x.place ≡ false
  seen_all w party bucket k u x at right all =
      let test = numbered_at (looked_at_if_linked u.pass.bucket u.pass.looked) w.entries 1 k x all at in
      let number : 1 + k ≡ suc k = omega arith in
      let not_in : has u.pass.looked (1 + k) ≡ false = ap (has u.pass.looked) number ∙ u.not_looked in
      elim (or_cases (not (is_linked_in u.pass.bucket x)) (has u.pass.looked (1 + k)) test) [
        | inl e ↦ both (is_linked x.place) (x.bucket == u.pass.bucket) (not_true (is_linked_in u.pass.bucket x) e) (eq-eqb x.bucket u.pass.bucket (right ∙ sym u.over))
        | inr e ↦ absurd (let clash : true ≡ false = sym e ∙ not_in in cc)
      ]

  module _ (w : World) (sound : Sound tables w) (party bucket k : ℕ) (z : AtZero w party bucket k) (e : Event) (mid : World) (does : step tables w e.party e.does ≡ (e.reply, mid)) where
    later : (y : WorldEntry) × At mid.entries k y × Evolves z.entry y
    later = goes_by tables w sound e mid does k z.entry z.at

    gone_now : is_linked z.entry.place ≡ false → AtZero mid party bucket k
    gone_now n = record { entry = later.0; at = later.1; zero_now = later.2.dead z.zero_now; right = later.2.bucket ∙ z.right; goes = inl (later.2.gone n) }

    unseen_now : Unseen mid party bucket k → AtZero mid party bucket k
    unseen_now u = record { entry = later.0; at = later.1; zero_now = later.2.dead z.zero_now; right = later.2.bucket ∙ z.right; goes = inr u }

    pub zero_step : AtZero mid party bucket k
    zero_step = elim z.goes [
      | inl n ↦ gone_now n
      | inr u ↦ elim (cases_eq e.party party) [
        | inl is ↦ elim (own_event tables w party u.pass u.found e mid is does) [
          | inl on ↦ unseen_now (record {
            pass = on.next;
            found = on.found;
            over = on.bucket ∙ u.over;
            not_looked = false_from_ne_true (has on.next.looked (suc k)) (λ h. let old = on.looked k z.entry z.at z.zero_now h in let clash : true ≡ false = sym old ∙ u.not_looked in absurd cc);
          })
          | inr out ↦ gone_now (seen_all w party bucket k u z.entry z.at z.right out.all)
        ]
        | inr n ↦ unseen_now (record { pass = u.pass; found = other_event tables w party u.pass u.found e mid n does; over = u.over; not_looked = u.not_looked })
      ]
    ]

    -- once it has left, the entry is unlinked
    pub zero_left : e.party ≡ party → e.reply ≡ reply.Left → (y : WorldEntry) × At mid.entries k y × (is_linked y.place ≡ false)
    zero_left is given = elim z.goes [
      | inl n ↦ (later.0, later.1, later.2.gone n)
      | inr u ↦ elim (own_event tables w party u.pass u.found e mid is does) [
        | inl on ↦ absurd (on.stays given)
        | inr out ↦ (later.0, later.1, later.2.gone (seen_all w party bucket k u z.entry z.at z.right out.all))
      ]
    ]

  pub zero_all : (w : World) → Sound tables w → (party bucket k : ℕ) → AtZero w party bucket k → (events : List Event) (v : World) → Leads tables w events v → AtZero v party bucket k
  zero_all w sound party bucket k z [] v leads = subst (λ (u : World). AtZero u party bucket k) (sym leads) z
  zero_all w sound party bucket k z (e ∷ events) v leads =
      zero_all leads.0 (sound_by tables w sound e leads.0 leads.1) party bucket k (zero_step w sound party bucket k z e leads.0 leads.1) events v leads.2

  -- the bucket was just taken
  pub zero_taken : (w : World) (party bucket : ℕ) (take : Step) (mid : World) → bucket_taken tables (length w.lasts) take ≡ Some bucket → step tables w party take ≡ (reply.Taken, mid)
      → (k : ℕ) (x : WorldEntry) → At mid.entries k x → x.count ≡ 0 → x.bucket ≡ bucket → AtZero mid party bucket k
  zero_taken w party bucket take mid b does k x at z right =
      let t = took_event tables w party take mid does in
      let same : Some t.pass.bucket ≡ Some bucket = sym t.bucket ∙ b in
      record {
        entry = x;
        at = at;
        zero_now = z;
        right = right;
        goes = inr (record { pass = t.pass; found = t.found; over = cc; not_looked = ap (λ (xs : List ℕ). has xs (suc k)) t.looked });
      }

  -- from the taking to a leaving
  pub zeros_gone : (w : World) → Sound tables w → (party bucket : ℕ) (take : Step) (middle : List Event) (v : World) → bucket_taken tables (length w.lasts) take ≡ Some bucket
      → Leads tables w (event party take reply.Taken ∷ middle ++ event party Leave reply.Left ∷ []) v
      → (k : ℕ) (x : WorldEntry) → At w.entries k x → x.bucket ≡ bucket → x.count ≡ 0 → (y : WorldEntry) × At v.entries k y × (is_linked y.place ≡ false)
  zeros_gone w sound party bucket take middle v b leads k x at right z =
      let mid = leads.0 in
      let t = took_event tables w party take mid leads.1 in
      let sound' = sound_by tables w sound (event party take reply.Taken) mid leads.1 in
      let now : At mid.entries k x = subst (λ (es : List WorldEntry). At es k x) (sym t.entries) at in
      let parts = leads-append tables mid v middle (event party Leave reply.Left ∷ []) leads.2 in
      let sound'' : Sound tables parts.0 = all_sound tables mid sound' middle parts.0 parts.1 in
      let zero_now = zero_all mid sound' party bucket k (zero_taken w party bucket take mid b leads.1 k x now z right) middle parts.0 parts.1 in
      let end : parts.2.0 ≡ v = sym parts.2.2 in
      let out = zero_left parts.0 sound'' party bucket k zero_now (event party Leave reply.Left) parts.2.0 parts.2.1 refl refl in
      (out.0, subst (λ (u : World). At u.entries k out.0) end out.1, out.2)

  pub zeros_go_all : (w : World) → Sound tables w → (party bucket : ℕ) (take : Step) (middle : List Event) (v : World) → bucket_taken tables (length w.lasts) take ≡ Some bucket
      → Leads tables w (event party take reply.Taken ∷ middle ++ event party Leave reply.Left ∷ []) v → ZerosGo w v bucket
  zeros_go_all w sound party bucket take middle v b leads zero x at linked z = absurd (let e : ◌≡◌ {A = Option WorldEntry} None (Some x) = at in cc)
  zeros_go_all w sound party bucket take middle v b leads (suc k) x at linked z =
      let right : x.bucket ≡ bucket = eqb-true x.bucket bucket (and_parts (is_linked x.place) (x.bucket == bucket) linked).1 in
      zeros_gone w sound party bucket take middle v b leads k x at right z
