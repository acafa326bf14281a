-- What a step does: a case for each reply, with what is known where it is given, and the world that is left. What is shown in
-- each of these cases holds of every step.
use Rattle.std.proofs.Common.{◌≡◌, ℕ, ◌+◌, ◌-◌, ◌<◌, ◌≤◌, Bool, true, false, List, [], ◌∷◌, ◌++◌, length, Option, None, Some, refl, ap, subst, arith, zero, suc}
use Rattle.std.specs.Prelude.{slice_get, slice_set, nat_lt, ◌==◌, ◌&&◌, is_none}
use Rattle.std.specs.Option.{option_map_or}
use Rattle.std.specs.Str.{bytes_eq}
use Rattle.std.specs.String.{string_bytes}
use Rattle.std.proofs.lemmas.Bool.{and_parts, eqb-true, ltb-true, ltb-false}
use Rattle.std.proofs.lemmas.Nat.{mod_below}
use Rattle.std.proofs.lemmas.Option.{none-some}
use Rattle.atomic_steps.specs.declared.steps.world_entry.Place.TheVariants as place
use Rattle.atomic_steps.specs.declared.steps.Step.{Step}
use Rattle.atomic_steps.specs.declared.steps.Step.TheVariants.{TakeIntern, TakeSweep, Add, Link, Clone, Give, Unlink, Free, Leave}
use Rattle.atomic_steps.specs.declared.steps.StepReply.{StepReply}
use Rattle.atomic_steps.specs.declared.steps.StepReply.TheVariants as reply
use Rattle.text_forms.specs.Tables.{Tables, entry_hash, bucket_of, is_dynamic}
use Rattle.text_forms.specs.Word.{ticket_of}
use Rattle.atomic_steps.specs.World.{WorldEntry, PartyPass, World, is_linked, is_unlinked_by}
use Rattle.atomic_steps.specs.Steps.{pass_of, is_free, last_of, is_linked_in, wants, has, with_entry, with_pass, with_ticket, with_one, without_one, replaced, without_party, finds_dying, looks_at, decides, take_bucket, add, link, clone, give, unlink, all_found_dying, all_looked_at, step}
use Rattle.atomic_steps.specs.Runs.{Event, call_of}
use Rattle.atomic_steps.specs.Theorem.{text_taken, bucket_taken}
use Rattle.atomic_steps.specs.Sound.{At}
use Rattle.atomic_steps.proofs.lists.Facts.{bind_case, guard_case, if_case, false_is_true}
use Rattle.atomic_steps.proofs.worlds.Kept.{same_text}

-- ---- what is known where a step is enabled

-- An idle party takes a bucket that is free.
pub record Takes (tables : Tables) (w : World) (party : ℕ) (take : Step) : Type 0 where
  pub bucket : ℕ
  pub is : bucket_taken tables (length w.lasts) take ≡ Some bucket
  pub below : 0 < length w.lasts → bucket < length w.lasts
  pub right : (text : List ℕ) → text_taken take ≡ Some text → bucket ≡ bucket_of tables (length w.lasts) text
  pub idle : is_none (pass_of w party) ≡ true
  pub free : is_free w bucket ≡ true
  pub silent : call_of w party take reply.Taken ≡ []

-- A party looks at a linked entry of the bucket that it holds.
pub record Looks (w : World) (party : ℕ) : Type 0 where
  pub k : ℕ
  pub pass : PartyPass
  pub entry : WorldEntry
  pub found : pass_of w party ≡ Some pass
  pub at : At w.entries k entry
  pub linked : is_linked entry.place ≡ true
  pub inside : entry.bucket ≡ pass.bucket

-- A party wants to link a text, and found each linked entry of it dying.
pub record MayLink (w : World) (party : ℕ) : Type 0 where
  pub pass : PartyPass
  pub text : List ℕ
  pub found : pass_of w party ≡ Some pass
  pub wanted : pass.wanted ≡ Some text
  pub all : all_found_dying w pass text ≡ true

-- An entry's ticket is held.
pub record Holds (w : World) : Type 0 where
  pub k : ℕ
  pub entry : WorldEntry
  pub at : At w.entries k entry
  pub held : has w.bag entry.ticket ≡ true

-- ---- the cases

-- the new entry, and the world with it
abbrev pub new_entry : (w : World) (party : ℕ) → MayLink w party → WorldEntry
new_entry w party m = record { text = m.text; bucket = m.pass.bucket; ticket = ticket_of (last_of w m.pass.bucket + 1) m.pass.bucket; count = 1; place = place.Linked }

abbrev pub with_new : (w : World) (party : ℕ) → MayLink w party → World
with_new w party m = record {
  limits = w.limits;
  lasts = slice_set w.lasts m.pass.bucket (last_of w m.pass.bucket + 1);
  entries = w.entries ++ new_entry w party m ∷ [];
  passes = replaced w.passes (decides (looks_at m.pass (length w.entries + 1)));
  bag = with_one (new_entry w party m).ticket w.bag;
}

-- Add and Clone both reply Full at the limit of holders: Not_cloned is Clone's.
pub data Outcome (tables : Tables) (w : World) (party : ℕ) : Step → StepReply × World → Type 0 where
  Refused : {s : Step} → call_of w party s reply.No ≡ [] → Outcome tables w party s (reply.No, w)
  Taken : {take : Step} (t : Takes tables w party take)
      → Outcome tables w party take (reply.Taken, record w { passes = w.passes ++ record { party = party; bucket = t.bucket; wanted = text_taken take; dying = []; looked = [] } ∷ [] })
  Dying : (l : Looks w party) → l.pass.wanted ≡ Some l.entry.text → l.entry.count ≡ 0 → Outcome tables w party (Add (suc l.k)) (reply.Dying, with_pass w (finds_dying l.pass (suc l.k)))
  Added : (l : Looks w party) → l.pass.wanted ≡ Some l.entry.text → 0 < l.entry.count → l.entry.count < w.limits.holders
      → Outcome tables w party (Add (suc l.k)) (
        reply.Added l.entry.ticket (l.entry.count + 1),
        with_ticket (with_pass (with_entry w (suc l.k) (record l.entry { count = l.entry.count + 1 })) (decides (looks_at l.pass (suc l.k)))) l.entry.ticket,
      )
  Full : (l : Looks w party) → l.pass.wanted ≡ Some l.entry.text → 0 < l.entry.count → w.limits.holders ≤ l.entry.count
      → Outcome tables w party (Add (suc l.k)) (reply.Full, with_pass w (decides (looks_at l.pass (suc l.k))))
  Linked : {room : Bool} (m : MayLink w party) → last_of w m.pass.bucket < w.limits.serials
      → Outcome tables w party (Link room) (reply.Linked (length w.entries + 1) (new_entry w party m).ticket, with_new w party m)
  Memory : {room : Bool} (m : MayLink w party) → last_of w m.pass.bucket < w.limits.serials → Outcome tables w party (Link room) (reply.Memory, with_pass w (decides m.pass))
  Spent : {room : Bool} (m : MayLink w party) → w.limits.serials ≤ last_of w m.pass.bucket → Outcome tables w party (Link room) (reply.Spent, with_pass w (decides m.pass))
  Cloned : (h : Holds w) → h.entry.count < w.limits.holders
      → Outcome tables w party (Clone (suc h.k)) (reply.Cloned (h.entry.count + 1), with_ticket (with_entry w (suc h.k) (record h.entry { count = h.entry.count + 1 })) h.entry.ticket)
  Not_cloned : (h : Holds w) → w.limits.holders ≤ h.entry.count → Outcome tables w party (Clone (suc h.k)) (reply.Full, w)
  Given : (h : Holds w)
      → Outcome tables w party (Give (suc h.k)) (reply.Given (h.entry.count - 1), record (with_entry w (suc h.k) (record h.entry { count = h.entry.count - 1 })) { bag = without_one h.entry.ticket w.bag })
  Unlinked : (l : Looks w party) → l.entry.count ≡ 0 → Outcome tables w party (Unlink (suc l.k)) (reply.Unlinked, with_entry w (suc l.k) (record l.entry { place = place.UnlinkedBy l.pass.party }))
  Kept : (l : Looks w party) → 0 < l.entry.count → Outcome tables w party (Unlink (suc l.k)) (reply.Kept, with_pass w (looks_at l.pass (suc l.k)))
  Freed : (k : ℕ) (entry : WorldEntry) → At w.entries k entry → is_unlinked_by party entry.place ≡ true
      → Outcome tables w party (Free (suc k)) (reply.Freed, with_entry w (suc k) (record entry { place = place.Freed }))
  Left : (pass : PartyPass) → pass_of w party ≡ Some pass → is_none pass.wanted ≡ true → all_looked_at w pass ≡ true
      → Outcome tables w party Leave (reply.Left, record w { passes = without_party w.passes party })

above : (n : ℕ) → (n == 0) ≡ false → 0 < n
above zero e = absurd (let f : true ≡ false = e in cc)
above (suc n) e = omega arith

wants_is : (o : Option (List ℕ)) (text : List ℕ) → option_map_or (λ wanted. bytes_eq wanted text) o false ≡ true → o ≡ Some text
wants_is None text h = false_is_true h
wants_is (Some wanted) text h = ap Some (same_text wanted text h)

module _ (tables : Tables) (w : World) (party : ℕ) where
  abbrev Of : Step → StepReply × World → Type 0
  Of s o = Outcome tables w party s o

  add_outcome : (l : Looks w party) → l.pass.wanted ≡ Some l.entry.text → Of (Add (suc l.k)) (add w l.pass (suc l.k) l.entry)
  unfolding add
  add_outcome l wanted =
      if_case (Of (Add (suc l.k))) (l.entry.count == 0) _ _ (λ e. Dying l wanted (eqb-true l.entry.count 0 e))
      (λ some. if_case (Of (Add (suc l.k))) (nat_lt l.entry.count w.limits.holders) _ _
      (λ room. Added l wanted (above l.entry.count some) (ltb-true l.entry.count w.limits.holders room))
      (λ full. Full l wanted (above l.entry.count some) (ltb-false l.entry.count w.limits.holders full)))

  link_outcome : (room : Bool) (m : MayLink w party) → Of (Link room) (link w m.pass room m.text)
  unfolding link
  link_outcome room m =
      if_case (Of (Link room)) (nat_lt (last_of w m.pass.bucket) w.limits.serials) _ _
      (λ left. if_case (Of (Link room)) room _ _
      (λ _. Linked m (ltb-true (last_of w m.pass.bucket) w.limits.serials left))
      (λ _. Memory m (ltb-true (last_of w m.pass.bucket) w.limits.serials left)))
      (λ spent. Spent m (ltb-false (last_of w m.pass.bucket) w.limits.serials spent))

  abbrev looks : (k : ℕ) (pass : PartyPass) (entry : WorldEntry) → pass_of w party ≡ Some pass → At w.entries k entry → is_linked_in pass.bucket entry ≡ true → Looks w party
  looks k pass entry found at inside =
      let parts = and_parts (is_linked entry.place) (entry.bucket == pass.bucket) inside in
      record { k = k; pass = pass; entry = entry; found = found; at = at; linked = parts.0; inside = eqb-true entry.bucket pass.bucket parts.1 }

  pub outcome : (s : Step) → Of s (step tables w party s)
  unfolding take_bucket clone give unlink
  outcome (TakeIntern t) =
      guard_case (Of (TakeIntern t)) (is_none (pass_of w party) && is_dynamic tables (string_bytes t) && _) _ _ (Refused refl) (λ ok.
      let parts = and_parts (is_none (pass_of w party) && is_dynamic tables (string_bytes t)) _ ok in
      Taken (record {
        bucket = bucket_of tables (length w.lasts) (string_bytes t);
        is = refl;
        below = λ some. mod_below (entry_hash tables (string_bytes t)) (length w.lasts) some;
        right = λ text e. let same : string_bytes t ≡ text = cc in ap (bucket_of tables (length w.lasts)) same;
        idle = (and_parts (is_none (pass_of w party)) (is_dynamic tables (string_bytes t)) parts.0).0;
        free = parts.1;
        silent = refl;
      }))
  outcome (TakeSweep bucket) =
      guard_case (Of (TakeSweep bucket)) (is_none (pass_of w party) && nat_lt bucket (length w.lasts) && _) _ _ (Refused refl) (λ ok.
      let parts = and_parts (is_none (pass_of w party) && nat_lt bucket (length w.lasts)) _ ok in
      let first = and_parts (is_none (pass_of w party)) (nat_lt bucket (length w.lasts)) parts.0 in
      Taken (record {
        bucket = bucket;
        is = refl;
        below = λ some. ltb-true bucket (length w.lasts) first.1;
        right = λ text e. absurd (none-some text e);
        idle = first.0;
        free = parts.1;
        silent = refl;
      }))
  outcome (Add zero) = bind_case (Of (Add zero)) (pass_of w party) _ _ (Refused refl) (λ pass p. Refused refl)
  outcome (Add (suc k)) =
      bind_case (Of (Add (suc k))) (pass_of w party) _ _ (Refused refl) (λ pass p.
      bind_case (Of (Add (suc k))) (slice_get w.entries k) _ _ (Refused refl) (λ x at.
      guard_case (Of (Add (suc k))) (is_linked_in pass.bucket x && wants pass x.text) _ _ (Refused refl) (λ ok.
      let parts = and_parts (is_linked_in pass.bucket x) (wants pass x.text) ok in
      add_outcome (looks k pass x p at parts.0) (wants_is pass.wanted x.text parts.1))))
  outcome (Link room) =
      bind_case (Of (Link room)) (pass_of w party) _ _ (Refused refl) (λ pass p.
      bind_case (Of (Link room)) pass.wanted _ _ (Refused refl) (λ text wanted.
      guard_case (Of (Link room)) (all_found_dying w pass text) _ _ (Refused refl) (λ all.
      link_outcome room (record { pass = pass; text = text; found = p; wanted = wanted; all = all }))))
  outcome (Clone zero) = Refused refl
  outcome (Clone (suc k)) =
      bind_case (Of (Clone (suc k))) (slice_get w.entries k) _ _ (Refused refl) (λ x at.
      guard_case (Of (Clone (suc k))) (has w.bag x.ticket) _ _ (Refused refl) (λ held.
      let h : Holds w = record { k = k; entry = x; at = at; held = held } in
      if_case (Of (Clone (suc k))) (nat_lt x.count w.limits.holders) _ _ (λ room. Cloned h (ltb-true x.count w.limits.holders room)) (λ full. Not_cloned h (ltb-false x.count w.limits.holders full))))
  outcome (Give zero) = Refused refl
  outcome (Give (suc k)) =
      bind_case (Of (Give (suc k))) (slice_get w.entries k) _ _ (Refused refl) (λ x at.
      guard_case (Of (Give (suc k))) (has w.bag x.ticket) _ _ (Refused refl) (λ held. Given (record { k = k; entry = x; at = at; held = held })))
  outcome (Unlink zero) = bind_case (Of (Unlink zero)) (pass_of w party) _ _ (Refused refl) (λ pass p. Refused refl)
  outcome (Unlink (suc k)) =
      bind_case (Of (Unlink (suc k))) (pass_of w party) _ _ (Refused refl) (λ pass p.
      bind_case (Of (Unlink (suc k))) (slice_get w.entries k) _ _ (Refused refl) (λ x at.
      guard_case (Of (Unlink (suc k))) (is_linked_in pass.bucket x) _ _ (Refused refl) (λ ok.
      let l = looks k pass x p at ok in
      if_case (Of (Unlink (suc k))) (x.count == 0) _ _ (λ e. Unlinked l (eqb-true x.count 0 e)) (λ some. Kept l (above x.count some)))))
  outcome (Free zero) = Refused refl
  outcome (Free (suc k)) =
      bind_case (Of (Free (suc k))) (slice_get w.entries k) _ _ (Refused refl) (λ x at. guard_case (Of (Free (suc k))) (is_unlinked_by party x.place) _ _ (Refused refl) (λ own. Freed k x at own))
  outcome Leave =
      bind_case (Of Leave) (pass_of w party) _ _ (Refused refl) (λ pass p.
      guard_case (Of Leave) (is_none pass.wanted && all_looked_at w pass) _ _ (Refused refl) (λ ok.
      let parts = and_parts (is_none pass.wanted) (all_looked_at w pass) ok in Left pass p parts.0 parts.1))

-- an event, as a step
pub outcome_of : (tables : Tables) (w : World) (e : Event) (mid : World) → step tables w e.party e.does ≡ (e.reply, mid) → Outcome tables w e.party e.does (e.reply, mid)
outcome_of tables w e mid does = subst (Outcome tables w e.party e.does) does (outcome tables w e.party e.does)

-- ---- what becomes of the passes

pub data PassesGo (w : World) (party : ℕ) (passes : List PartyPass) : Type 0 where
  As_they_are : passes ≡ w.passes → PassesGo w party passes
  One_more : (new : PartyPass) → new.party ≡ party → is_none (pass_of w party) ≡ true → is_free w new.bucket ≡ true → passes ≡ w.passes ++ new ∷ [] → PassesGo w party passes
  Next : (old new : PartyPass) → pass_of w party ≡ Some old → new.party ≡ old.party → new.bucket ≡ old.bucket → passes ≡ replaced w.passes new → PassesGo w party passes
  One_less : passes ≡ without_party w.passes party → PassesGo w party passes

pub passes_go : (tables : Tables) (w : World) (party : ℕ) {s : Step} {o : StepReply × World} → Outcome tables w party s o → PassesGo w party o.1.passes
passes_go tables w party (Taken t) = One_more _ refl t.idle t.free refl
passes_go tables w party (Dying l wanted none) = Next l.pass (finds_dying l.pass (suc l.k)) l.found refl refl refl
passes_go tables w party (Added l wanted some room) = Next l.pass (decides (looks_at l.pass (suc l.k))) l.found refl refl refl
passes_go tables w party (Full l wanted some full) = Next l.pass (decides (looks_at l.pass (suc l.k))) l.found refl refl refl
passes_go tables w party (Linked m left) = Next m.pass (decides (looks_at m.pass (length w.entries + 1))) m.found refl refl refl
passes_go tables w party (Memory m left) = Next m.pass (decides m.pass) m.found refl refl refl
passes_go tables w party (Spent m spent) = Next m.pass (decides m.pass) m.found refl refl refl
passes_go tables w party (Kept l some) = Next l.pass (looks_at l.pass (suc l.k)) l.found refl refl refl
passes_go tables w party (Left pass found decided all) = One_less refl
passes_go tables w party other = As_they_are refl
