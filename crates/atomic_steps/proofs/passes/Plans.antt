-- A pass over a bucket's list on its way, step by step: what is still to be asked, and what each own step does to the list.
use Rattle.std.proofs.Common.{◌≡◌, ℕ, ◌+◌, ◌≤◌, ◌≢◌, ◌⊎◌, inl, inr, Bool, true, false, List, [], ◌∷◌, ◌++◌, length, map, reverse, append_assoc, Option, None, Some, refl, sym, ap, ◌∙◌, subst, arith, suc}
use Rattle.std.specs.Prelude.{slice_get, slice_set, nat_lt, ◌==◌, ◌&&◌, ◌||◌, is_none}
use Rattle.std.specs.List.{find, filter, AllByRecursion}
use Rattle.std.specs.Option.{option_map_or}
use Rattle.std.specs.Str.{bytes_eq}
use Rattle.std.proofs.lemmas.Bool.{eqb-true, eq-eqb, and_parts, and_from, or_cases}
use Rattle.std.proofs.lemmas.List.{reverse-append}
use Rattle.std.proofs.lemmas.Option.{none-some}
use Rattle.std.proofs.lemmas.Slice.Eq.{bytes_eq-Decides}
use Rattle.atomic_steps.specs.declared.steps.world_entry.Place.TheVariants as place
use Rattle.atomic_steps.specs.declared.steps.Step.{Step}
use Rattle.atomic_steps.specs.declared.steps.Step.TheVariants.{Add, Link, Unlink, Leave}
use Rattle.atomic_steps.specs.declared.steps.StepReply.{StepReply}
use Rattle.atomic_steps.specs.declared.steps.StepReply.TheVariants as reply
use Rattle.atomic_steps.specs.Steps.{◌>>=◌, only_if, pass_of, is_linked_in, wants, has, add, link, unlink, dying_if_linked, all_looked_at, looked_at_if_linked, replaced, without_party, with_pass, finds_dying, looks_at, decides, last_of, step_if, step}
use Rattle.text_forms.specs.Word.{ticket_of}
use Rattle.atomic_steps.specs.World.{WorldEntry, PartyPass, World, is_linked}
use Rattle.text_forms.specs.Pass as th
use Rattle.atomic_steps.specs.PassSteps.{Item, item, list_of, steps_of_all, end_of, plan_of, Planned, planned, any_reply, is_dying, steps_of, linked_by}
use Rattle.atomic_steps.specs.Sound.{At, SoundPass, SoundWorld}
use Rattle.atomic_steps.proofs.lists.Facts.{implied, has_old, has_new, numbered_all, at_set_cases, at_push_cases, at_one, if_case, find-all, at_set_other, false_is_true}
use Rattle.atomic_steps.proofs.worlds.Kept.{same_text}
use Rattle.atomic_steps.proofs.worlds.Outcomes.{outcome}
use Rattle.atomic_steps.proofs.passes.Parties.{of_party, replaced_same, others_keep, is_party}
use Rattle.atomic_steps.proofs.worlds.Apart.{SameIn, same_in, same_change, others_leave}
use Rattle.atomic_steps.proofs.lists.Items.{numbers, Falls, items, items_same, items_push, items_cut, is_other, filter_reverse}
use Rattle.text_forms.specs.Tables.{Tables, bucket_of}

-- ---- a plan, entry by entry

abbrev pub Told : Type 0
Told = th.PassReply (Unit {0})

abbrev pub is_of_add : Told → Bool
is_of_add (th.added s) = true
is_of_add th.full = true
is_of_add th.died = true
is_of_add th.gone = false
is_of_add th.stays = false

-- what is wanted after an answer: a text that was added or full is wanted no more
abbrev pub still_wanted : Told → Option (List ℕ) → Option (List ℕ)
still_wanted (th.added s) wanted = None
still_wanted th.full wanted = None
still_wanted th.died wanted = wanted
still_wanted th.gone wanted = wanted
still_wanted th.stays wanted = wanted

abbrev pub Asks : Told → Option (List ℕ) → List ℕ → Type 0
Asks (th.added s) wanted text = wanted ≡ Some text
Asks th.full wanted text = wanted ≡ Some text
Asks th.died wanted text = wanted ≡ Some text
Asks th.gone wanted text = wanted ≢ Some text
Asks th.stays wanted text = wanted ≢ Some text

-- what is left of an item and of those after it
abbrev pub keeps : Told → Item → List Item → List Item
keeps (th.added s) e left = e ∷ left
keeps th.full e left = e ∷ left
keeps th.died e left = left
keeps th.gone e left = left
keeps th.stays e left = e ∷ left

abbrev pub leaving : List Planned
leaving = planned Leave any_reply ∷ []

abbrev pub IsEnd : Option (List ℕ) → List Planned → Type 0
IsEnd None plan = plan ≡ leaving
IsEnd (Some text) plan = (room : Bool) × (plan ≡ planned (Link room) any_reply ∷ leaving)

-- the plan is one over these items, after which these are left
abbrev pub IsPlan : Option (List ℕ) → List Item → List Planned → List Item → Type 0
IsPlan wanted [] plan left = IsEnd wanted plan × (left ≡ [])
IsPlan wanted (e ∷ items) plan left = (told : Told) × (rest : List Planned) × (later : List Item)
    × Asks told wanted e.text × (plan ≡ steps_of e.number told ++ rest) × (left ≡ keeps told e later) × IsPlan (still_wanted told wanted) items rest later

end_found : {S : Type 0} (room : Bool) (wanted : Option (List ℕ)) (s : S) → end_of room wanted (th.found s) ≡ leaving
end_found room None s = refl
end_found room (Some text) s = refl

end_full : (S : Type 0) (room : Bool) (wanted : Option (List ℕ)) → end_of {S = S} room wanted th.found_full ≡ leaving
end_full S room None = refl
end_full S room (Some text) = refl

end_absent : (S : Type 0) (room : Bool) (wanted : Option (List ℕ)) → IsEnd wanted (end_of {S = S} room wanted th.absent)
end_absent S room None = refl
end_absent S room (Some text) = (room, refl)

module _ {S : Type 0} where
  -- a pass that wants no text, or no text any more
  plan_without : (es : List Item) (replies : List (th.PassReply S)) → th.Asked None (map (λ (e : Item). e.text) es) replies → IsPlan None es (steps_of_all es replies ++ leaving) (th.kept es replies)
  plan_without [] [] asked = (refl, refl)
  plan_without [] (r ∷ rs) asked = absurd asked
  plan_without (e ∷ es) [] asked = absurd asked
  plan_without (e ∷ es) (th.added s ∷ rs) asked = absurd (none-some e.text asked.0)
  plan_without (e ∷ es) (th.full ∷ rs) asked = absurd (none-some e.text asked.0)
  plan_without (e ∷ es) (th.died ∷ rs) asked = absurd (none-some e.text asked.0)
  plan_without (e ∷ es) (th.gone ∷ rs) asked =
      (th.gone, steps_of_all es rs ++ leaving, th.kept es rs, asked.0, append_assoc (steps_of {S = S} e.number th.gone) (steps_of_all es rs) leaving, refl, plan_without es rs asked.1)
  plan_without (e ∷ es) (th.stays ∷ rs) asked =
      (th.stays, steps_of_all es rs ++ leaving, th.kept es rs, asked.0, append_assoc (steps_of {S = S} e.number th.stays) (steps_of_all es rs) leaving, refl, plan_without es rs asked.1)

  pub plan_is : (room : Bool) (wanted : Option (List ℕ)) (es : List Item) (replies : List (th.PassReply S)) → th.Asked wanted (map (λ (e : Item). e.text) es) replies
      → IsPlan wanted es (plan_of room wanted es replies) (th.kept es replies)
  plan_is room wanted [] [] asked = (end_absent S room wanted, refl)
  plan_is room wanted [] (r ∷ rs) asked = absurd asked
  plan_is room wanted (e ∷ es) [] asked = absurd asked
  plan_is room wanted (e ∷ es) (th.added s ∷ rs) asked = (
    th.added tt,
    steps_of_all es rs ++ leaving,
    th.kept es rs,
    asked.0,
    ap (λ (end : List Planned). (steps_of e.number (th.added s) ++ steps_of_all es rs) ++ end) (end_found room wanted s) ∙ append_assoc (steps_of e.number (th.added s)) (steps_of_all es rs) leaving,
    refl,
    plan_without es rs asked.1,
  )
  plan_is room wanted (e ∷ es) (th.full ∷ rs) asked = (
    th.full,
    steps_of_all es rs ++ leaving,
    th.kept es rs,
    asked.0,
    ap (λ (end : List Planned). (steps_of {S = S} e.number th.full ++ steps_of_all es rs) ++ end) (end_full S room wanted) ∙ append_assoc (steps_of {S = S} e.number th.full) (steps_of_all es rs) leaving,
    refl,
    plan_without es rs asked.1,
  )
  plan_is room wanted (e ∷ es) (th.died ∷ rs) asked =
      (th.died, plan_of room wanted es rs, th.kept es rs, asked.0, append_assoc (steps_of {S = S} e.number th.died) (steps_of_all es rs) (end_of room wanted (th.outcome rs)), refl, plan_is room wanted es rs asked.1)
  plan_is room wanted (e ∷ es) (th.gone ∷ rs) asked =
      (th.gone, plan_of room wanted es rs, th.kept es rs, asked.0, append_assoc (steps_of {S = S} e.number th.gone) (steps_of_all es rs) (end_of room wanted (th.outcome rs)), refl, plan_is room wanted es rs asked.1)
  plan_is room wanted (e ∷ es) (th.stays ∷ rs) asked =
      (th.stays, plan_of room wanted es rs, th.kept es rs, asked.0, append_assoc (steps_of {S = S} e.number th.stays) (steps_of_all es rs) (end_of room wanted (th.outcome rs)), refl, plan_is room wanted es rs asked.1)

-- ---- a pass on its way through the list

-- The numbered entry stands in the bucket, with its text.
pub record Stands (es : List WorldEntry) (bucket : ℕ) (e : Item) : Type 0 where
  pub k : ℕ
  pub entry : WorldEntry
  pub number : e.number ≡ suc k
  pub at : At es k entry
  pub inside : is_linked_in bucket entry ≡ true
  pub text : entry.text ≡ e.text

-- What is still to be asked, and that all else of the bucket was looked at or, where its text is wanted, found dying.
pub record Midway (w : World) (party : ℕ) (pass : PartyPass) (wanted : Option (List ℕ)) (rest : List Item) : Type 0 where
  pub found : pass_of w party ≡ Some pass
  pub wants : pass.wanted ≡ wanted
  pub there : AllByRecursion (Stands w.entries pass.bucket) rest
  pub top : ℕ
  pub falls : Falls top rest
  pub covered : (k : ℕ) (x : WorldEntry) → At w.entries k x → is_linked_in pass.bucket x ≡ true → (has (numbers rest) (suc k) ≡ true) ⊎ (has pass.looked (suc k) ≡ true)
  pub dying : (k : ℕ) (x : WorldEntry) → At w.entries k x → is_linked_in pass.bucket x ≡ true → wanted ≡ Some x.text → (has (numbers rest) (suc k) ≡ true) ⊎ (has pass.dying (suc k) ≡ true)

stand_on : (b : ℕ) (es es' : List WorldEntry) → SameIn b es es' → (rest : List Item) → AllByRecursion (Stands es b) rest → AllByRecursion (Stands es' b) rest
stand_on b es es' same [] all = tt
stand_on b es es' same (e ∷ rest) all =
    let s = all.0 in
    let on = same.forth s.k s.entry s.at s.inside in
    (record { k = s.k; entry = on.0; number = s.number; at = on.1; inside = on.2; text = on.3 ∙ s.text }, stand_on b es es' same rest all.1)

module _ (tables : Tables) where
  -- the world goes on with the same entries in the bucket, and the pass with more that it looked at or found dying
  module _ (w : World) (party : ℕ) (pass : PartyPass) (wanted : Option (List ℕ)) (rest : List Item) (m : Midway w party pass wanted rest) where
    pub goes_on : (v : World) (wanted' : Option (List ℕ)) (looked' dying' : List ℕ) → (let next : PartyPass = record { party = pass.party; bucket = pass.bucket; wanted = wanted'; dying = dying'; looked = looked' } in
        pass_of v party ≡ Some next → SameIn pass.bucket w.entries v.entries
        → ((e : ℕ) → has pass.looked e ≡ true → has looked' e ≡ true) → ((e : ℕ) → has pass.dying e ≡ true → has dying' e ≡ true)
        → ((t : List ℕ) → wanted' ≡ Some t → wanted ≡ Some t) → Midway v party next wanted' rest)
    goes_on v wanted' looked' dying' found same looked dying less = record {
      found = found;
      wants = refl;
      there = stand_on pass.bucket w.entries v.entries same rest m.there;
      top = m.top;
      falls = m.falls;
      covered = λ k y at h.
          let old = same.back k y at h in
          elim (m.covered k old.0 old.1 old.2) [ inl e ↦ inl e | inr e ↦ inr (looked (suc k) e) ];
      dying = λ k y at h t.
          let old = same.back k y at h in
          elim (m.dying k old.0 old.1 old.2 (less old.0.text (t ∙ ap (λ (s : List ℕ). Some s) old.3))) [ inl e ↦ inl e | inr e ↦ inr (dying (suc k) e) ];
    }

    pub others_go : SoundWorld tables w → (q : ℕ) → q ≢ party → (s : Step) → Midway (step tables w q s).1 party pass wanted rest
    others_go held q n s =
        let same = others_leave tables w held party pass m.found q n s in
        record {
          found = others_keep tables w party pass m.found q n (outcome tables w q s);
          wants = m.wants;
          there = stand_on pass.bucket w.entries (step tables w q s).1.entries same rest m.there;
          top = m.top;
          falls = m.falls;
          covered = λ k y at h. let old = same.back k y at h in m.covered k old.0 old.1 old.2;
          dying = λ k y at h t. let old = same.back k y at h in m.dying k old.0 old.1 old.2 (t ∙ ap (λ (s : List ℕ). Some s) old.3);
        }

  -- one entry is done with
  pub passes_on : (w : World) (party : ℕ) (pass : PartyPass) (wanted : Option (List ℕ)) (e : Item) (rest : List Item) → Midway w party pass wanted (e ∷ rest)
      → ((k : ℕ) (x : WorldEntry) → At w.entries k x → is_linked_in pass.bucket x ≡ true → e.number ≡ suc k → has pass.looked (suc k) ≡ true)
      → ((k : ℕ) (x : WorldEntry) → At w.entries k x → is_linked_in pass.bucket x ≡ true → wanted ≡ Some x.text → e.number ≡ suc k → has pass.dying (suc k) ≡ true)
      → Midway w party pass wanted rest
  passes_on w party pass wanted e rest m looked dying = record {
    found = m.found;
    wants = m.wants;
    there = m.there.1;
    top = e.number;
    falls = m.falls.1;
    covered = λ k x at h. elim (m.covered k x at h) [
      | inl i ↦ elim (or_cases (e.number == suc k) (has (numbers rest) (suc k)) i) [ inl j ↦ inr (looked k x at h (eqb-true e.number (suc k) j)) | inr j ↦ inl j ]
      | inr i ↦ inr i
    ];
    dying = λ k x at h t. elim (m.dying k x at h t) [
      | inl i ↦ elim (or_cases (e.number == suc k) (has (numbers rest) (suc k)) i) [ inl j ↦ inr (dying k x at h t (eqb-true e.number (suc k) j)) | inr j ↦ inl j ]
      | inr i ↦ inr i
    ];
  }

  -- ---- the party's own steps

  some_to : {A B : Type 0} (o : Option A) (f : A → Option B) (x : A) → o ≡ Some x → (o >>= f) ≡ f x
  some_to o f x e = ap (λ p. p >>= f) e

  only : {B : Type 0} (b : Bool) (x : B) → b ≡ true → only_if b x ≡ Some x
  only b x e = ap (λ c. only_if c x) e

  module _ (w : World) (held : SoundWorld tables w) (party : ℕ) (pass : PartyPass) (wanted : Option (List ℕ)) (e : Item) (rest : List Item) (m : Midway w party pass wanted (e ∷ rest)) where
    here : Stands w.entries pass.bucket e
    here = m.there.0

    abbrev Same : World → Type 0
    Same v = list_of v pass.bucket ≡ list_of w pass.bucket

    list_same : (es es' : List WorldEntry) → SameIn pass.bucket es es' → reverse (items pass.bucket 1 es) ≡ reverse (items pass.bucket 1 es')
    list_same es es' same = ap reverse (items_same pass.bucket 1 es es' same)

    put : (new : PartyPass) → new.party ≡ pass.party → find (of_party party) (replaced w.passes new) ≡ Some new
    put new same = replaced_same w.passes new pass party (same ∙ is_party tables w party pass m.found) m.found

    wants_it : wanted ≡ Some e.text → wants pass here.entry.text ≡ true
    unfolding here
    wants_it t =
        ap (λ (o : Option (List ℕ)). option_map_or (λ wanted. bytes_eq wanted m.there.0.entry.text) o false) (m.wants ∙ t)
        ∙ (bytes_eq-Decides e.text m.there.0.entry.text).1 (sym m.there.0.text)

    pub add_enabled : wanted ≡ Some e.text → step_if tables w party (Add e.number) ≡ Some (add w pass (suc m.there.0.k) m.there.0.entry)
    unfolding here
    add_enabled t =
        ap (λ (n : ℕ). step_if tables w party (Add n)) m.there.0.number
        ∙ some_to (pass_of w party) _ pass m.found ∙ some_to (slice_get w.entries m.there.0.k) _ m.there.0.entry m.there.0.at
        ∙ only _ _ (and_from (is_linked_in pass.bucket m.there.0.entry) (wants pass m.there.0.entry.text) m.there.0.inside (wants_it t))

    pub unlink_enabled : step_if tables w party (Unlink e.number) ≡ Some (unlink w pass (suc m.there.0.k) m.there.0.entry)
    unlink_enabled =
        ap (λ (n : ℕ). step_if tables w party (Unlink n)) m.there.0.number
        ∙ some_to (pass_of w party) _ pass m.found ∙ some_to (slice_get w.entries m.there.0.k) _ m.there.0.entry m.there.0.at
        ∙ only _ _ m.there.0.inside

    abbrev pub AfterAdd : StepReply × World → Type 0
    AfterAdd o = ((next : PartyPass) × Midway o.1 party next wanted (e ∷ rest) × (next.bucket ≡ pass.bucket) × Same o.1 × (has next.dying e.number ≡ true) × (is_dying o.0 ≡ true))
        ⊎ ((next : PartyPass) × Midway o.1 party next None rest × (next.bucket ≡ pass.bucket) × Same o.1 × (is_dying o.0 ≡ false))

    looked_at : (v : World) (pass' : PartyPass) → pass'.looked ≡ pass.looked ++ suc m.there.0.k ∷ [] → (j : ℕ) → e.number ≡ suc j → has pass'.looked (suc j) ≡ true
    looked_at v pass' is j n = ap (λ (xs : List ℕ). has xs (suc j)) is ∙ has_new pass.looked (suc m.there.0.k) (suc j) (sym m.there.0.number ∙ n)

    -- decided by a look at the entry
    decided : (v : World) → v.passes ≡ replaced w.passes (decides (looks_at pass (suc m.there.0.k))) → SameIn pass.bucket w.entries v.entries → Midway v party (decides (looks_at pass (suc m.there.0.k))) None rest
    decided v ps same =
        let next = decides (looks_at pass (suc m.there.0.k)) in
        passes_on v party next None e rest
        (goes_on w party pass wanted (e ∷ rest) m v None (pass.looked ++ suc m.there.0.k ∷ []) pass.dying (ap (find (of_party party)) ps ∙ put next refl) same
        (λ n h. has_old pass.looked (suc m.there.0.k) n h) (λ n h. h) (λ t h. absurd (none-some t h)))
        (λ j x at h n. looked_at v next refl j n)
        (λ j x at h t n. absurd (none-some x.text t))

    pub after_add : AfterAdd (add w pass (suc m.there.0.k) m.there.0.entry)
    unfolding add
    after_add =
        let k = m.there.0.k in
        let x = m.there.0.entry in
        if_case AfterAdd (x.count == 0) _ _
        (λ z.
        let next = finds_dying pass (suc k) in
        let v = with_pass w next in
        let on : Midway v party next pass.wanted (e ∷ rest) =
        goes_on w party pass wanted (e ∷ rest) m v pass.wanted pass.looked (pass.dying ++ suc k ∷ []) (put next refl) (same_in pass.bucket w.entries)
        (λ n h. h) (λ n h. has_old pass.dying (suc k) n h) (λ t h. sym m.wants ∙ h) in
        inl (next, subst (λ (o : Option (List ℕ)). Midway v party next o (e ∷ rest)) m.wants on, refl, refl, has_new pass.dying (suc k) e.number (sym m.there.0.number), refl))
        (λ z. if_case AfterAdd (nat_lt x.count w.limits.holders) _ _
        (λ r.
        let more : WorldEntry = record x { count = x.count + 1 } in
        let same = same_change pass.bucket w.entries k x more m.there.0.at refl refl refl (λ l. l) (λ i l. l) in
        inr (decides (looks_at pass (suc k)), decided _ refl same, refl, sym (list_same w.entries (slice_set w.entries k more) same), refl))
        (λ r. inr (decides (looks_at pass (suc k)), decided _ refl (same_in pass.bucket w.entries), refl, refl, refl)))

    -- an entry at zero is missing afterwards, and one with a holder stays
    abbrev pub AfterUnlink : StepReply × World → Type 0
    AfterUnlink o = (next : PartyPass) × Midway o.1 party next wanted rest × (next.bucket ≡ pass.bucket)
        × (((o.0 ≡ reply.Unlinked) × (list_of o.1 pass.bucket ≡ filter (is_other e.number) (list_of w pass.bucket)))
        ⊎ ((o.0 ≡ reply.Kept) × Same o.1 × ((m.there.0.entry.count == 0) ≡ false)))

    there_set : (k n : ℕ) (y : WorldEntry) (es : List Item) → n ≤ suc k → Falls n es → AllByRecursion (Stands w.entries pass.bucket) es → AllByRecursion (Stands (slice_set w.entries k y) pass.bucket) es
    there_set k n y [] le falls all = tt
    there_set k n y (x ∷ es) le falls all =
        let s = all.0 in
        let other : s.k ≢ k = (let a = s.number in let b = falls.0 in omega (arith, a, b, le)) in (
          record { k = s.k; entry = s.entry; number = s.number; at = at_set_other w.entries k y s.k s.entry other s.at; inside = s.inside; text = s.text },
          there_set k x.number y es (let b = falls.0 in omega (arith, b, le)) falls.1 all.1,
        )

    pub after_unlink : (wanted ≡ Some e.text → has pass.dying e.number ≡ true) → AfterUnlink (unlink w pass (suc m.there.0.k) m.there.0.entry)
    unfolding unlink
    after_unlink found =
        let k = m.there.0.k in
        let x = m.there.0.entry in
        if_case AfterUnlink (x.count == 0) _ _
        (λ z.
        let y : WorldEntry = record x { place = place.UnlinkedBy pass.party } in
        let number : e.number ≤ suc k = (let n = m.there.0.number in omega (arith, n)) in (
          pass,
          record {
            found = m.found;
            wants = m.wants;
            there = there_set k e.number y rest number m.falls.1 m.there.1;
            top = e.number;
            falls = m.falls.1;
            covered = λ j v at h. elim (at_set_cases w.entries k y j v at) [
              | inl (i, f) ↦ false_is_true (sym (ap (is_linked_in pass.bucket) f) ∙ h)
              | inr (n, old) ↦ elim (m.covered j v old h) [ inl i ↦ inl (not_first j n i) | inr i ↦ inr i ]
            ];
            dying = λ j v at h t. elim (at_set_cases w.entries k y j v at) [
              | inl (i, f) ↦ false_is_true (sym (ap (is_linked_in pass.bucket) f) ∙ h)
              | inr (n, old) ↦ elim (m.dying j v old h t) [ inl i ↦ inl (not_first j n i) | inr i ↦ inr i ]
            ];
          },
          refl,
          inl (
            refl,
            ap reverse (items_cut pass.bucket 1 w.entries k x y m.there.0.at refl) ∙ filter_reverse (is_other (1 + k)) (items pass.bucket 1 w.entries)
                ∙ (let a = m.there.0.number in let n : 1 + k ≡ e.number = omega (arith, a) in ap (λ (i : ℕ). filter (is_other i) (list_of w pass.bucket)) n),
          ),
        ))
        (λ z.
        let next = looks_at pass (suc k) in
        let v = with_pass w next in
        let on : Midway v party next pass.wanted (e ∷ rest) =
        goes_on w party pass wanted (e ∷ rest) m v pass.wanted (pass.looked ++ suc k ∷ []) pass.dying (put next refl) (same_in pass.bucket w.entries)
        (λ n h. has_old pass.looked (suc k) n h) (λ n h. h) (λ t h. sym m.wants ∙ h) in (
          next,
          passes_on v party next wanted e rest (subst (λ (o : Option (List ℕ)). Midway v party next o (e ∷ rest)) m.wants on)
              (λ j u at h n. looked_at v next refl j n)
              (λ j u at h t n.
              let same : u ≡ x = at_one w.entries k u x (subst (λ (i : ℕ). At w.entries i u) (let a = m.there.0.number in let b : j ≡ k = omega (arith, a, n) in b) at) m.there.0.at in
              ap (λ (i : ℕ). has pass.dying i) (sym n) ∙ found (t ∙ ap (λ (q : WorldEntry). Some q.text) same ∙ ap (λ (q : List ℕ). Some q) m.there.0.text)),
          refl,
          inr (refl, refl, z),
        ))
      where
        not_first : (j : ℕ) → j ≢ m.there.0.k → (e.number == suc j || has (numbers rest) (suc j)) ≡ true → has (numbers rest) (suc j) ≡ true
        not_first j n h = elim (or_cases (e.number == suc j) (has (numbers rest) (suc j)) h) [
          | inl i ↦ absurd (let a = eqb-true e.number (suc j) i in let b = m.there.0.number in omega (arith, a, b, n))
          | inr i ↦ i
        ]

  -- ---- the end of the pass

  looked_new : (bucket : ℕ) (looked : List ℕ) (es : List WorldEntry) (new : WorldEntry) → ((k : ℕ) (x : WorldEntry) → At es k x → is_linked_in bucket x ≡ true → has looked (suc k) ≡ true)
      → (k : ℕ) (x : WorldEntry) → At (es ++ new ∷ []) k x → is_linked_in bucket x ≡ true → has (looked ++ (length es + 1) ∷ []) (suc k) ≡ true
  looked_new bucket looked es new all k x at h = elim (at_push_cases es new k x at) [
    | inl old ↦ has_old looked (length es + 1) (suc k) (all k x old h)
    | inr (i, f) ↦ (let number : length es + 1 ≡ suc k = omega (arith, i) in has_new looked (length es + 1) (suc k) number)
  ]

  module _ (w : World) (held : SoundWorld tables w) (party : ℕ) (pass : PartyPass) where
    none_left : (n : ℕ) {P : Type 0} → has [] n ≡ true → P
    none_left n h = false_is_true h

    pub leave_enabled : Midway w party pass None [] → step_if tables w party Leave ≡ Some (reply.Left, record w { passes = without_party w.passes party })
    leave_enabled m =
        some_to (pass_of w party) _ pass m.found
        ∙ only _ _ (and_from (is_none pass.wanted) (all_looked_at w pass) (ap is_none m.wants)
        (numbered_all (looked_at_if_linked pass.bucket pass.looked) w.entries 1 (λ k x at.
        implied (is_linked_in pass.bucket x) (has pass.looked (1 + k)) (λ h.
        elim (m.covered k x at h) [
          | inl i ↦ none_left (suc k) i
          | inr i ↦ (let e : suc k ≡ 1 + k = omega arith in sym (ap (has pass.looked) e) ∙ i)
        ]))))

    module _ (text : List ℕ) (m : Midway w party pass (Some text) []) where
      pub link_enabled : (room : Bool) → step_if tables w party (Link room) ≡ Some (link w pass room text)
      link_enabled room =
          some_to (pass_of w party) _ pass m.found ∙ some_to pass.wanted _ text m.wants
          ∙ only _ _ (numbered_all (dying_if_linked pass.dying text) w.entries 1 (λ k x at.
          implied (is_linked x.place && bytes_eq x.text text) (has pass.dying (1 + k)) (λ h.
          let parts = and_parts (is_linked x.place) (bytes_eq x.text text) h in
          let is : x.text ≡ text = same_text x.text text parts.1 in
          let right : pass.bucket ≡ bucket_of tables (length w.lasts) text = (find-all (of_party party) (SoundPass tables (length w.lasts) w.entries) w.passes pass m.found held.sound.each).right text m.wants in
          let inside : is_linked_in pass.bucket x ≡ true = and_from (is_linked x.place) (x.bucket == pass.bucket) parts.0 (eq-eqb x.bucket pass.bucket (held.placed k x at ∙ ap (bucket_of tables (length w.lasts)) is ∙ sym right)) in
          elim (m.dying k x at inside (ap (λ (t : List ℕ). Some t) (sym is))) [
            | inl i ↦ none_left (suc k) i
            | inr i ↦ (let e : suc k ≡ 1 + k = omega arith in sym (ap (has pass.dying) e) ∙ i)
          ])))

      abbrev pub AfterLink : StepReply × World → Type 0
      AfterLink o = (next : PartyPass) × Midway o.1 party next None [] × (next.bucket ≡ pass.bucket) × (list_of o.1 pass.bucket ≡ linked_by (Some text) o.0 ++ list_of w pass.bucket)

      put_last : (new : PartyPass) → new.party ≡ pass.party → find (of_party party) (replaced w.passes new) ≡ Some new
      put_last new same = replaced_same w.passes new pass party (same ∙ is_party tables w party pass m.found) m.found

      pub after_link : (room : Bool) → AfterLink (link w pass room text)
      unfolding link
      after_link room =
          let undone : Midway (with_pass w (decides pass)) party (decides pass) None [] =
          goes_on w party pass (Some text) [] m (with_pass w (decides pass)) None pass.looked pass.dying (put_last (decides pass) refl) (same_in pass.bucket w.entries) (λ n h. h) (λ n h. h) (λ t h. absurd (none-some t h)) in
          if_case AfterLink (nat_lt (last_of w pass.bucket) w.limits.serials) _ _
          (λ r. if_case AfterLink room _ _
          (λ q.
          let next = decides (looks_at pass (length w.entries + 1)) in
          let new : WorldEntry = record { text = text; bucket = pass.bucket; ticket = ticket_of (last_of w pass.bucket + 1) pass.bucket; count = 1; place = place.Linked } in (
            next,
            record {
              found = put_last next refl;
              wants = refl;
              there = tt;
              top = 0;
              falls = tt;
              covered = λ k x at h. inr (looked_new pass.bucket pass.looked w.entries new (λ j y a i. elim (m.covered j y a i) [ inl q ↦ none_left (suc j) q | inr q ↦ q ]) k x at h);
              dying = λ k x at h t. absurd (none-some x.text t);
            },
            refl,
            ap reverse (items_push pass.bucket 1 w.entries new (eq-eqb pass.bucket pass.bucket refl)) ∙ reverse-append (items pass.bucket 1 w.entries) (item (1 + length w.entries, new) ∷ [])
                ∙ (let n : 1 + length w.entries ≡ length w.entries + 1 = omega arith in ap (λ (i : ℕ). item (i, new) ∷ list_of w pass.bucket) n),
          ))
          (λ q. (decides pass, undone, refl, refl)))
          (λ r. (decides pass, undone, refl, refl))
