-- Parties don't share a bucket, and an entry stands in its text's bucket.
use Rattle.std.proofs.Common.{◌≡◌, ℕ, ◌+◌, ◌-◌, ◌≢◌, ◌⊎◌, inl, inr, Bool, true, false, cond, not, List, [], ◌∷◌, ◌++◌, length, Option, None, Some, refl, sym, ap, ◌∙◌, subst}
use Rattle.std.specs.Prelude.{slice_set, ◌==◌, is_none}
use Rattle.std.specs.List.{find, list_all, AllByRecursion}
use Rattle.std.proofs.lemmas.Bool.{eqb-true, eq-eqb, cases_eq, and_parts, and_from}
use Rattle.atomic_steps.specs.declared.steps.world_entry.Place.TheVariants as place
use Rattle.atomic_steps.specs.declared.steps.Step.{Step}
use Rattle.atomic_steps.specs.declared.steps.StepReply.{StepReply}
use Rattle.atomic_steps.specs.Steps.{pass_of, is_linked_in, replaced, without_party, step}
use Rattle.atomic_steps.specs.World.{WorldEntry, PartyPass, World, is_linked}
use Rattle.atomic_steps.specs.EntryNumbers.{AreWithin}
use Rattle.atomic_steps.specs.Runs.{Event, Leads}
use Rattle.atomic_steps.specs.Sound.{At, SoundPass, DiffersFrom, Apart, SoundWorld}
use Rattle.atomic_steps.proofs.lists.Facts.{at_set_cases, at_push_cases, at_set_same, at_push_old, at_one, if_case, find-all, all_at, all_push, at_set_other, false_is_true}
use Rattle.atomic_steps.proofs.worlds.Kept.{all_replaced, all_without_party}
use Rattle.atomic_steps.proofs.worlds.Outcomes.{Outcome, outcome, outcome_of, PassesGo, passes_go}
use Rattle.atomic_steps.proofs.worlds.Outcomes as did
use Rattle.atomic_steps.proofs.runs.History.{keeps, not_both}
use Rattle.atomic_steps.proofs.passes.Parties.{of_party, find_passes, none_is}
use Rattle.text_forms.specs.Tables.{Tables, bucket_of}

-- ---- what a step may do to the entries

pub data EntriesGo (w : World) (q : ℕ) (es : List WorldEntry) : Type 0 where
  Stay : es ≡ w.entries → EntriesGo w q es
  -- an entry changes; it is only unlinked by who holds its bucket
  Change : (k : ℕ) (x y : WorldEntry) → At w.entries k x → y.text ≡ x.text → y.ticket ≡ x.ticket → y.bucket ≡ x.bucket → (is_linked y.place ≡ true → is_linked x.place ≡ true)
      → (is_linked x.place ≡ true → (is_linked y.place ≡ true) ⊎ ((pass : PartyPass) × (pass_of w q ≡ Some pass) × (x.bucket ≡ pass.bucket)))
      → es ≡ slice_set w.entries k y → EntriesGo w q es
  -- a new entry in the bucket that the party holds
  Add_one : (pass : PartyPass) (y : WorldEntry) → pass_of w q ≡ Some pass → y.bucket ≡ pass.bucket → pass.wanted ≡ Some y.text → es ≡ w.entries ++ y ∷ [] → EntriesGo w q es

-- ---- no two passes have one party or one bucket

apart_push : (ps : List PartyPass) (new : PartyPass) → Apart ps → find (of_party new.party) ps ≡ None → list_all (λ (p : PartyPass). not (p.bucket == new.bucket)) ps ≡ true → Apart (ps ++ new ∷ [])
apart_push [] new apart none free = (tt, tt)
apart_push (p ∷ ps) new apart none free =
    let parts = and_parts (not (p.bucket == new.bucket)) _ free in
    if_case (λ o. o ≡ None → Apart ((p ∷ ps) ++ new ∷ [])) (p.party == new.party) (Some p) (find (of_party new.party) ps)
    (λ e n. absurd (let f : ◌≡◌ {A = Option PartyPass} (Some p) None = n in cc))
    (λ e n. (
      all_push (DiffersFrom p) ps new apart.0 (
        λ h. (let a : (p.party == new.party) ≡ true = eq-eqb p.party new.party (sym h) in let c : true ≡ false = sym a ∙ e in absurd cc),
        λ h. (let a : (p.bucket == new.bucket) ≡ true = eq-eqb p.bucket new.bucket (sym h) in let c : false ≡ true = ap not (sym a) ∙ parts.0 in absurd cc),
      ),
      apart_push ps new apart.1 n parts.1,
    ))
    none

apart_replaced : (ps : List PartyPass) (old new : PartyPass) → Apart ps → find (of_party new.party) ps ≡ Some old → new.party ≡ old.party → new.bucket ≡ old.bucket → Apart (replaced ps new)
apart_replaced [] old new apart found same bucket = tt
apart_replaced (p ∷ ps) old new apart found same bucket =
    if_case (λ ys. Apart ys) (p.party == new.party) (new ∷ ps) (p ∷ replaced ps new)
    (λ e.
    let is : p ≡ old = (let f : Some p ≡ Some old = sym (ap (λ (b : Bool). cond b (Some p) (find (of_party new.party) ps)) e) ∙ found in cc) in
    let here : AllByRecursion (DiffersFrom new) ps =
    all_like ps p new (sym (same ∙ sym (ap (λ (v : PartyPass). v.party) is))) (sym (bucket ∙ sym (ap (λ (v : PartyPass). v.bucket) is))) apart.0 in
    (here, apart.1))
    (λ e.
    let rest : find (of_party new.party) ps ≡ Some old = sym (ap (λ (b : Bool). cond b (Some p) (find (of_party new.party) ps)) e) ∙ found in
    let other = find-all (of_party new.party) (DiffersFrom p) ps old rest apart.0 in
    (all_replaced (DiffersFrom p) ps new apart.0 (λ h. other.0 (sym same ∙ h), λ h. other.1 (sym bucket ∙ h)), apart_replaced ps old new apart.1 rest same bucket))
  where
    all_like : (qs : List PartyPass) (a b : PartyPass) → a.party ≡ b.party → a.bucket ≡ b.bucket → AllByRecursion (DiffersFrom a) qs → AllByRecursion (DiffersFrom b) qs
    all_like [] a b e f all = tt
    all_like (z ∷ qs) a b e f all = ((λ h. all.0.0 (h ∙ sym e), λ h. all.0.1 (h ∙ sym f)), all_like qs a b e f all.1)

apart_without : (ps : List PartyPass) (q : ℕ) → Apart ps → Apart (without_party ps q)
apart_without [] q apart = tt
apart_without (p ∷ ps) q apart =
    if_case (λ ys. Apart ys) (p.party == q) ps (p ∷ without_party ps q)
    (λ e. apart.1)
    (λ e. (all_without_party (DiffersFrom p) ps q apart.0, apart_without ps q apart.1))

-- who hold one bucket are one party
pub alone : (ps : List PartyPass) (a b : ℕ) (x y : PartyPass) → Apart ps → find (of_party a) ps ≡ Some x → find (of_party b) ps ≡ Some y → x.bucket ≡ y.bucket → a ≡ b
alone [] a b x y apart fa fb same = absurd (let e : ◌≡◌ {A = Option PartyPass} None (Some x) = fa in cc)
alone (p ∷ ps) a b x y apart fa fb same =
    if_case (λ o. o ≡ Some x → a ≡ b) (p.party == a) (Some p) (find (of_party a) ps)
    (λ ea ga. if_case (λ o. o ≡ Some y → a ≡ b) (p.party == b) (Some p) (find (of_party b) ps)
    (λ eb gb. sym (eqb-true p.party a ea) ∙ eqb-true p.party b eb)
    (λ eb gb. absurd (let is : p ≡ x = cc in (find-all (of_party b) (DiffersFrom p) ps y gb apart.0).1 (sym same ∙ sym (ap (λ (v : PartyPass). v.bucket) is))))
    fb)
    (λ ea ga. if_case (λ o. o ≡ Some y → a ≡ b) (p.party == b) (Some p) (find (of_party b) ps)
    (λ eb gb. absurd (let is : p ≡ y = cc in (find-all (of_party a) (DiffersFrom p) ps x ga apart.0).1 (same ∙ sym (ap (λ (v : PartyPass). v.bucket) is))))
    (λ eb gb. alone ps a b x y apart.1 ga gb same)
    fb)
    fa

-- The same entries stand in the bucket.
pub record SameIn (bucket : ℕ) (es es' : List WorldEntry) : Type 0 where
  pub forth : (k : ℕ) (x : WorldEntry) → At es k x → is_linked_in bucket x ≡ true → (y : WorldEntry) × At es' k y × (is_linked_in bucket y ≡ true) × (y.text ≡ x.text) × (y.ticket ≡ x.ticket)
  pub back : (k : ℕ) (y : WorldEntry) → At es' k y → is_linked_in bucket y ≡ true → (x : WorldEntry) × At es k x × (is_linked_in bucket x ≡ true) × (y.text ≡ x.text) × (y.ticket ≡ x.ticket)

pub same_in : (bucket : ℕ) (es : List WorldEntry) → SameIn bucket es es
same_in bucket es = record { forth = λ k x at h. (x, at, h, refl, refl); back = λ k y at h. (y, at, h, refl, refl) }

in_bucket : (bucket : ℕ) (x y : WorldEntry) → y.bucket ≡ x.bucket → is_linked y.place ≡ true → is_linked_in bucket x ≡ true → is_linked_in bucket y ≡ true
in_bucket bucket x y same l h = and_from (is_linked y.place) (y.bucket == bucket) l (ap (λ (b : ℕ). b == bucket) same ∙ (and_parts (is_linked x.place) (x.bucket == bucket) h).1)

-- an entry changes, and stays linked if it is in the bucket
pub same_change : (bucket : ℕ) (es : List WorldEntry) (k : ℕ) (x y : WorldEntry) → At es k x → y.text ≡ x.text → y.ticket ≡ x.ticket → y.bucket ≡ x.bucket → (is_linked y.place ≡ true → is_linked x.place ≡ true)
    → (x.bucket ≡ bucket → is_linked x.place ≡ true → is_linked y.place ≡ true) → SameIn bucket es (slice_set es k y)
same_change bucket es k x y at text ticket same back forth = record {
  forth = λ j z a h. elim (cases_eq j k) [
    | inl e ↦
        let is : z ≡ x = at_one es k z x (subst (λ (i : ℕ). At es i z) e a) at in
        let hx : is_linked_in bucket x ≡ true = sym (ap (is_linked_in bucket) is) ∙ h in
        let parts = and_parts (is_linked x.place) (x.bucket == bucket) hx in (
          y,
          subst (λ (i : ℕ). At (slice_set es k y) i y) (sym e) (at_set_same es k x y at),
          in_bucket bucket x y same (forth (eqb-true x.bucket bucket parts.1) parts.0) hx,
          text ∙ sym (ap (λ (v : WorldEntry). v.text) is),
          ticket ∙ sym (ap (λ (v : WorldEntry). v.ticket) is),
        )
    | inr n ↦ (z, at_set_other es k y j z n a, h, refl, refl)
  ];
  back = λ j z a h. elim (at_set_cases es k y j z a) [
    | inl (e, f) ↦
        let hy : is_linked_in bucket y ≡ true = sym (ap (is_linked_in bucket) f) ∙ h in
        (x, subst (λ (i : ℕ). At es i x) (sym e) at, in_bucket bucket y x (sym same) (back (and_parts (is_linked y.place) (y.bucket == bucket) hy).0) hy, ap (λ (v : WorldEntry). v.text) f ∙ text, ap (λ (v : WorldEntry). v.ticket) f ∙ ticket)
    | inr (n, old) ↦ (z, old, h, refl, refl)
  ];
}

same_push : (bucket : ℕ) (es : List WorldEntry) (y : WorldEntry) → y.bucket ≢ bucket → SameIn bucket es (es ++ y ∷ [])
same_push bucket es y n = record {
  forth = λ k x at h. (x, at_push_old es y k x at, h, refl, refl);
  back = λ k z at h. elim (at_push_cases es y k z at) [
    | inl old ↦ (z, old, h, refl, refl)
    | inr (e, f) ↦ absurd (n (sym (ap (λ (v : WorldEntry). v.bucket) f) ∙ eqb-true z.bucket bucket (and_parts (is_linked z.place) (z.bucket == bucket) h).1))
  ];
}

module _ (tables : Tables) where
  module _ (w : World) (q : ℕ) where
    counts : (k : ℕ) (x : WorldEntry) (n : ℕ) → At w.entries k x → EntriesGo w q (slice_set w.entries k (record x { count = n }))
    counts k x n at = Change k x (record x { count = n }) at refl refl refl (λ l. l) (λ l. inl l) refl

    entries_go : {s : Step} {o : StepReply × World} → Outcome tables w q s o → EntriesGo w q o.1.entries
    entries_go (did.Added l wanted some room) = counts l.k l.entry (l.entry.count + 1) l.at
    entries_go (did.Linked m left) = Add_one m.pass _ m.found refl m.wanted refl
    entries_go (did.Cloned h room) = counts h.k h.entry (h.entry.count + 1) h.at
    entries_go (did.Given h) = counts h.k h.entry (h.entry.count - 1) h.at
    entries_go (did.Unlinked l none) =
        Change l.k l.entry (record l.entry { place = place.UnlinkedBy l.pass.party }) l.at refl refl refl (λ h. false_is_true h) (λ h. inr (l.pass, l.found, l.inside)) refl
    entries_go (did.Freed k x at own) = Change k x (record x { place = place.Freed }) at refl refl refl (λ l. false_is_true l) (λ l. absurd (not_both q x.place l own)) refl
    entries_go other = Stay refl

  -- ---- what every reached world keeps besides

  module _ (w : World) (held : SoundWorld tables w) (q : ℕ) where
    right_pass : (pass : PartyPass) (text : List ℕ) → pass_of w q ≡ Some pass → pass.wanted ≡ Some text → pass.bucket ≡ bucket_of tables (length w.lasts) text
    right_pass pass text p wanted = (find-all (of_party q) (SoundPass tables (length w.lasts) w.entries) w.passes pass p held.sound.each).right text wanted

    still_apart : (ps : List PartyPass) → PassesGo w q ps → Apart ps
    still_apart ps (did.As_they_are e) = subst Apart (sym e) held.apart
    still_apart ps (did.One_more new same idle free e) =
        subst Apart (sym e) (apart_push w.passes new held.apart (none_is (find (of_party new.party) w.passes) (ap (λ (p : ℕ). is_none (pass_of w p)) same ∙ idle)) free)
    still_apart ps (did.Next old new p same bucket e) =
        let is : new.party ≡ q = same ∙ eqb-true old.party q (find_passes (of_party q) w.passes old p) in
        subst Apart (sym e) (apart_replaced w.passes old new held.apart (ap (λ (p : ℕ). find (of_party p) w.passes) is ∙ p) same bucket)
    still_apart ps (did.One_less e) = subst Apart (sym e) (apart_without w.passes q held.apart)

    still_placed : (es : List WorldEntry) → EntriesGo w q es → (k : ℕ) (x : WorldEntry) → At es k x → x.bucket ≡ bucket_of tables (length w.lasts) x.text
    still_placed es (Stay e) k x at = held.placed k x (subst (λ (v : List WorldEntry). At v k x) e at)
    still_placed es (Change j x y a text ticket bucket back forth e) k z at = elim (at_set_cases w.entries j y k z (subst (λ (v : List WorldEntry). At v k z) e at)) [
      | inl (i, f) ↦ ap (λ (v : WorldEntry). v.bucket) f ∙ bucket ∙ held.placed j x a ∙ ap (bucket_of tables (length w.lasts)) (sym (ap (λ (v : WorldEntry). v.text) f ∙ text))
      | inr (n, old) ↦ held.placed k z old
    ]
    still_placed es (Add_one pass y p bucket wanted e) k z at = elim (at_push_cases w.entries y k z (subst (λ (v : List WorldEntry). At v k z) e at)) [
      | inl old ↦ held.placed k z old
      | inr (i, f) ↦ ap (λ (v : WorldEntry). v.bucket) f ∙ bucket ∙ right_pass pass y.text p wanted ∙ ap (λ (v : WorldEntry). bucket_of tables (length w.lasts) v.text) (sym f)
    ]

  -- each pass holds one of the world's buckets
  pub all_within : (w : World) → SoundWorld tables w → AreWithin w
  all_within w held at pass there = (all_at (SoundPass tables (length w.lasts) w.entries) w.passes at pass there held.sound.each).below

  -- an entry of the text that a pass wants stands in the pass's bucket
  pub placed_in : (w : World) → SoundWorld tables w → (party : ℕ) (pass found : PartyPass) (text : List ℕ) → pass_of w party ≡ Some found → pass ≡ found → pass.wanted ≡ Some text
      → (k : ℕ) (x : WorldEntry) → At w.entries k x → x.text ≡ text → x.bucket ≡ pass.bucket
  placed_in w held party pass found text there same wanted k x at is =
      let at_place : pass_of w party ≡ Some pass = there ∙ ap (λ (q : PartyPass). Some q) (sym same) in
      held.placed k x at ∙ ap (bucket_of tables (length w.lasts)) is ∙ sym (right_pass w held party pass text at_place wanted)

  pub held_by : (w : World) → SoundWorld tables w → (e : Event) (mid : World) → step tables w e.party e.does ≡ (e.reply, mid) → SoundWorld tables mid
  held_by w held e mid does =
      let by = outcome_of tables w e mid does in
      let kept = keeps tables w held.sound e.party by in
      record {
        sound = kept.sound;
        apart = still_apart w held e.party mid.passes (passes_go tables w e.party by);
        placed = λ k x at. still_placed w held e.party mid.entries (entries_go w e.party by) k x at ∙ ap (λ (n : ℕ). bucket_of tables n x.text) (sym kept.buckets);
      }

  pub held_all : (w : World) → SoundWorld tables w → (events : List Event) (v : World) → Leads tables w events v → SoundWorld tables v
  held_all w held [] v leads = subst (SoundWorld tables) (sym leads) held
  held_all w held (e ∷ events) v leads = held_all leads.0 (held_by w held e leads.0 leads.1) events v leads.2

  -- ---- the entries of a held bucket, while others make steps

  module _ (w : World) (held : SoundWorld tables w) (party : ℕ) (pass : PartyPass) (found : pass_of w party ≡ Some pass) (q : ℕ) (n : q ≢ party) where
    others_same : (es : List WorldEntry) → EntriesGo w q es → SameIn pass.bucket w.entries es
    others_same es (Stay e) = subst (SameIn pass.bucket w.entries) (sym e) (same_in pass.bucket w.entries)
    others_same es (Change k x y at text ticket bucket back forth e) =
        subst (SameIn pass.bucket w.entries) (sym e) (same_change pass.bucket w.entries k x y at text ticket bucket back
        (λ inside l. elim (forth l) [
          | inl still ↦ still
          | inr (own, p, b) ↦ absurd (n (alone w.passes q party own pass held.apart p found (sym b ∙ inside)))
        ]))
    others_same es (Add_one own y p bucket wanted e) =
        subst (SameIn pass.bucket w.entries) (sym e) (same_push pass.bucket w.entries y (λ inside. n (alone w.passes q party own pass held.apart p found (sym bucket ∙ inside))))

    pub others_leave : (s : Step) → SameIn pass.bucket w.entries (step tables w q s).1.entries
    others_leave s = others_same (step tables w q s).1.entries (entries_go w q (outcome tables w q s))
