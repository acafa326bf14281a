-- A pass over a bucket's list is steps that are all enabled, and the list that they leave is the one that the pass leaves.
use Rattle.std.proofs.Common.{◌≡◌, ℕ, ◌+◌, ◌<◌, ◌≤◌, ◌≢◌, ◌⊎◌, inl, inr, Bool, true, false, List, [], ◌∷◌, ◌++◌, length, reverse, append_assoc, Option, None, Some, refl, sym, ap, ◌∙◌, subst, arith, suc}
use Rattle.std.specs.Prelude.{◌==◌, IsSome}
use Rattle.std.specs.List.{filter, AllByRecursion}
use Rattle.std.specs.Option.{unwrap_or}
use Rattle.std.proofs.lemmas.Bool.{eqb-true, eq-eqb}
use Rattle.std.proofs.lemmas.Option.{none-some}
use Rattle.atomic_steps.specs.declared.steps.Step.{Step}
use Rattle.atomic_steps.specs.declared.steps.Step.TheVariants.{Add, Link, Unlink, Leave}
use Rattle.atomic_steps.specs.declared.steps.StepReply.{StepReply}
use Rattle.atomic_steps.specs.declared.steps.StepReply.TheVariants as reply
use Rattle.text_forms.specs.Bounds.{Bounds}
use Rattle.text_forms.specs.Layout.{most_buckets}
use Rattle.text_forms.specs.Tables.{Tables, bucket_of}
use Rattle.atomic_steps.specs.World.{WorldEntry, PartyPass, World}
use Rattle.atomic_steps.specs.Steps.{pass_of, is_linked_in, has, add, link, unlink, step_if, step, opening}
use Rattle.atomic_steps.specs.Runs.{Event, Leads}
use Rattle.atomic_steps.specs.Theorem.{text_taken}
use Rattle.atomic_steps.specs.Sound.{At, SoundPass, Apart, SoundWorld}
use Rattle.text_forms.specs.Pass as th
use Rattle.atomic_steps.specs.PassSteps.{Item, list_of, plan_of, Planned, planned, any_reply, is_added, is_full, is_dying, is_unlinked, is_kept, steps_of, own, AsPlanned, linked_by, new_by, PassIsSteps}
use Rattle.atomic_steps.proofs.lists.Facts.{at_one, if_case, find-all, false_is_true}
use Rattle.atomic_steps.proofs.runs.Opening.{opening_sound}
use Rattle.atomic_steps.proofs.passes.Parties.{of_party, took_event, leads-append}
use Rattle.atomic_steps.proofs.worlds.Apart.{held_all, held_by, others_leave}
use Rattle.atomic_steps.proofs.lists.Items.{numbers, Falls, items_same, is_other, IsThere, listed, cut_out}
use Rattle.atomic_steps.proofs.passes.Plans.{Told, is_of_add, still_wanted, keeps, leaving, IsPlan, Asks, plan_is, Stands, Midway, others_go, add_enabled, after_add, unlink_enabled, after_unlink, leave_enabled, link_enabled, after_link}

-- ---- what a plan still has to do

-- The world is ready for the plan of a pass that was begun for this text. If it links no entry more, goal is what is left of
-- the bucket's list.
pub data Ready (w : World) (party bucket : ℕ) (begun : Option (List ℕ)) (plan : List Planned) (goal : List Item) : Type 0 where
  Done : plan ≡ [] → Ready w party bucket begun plan goal
  To_leave : (pass : PartyPass) → Midway w party pass None [] → plan ≡ leaving → pass.bucket ≡ bucket → list_of w bucket ≡ goal → Ready w party bucket begun plan goal
  To_link : (pass : PartyPass) (text : List ℕ) (room : Bool) → Midway w party pass (Some text) [] → plan ≡ planned (Link room) any_reply ∷ leaving → begun ≡ Some text
      → pass.bucket ≡ bucket → list_of w bucket ≡ goal → Ready w party bucket begun plan goal
  To_add : (pass : PartyPass) (wanted : Option (List ℕ)) (e : Item) (rest : List Item) (told : Told) (later : List Planned) (front left : List Item) → Midway w party pass wanted (e ∷ rest)
      → is_of_add told ≡ true → wanted ≡ Some e.text → plan ≡ steps_of e.number told ++ later → IsPlan (still_wanted told wanted) rest later left
      → ((text : List ℕ) → wanted ≡ Some text → begun ≡ Some text)
      → pass.bucket ≡ bucket → list_of w bucket ≡ front ++ e ∷ rest → goal ≡ front ++ keeps told e left → Ready w party bucket begun plan goal
  -- One that was found dying is unlinked, whatever fits. Else it is unlinked or kept, as what fits says.
  To_unlink : (pass : PartyPass) (wanted : Option (List ℕ)) (e : Item) (rest : List Item) (told : Told) (fits : StepReply → Bool) (later : List Planned) (front left : List Item)
      → Midway w party pass wanted (e ∷ rest) → (wanted ≡ Some e.text → has pass.dying e.number ≡ true) → plan ≡ planned (Unlink e.number) fits ∷ later → IsPlan wanted rest later left
      → ((text : List ℕ) → wanted ≡ Some text → begun ≡ Some text)
      → (fits reply.Unlinked ≡ true → keeps told e left ≡ left) → (fits reply.Kept ≡ true → (keeps told e left ≡ e ∷ left) ⊎ (has pass.dying e.number ≡ true))
      → pass.bucket ≡ bucket → list_of w bucket ≡ front ++ e ∷ rest → goal ≡ front ++ keeps told e left → Ready w party bucket begun plan goal

-- a plan ends with Leave, so that it isn't empty before
plan_some : (wanted : Option (List ℕ)) (es : List Item) (left : List Item) (plan : List Planned) → IsPlan wanted es plan left → plan ≡ [] → ⊥
plan_some None [] left plan is e = let clash : ◌≡◌ {A = List Planned} leaving [] = sym is.0 ∙ e in cc
plan_some (Some text) [] left plan is e = let clash : ◌≡◌ {A = List Planned} (planned (Link is.0.0) any_reply ∷ leaving) [] = sym is.0.1 ∙ e in cc
plan_some wanted (x ∷ es) left plan is e = some_step is.0 is.1 (sym is.4 ∙ e)
  where
    some_step : (told : Told) (rest : List Planned) → steps_of x.number told ++ rest ≡ [] → ⊥
    some_step (th.added s) rest e = let clash : ◌≡◌ {A = List Planned} (planned (Add x.number) is_added ∷ rest) [] = e in cc
    some_step th.full rest e = let clash : ◌≡◌ {A = List Planned} (planned (Add x.number) is_full ∷ rest) [] = e in cc
    some_step th.died rest e = let clash : ◌≡◌ {A = List Planned} (planned (Add x.number) is_dying ∷ planned (Unlink x.number) any_reply ∷ rest) [] = e in cc
    some_step th.gone rest e = let clash : ◌≡◌ {A = List Planned} (planned (Unlink x.number) is_unlinked ∷ rest) [] = e in cc
    some_step th.stays rest e = let clash : ◌≡◌ {A = List Planned} (planned (Unlink x.number) is_kept ∷ rest) [] = e in cc

one_more : (front : List Item) (e : Item) (xs : List Item) → front ++ e ∷ xs ≡ (front ++ e ∷ []) ++ xs
one_more front e xs = sym (append_assoc front (e ∷ []) xs)

module _ (bucket : ℕ) (begun : Option (List ℕ)) where
  module _ (w : World) (party : ℕ) (pass : PartyPass) (in_bucket : pass.bucket ≡ bucket) where
    -- from where it stands in the list
    pub ready : (wanted : Option (List ℕ)) (rest : List Item) → Midway w party pass wanted rest → (plan : List Planned) (left : List Item) → IsPlan wanted rest plan left
        → ((text : List ℕ) → wanted ≡ Some text → begun ≡ Some text) → (front goal : List Item) → list_of w bucket ≡ front ++ rest → goal ≡ front ++ left → Ready w party bucket begun plan goal
    ready None [] m plan left is of front goal list g =
        To_leave pass m is.0 in_bucket (list ∙ ap (λ (xs : List Item). front ++ xs) (sym is.1) ∙ sym g)
    ready (Some text) [] m plan left is of front goal list g =
        To_link pass text is.0.0 m is.0.1 (of text refl) in_bucket (list ∙ ap (λ (xs : List Item). front ++ xs) (sym is.1) ∙ sym g)
    ready wanted (e ∷ rest) m plan left is of front goal list g = by_told is.0 is.1 is.2 is.3 is.4 (g ∙ ap (λ (xs : List Item). front ++ xs) is.5) is.6
      where
        by_told : (told : Told) (later : List Planned) (left' : List Item) → Asks told wanted e.text → plan ≡ steps_of e.number told ++ later → goal ≡ front ++ keeps told e left'
            → IsPlan (still_wanted told wanted) rest later left' → Ready w party bucket begun plan goal
        by_told (th.added s) later left' asks p g p' = To_add pass wanted e rest (th.added s) later front left' m refl asks p p' of in_bucket list g
        by_told th.full later left' asks p g p' = To_add pass wanted e rest th.full later front left' m refl asks p p' of in_bucket list g
        by_told th.died later left' asks p g p' = To_add pass wanted e rest th.died later front left' m refl asks p p' of in_bucket list g
        by_told th.gone later left' asks p g p' = To_unlink pass wanted e rest th.gone is_unlinked later front left' m (λ t. absurd (asks t)) p p' of (λ f. refl) (λ f. false_is_true f) in_bucket list g
        by_told th.stays later left' asks p g p' = To_unlink pass wanted e rest th.stays is_kept later front left' m (λ t. absurd (asks t)) p p' of (λ f. false_is_true f) (λ f. inl refl) in_bucket list g

  module _ (tables : Tables) (w : World) (held : SoundWorld tables w) (party : ℕ) where
    -- ---- another's step

    others_list : (pass : PartyPass) → pass_of w party ≡ Some pass → pass.bucket ≡ bucket → (q : ℕ) → q ≢ party → (s : Step) → list_of (step tables w q s).1 bucket ≡ list_of w bucket
    others_list pass found b q n s =
        subst (λ (n : ℕ). list_of (step tables w q s).1 n ≡ list_of w n) b
        (sym (ap reverse (items_same pass.bucket 1 w.entries (step tables w q s).1.entries (others_leave tables w held party pass found q n s))))

    pub ready_other : (plan : List Planned) (goal : List Item) → Ready w party bucket begun plan goal → (q : ℕ) → q ≢ party → (s : Step) → Ready (step tables w q s).1 party bucket begun plan goal
    ready_other plan goal (Done is) q n s = Done is
    ready_other plan goal (To_leave pass m is b list) q n s = To_leave pass (others_go tables w party pass None [] m held q n s) is b (others_list pass m.found b q n s ∙ list)
    ready_other plan goal (To_link pass text room m is of b list) q n s =
        To_link pass text room (others_go tables w party pass (Some text) [] m held q n s) is of b (others_list pass m.found b q n s ∙ list)
    ready_other plan goal (To_add pass wanted e rest told later front left m a t is p of b list g) q n s =
        To_add pass wanted e rest told later front left (others_go tables w party pass wanted (e ∷ rest) m held q n s) a t is p of b (others_list pass m.found b q n s ∙ list) g
    ready_other plan goal (To_unlink pass wanted e rest told fits later front left m d is p of u k b list g) q n s =
        To_unlink pass wanted e rest told fits later front left (others_go tables w party pass wanted (e ∷ rest) m held q n s) d is p of u k b (others_list pass m.found b q n s ∙ list) g

    -- ---- the next step of the plan

    -- it was made: the world is ready for what is left, and nothing is left where the list is what it is to be
    abbrev Made : World → List Planned → List Item → Type 0
    Made v plan goal = Ready v party bucket begun plan goal × (plan ≡ [] → list_of v bucket ≡ goal)

    abbrev pub Next : List Planned → List Item → Type 0
    Next [] goal = Unit {0}
    Next (next ∷ plan) goal =
        IsSome (step_if tables w party next.does)
        × (next.fits (step tables w party next.does).0 ≡ true → Made (step tables w party next.does).1 plan (linked_by begun (step tables w party next.does).0 ++ goal))

    enabled : (s : Step) (fits : StepReply → Bool) (plan : List Planned) (goal : List Item) (o : StepReply × World) → step_if tables w party s ≡ Some o
        → (fits o.0 ≡ true → Made o.1 plan (linked_by begun o.0 ++ goal)) → Next (planned s fits ∷ plan) goal
    enabled s fits plan goal o e then =
        let is : o ≡ step tables w party s = sym (ap (λ (p : Option (StepReply × World)). unwrap_or p (reply.No, w)) e) in (
          subst (λ (p : Option (StepReply × World)). IsSome p) (sym e) refl,
          subst (λ (p : StepReply × World). fits p.0 ≡ true → Made p.1 plan (linked_by begun p.0 ++ goal)) is then,
        )

    -- the reply tells of no new entry
    abbrev is_new : StepReply → Bool
    is_new (reply.Linked entry ticket) = true
    is_new r = false

    none_new : (o : Option (List ℕ)) (r : StepReply) → is_new r ≡ false → linked_by o r ≡ []
    none_new None r old = refl
    none_new (Some text) (reply.Linked entry ticket) old = false_is_true (sym old)
    none_new (Some text) r old = refl

    -- a step that links no entry
    quiet : (s : Step) (fits : StepReply → Bool) (plan : List Planned) (goal : List Item) (o : StepReply × World) → step_if tables w party s ≡ Some o
        → (fits o.0 ≡ true → (is_new o.0 ≡ false) × Made o.1 plan goal) → Next (planned s fits ∷ plan) goal
    quiet s fits plan goal o e then =
        enabled s fits plan goal o e (λ f. let made = then f in subst (Made o.1 plan) (sym (ap (λ (new : List Item). new ++ goal) (none_new begun o.0 made.0))) made.1)

    added_old : (r : StepReply) → is_added r ≡ true → (is_dying r ≡ false) × (is_new r ≡ false)
    added_old (reply.Added ticket holders) e = (refl, refl)
    added_old r e = false_is_true e

    full_old : (r : StepReply) → is_full r ≡ true → (is_dying r ≡ false) × (is_new r ≡ false)
    full_old reply.Full e = (refl, refl)
    full_old r e = false_is_true e

    dying_old : (r : StepReply) → is_dying r ≡ true → is_new r ≡ false
    dying_old reply.Dying e = refl
    dying_old r e = false_is_true e

    no_more : (wanted : Option (List ℕ)) (rest : List Item) (left : List Item) (plan : List Planned) (v : World) (goal : List Item) → IsPlan wanted rest plan left → plan ≡ [] → list_of v bucket ≡ goal
    no_more wanted rest left plan v goal is e = absurd (plan_some wanted rest left plan is e)

    module _ (pass : PartyPass) (wanted : Option (List ℕ)) (e : Item) (rest : List Item) (m : Midway w party pass wanted (e ∷ rest)) (of : (text : List ℕ) → wanted ≡ Some text → begun ≡ Some text)
        (b : pass.bucket ≡ bucket) (front : List Item) (list : list_of w bucket ≡ front ++ e ∷ rest) (later : List Planned) (left : List Item) where
      same_list : (v : World) → list_of v pass.bucket ≡ list_of w pass.bucket → list_of v bucket ≡ front ++ e ∷ rest
      same_list v same = subst (λ (n : ℕ). list_of v n ≡ list_of w n) b same ∙ list

      -- decided by a holder more, or a full count
      next_decided : (fits : StepReply → Bool) → ((r : StepReply) → fits r ≡ true → (is_dying r ≡ false) × (is_new r ≡ false)) → wanted ≡ Some e.text → IsPlan None rest later left
          → (goal : List Item) → goal ≡ front ++ e ∷ left → Next (planned (Add e.number) fits ∷ later) goal
      next_decided fits old t p goal g =
          quiet (Add e.number) fits later goal _ (add_enabled tables w held party pass wanted e rest m t) (λ f. elim (after_add tables w held party pass wanted e rest m) [
            | inl d ↦ false_is_true (sym (old _ f).0 ∙ d.5)
            | inr d ↦ (
              (old _ f).1,
              (
                ready (add w pass (suc m.there.0.k) m.there.0.entry).1 party d.0 (d.2 ∙ b) None rest d.1 later left p (λ text e. absurd (none-some text e)) (front ++ e ∷ []) goal (same_list (add w pass (suc m.there.0.k) m.there.0.entry).1 d.3 ∙ one_more front e rest) (g ∙ one_more front e left),
                no_more None rest left later (add w pass (suc m.there.0.k) m.there.0.entry).1 goal p,
              ),
            )
          ])

      next_dying : wanted ≡ Some e.text → IsPlan wanted rest later left → (goal : List Item) → goal ≡ front ++ left
          → Next (planned (Add e.number) is_dying ∷ planned (Unlink e.number) any_reply ∷ later) goal
      next_dying t p goal g =
          quiet (Add e.number) is_dying (planned (Unlink e.number) any_reply ∷ later) goal _ (add_enabled tables w held party pass wanted e rest m t) (λ f. elim (after_add tables w held party pass wanted e rest m) [
            | inl d ↦ (
              dying_old _ f,
              (To_unlink d.0 wanted e rest th.died any_reply later front left d.1 (λ _. d.4) refl p of (λ _. refl) (λ _. inr d.4) (d.2 ∙ b) (same_list (add w pass (suc m.there.0.k) m.there.0.entry).1 d.3) g, λ none. absurd (let clash : ◌≡◌ {A = List Planned} (planned (Unlink e.number) any_reply ∷ later) [] = none in cc)),
            )
            | inr d ↦ false_is_true (sym d.4 ∙ f)
          ])

      -- what was found dying has no holder
      dead_now : has pass.dying e.number ≡ true → (m.there.0.entry.count == 0) ≡ true
      dead_now found =
          let dead = (find-all (of_party party) (SoundPass tables (length w.lasts) w.entries) w.passes pass m.found held.sound.each).dead e.number found in
          let there = m.there.0 in
          let same : dead.0 ≡ there.k = (let a = dead.2 in let c = there.number in omega (arith, a, c)) in
          let is : dead.1 ≡ there.entry = at_one w.entries there.k dead.1 there.entry (subst (λ (i : ℕ). At w.entries i dead.1) same dead.3) there.at in
          eq-eqb there.entry.count 0 (sym (ap (λ (x : WorldEntry). x.count) is) ∙ dead.4)

      next_unlink : (told : Told) (fits : StepReply → Bool) → (wanted ≡ Some e.text → has pass.dying e.number ≡ true) → IsPlan wanted rest later left
          → (fits reply.Unlinked ≡ true → keeps told e left ≡ left) → (fits reply.Kept ≡ true → (keeps told e left ≡ e ∷ left) ⊎ (has pass.dying e.number ≡ true))
          → (goal : List Item) → goal ≡ front ++ keeps told e left → Next (planned (Unlink e.number) fits ∷ later) goal
      next_unlink told fits d p gone kept goal g =
          quiet (Unlink e.number) fits later goal _ (unlink_enabled tables w held party pass wanted e rest m) (λ f.
          let after = after_unlink tables w held party pass wanted e rest m d in
          elim after.3 [
            | inl u ↦ (
              ap is_new u.0,
              (
                ready (unlink w pass (suc m.there.0.k) m.there.0.entry).1 party after.0 (after.2 ∙ b) wanted rest after.1 later left p of front goal
                    (subst (λ (n : ℕ). list_of (unlink w pass (suc m.there.0.k) m.there.0.entry).1 n ≡ filter (is_other e.number) (list_of w n)) b u.1 ∙ ap (filter (is_other e.number)) list
                    ∙ cut_out (1 + length w.entries) front e rest (subst (Falls (1 + length w.entries)) list (listed bucket 1 w.entries).falls))
                    (g ∙ ap (λ (xs : List Item). front ++ xs) (gone (sym (ap fits u.0) ∙ f))),
                no_more wanted rest left later (unlink w pass (suc m.there.0.k) m.there.0.entry).1 goal p,
              ),
            )
            | inr u ↦ elim (kept (sym (ap fits u.0) ∙ f)) [
              | inl stays ↦ (
                ap is_new u.0,
                (
                  ready (unlink w pass (suc m.there.0.k) m.there.0.entry).1 party after.0 (after.2 ∙ b) wanted rest after.1 later left p of (front ++ e ∷ []) goal (same_list (unlink w pass (suc m.there.0.k) m.there.0.entry).1 u.1 ∙ one_more front e rest)
                      (g ∙ ap (λ (xs : List Item). front ++ xs) stays ∙ one_more front e left),
                  no_more wanted rest left later (unlink w pass (suc m.there.0.k) m.there.0.entry).1 goal p,
                ),
              )
              | inr found ↦ false_is_true (sym u.2 ∙ dead_now found)
            ]
          ])

    pub ready_own : (plan : List Planned) (goal : List Item) → Ready w party bucket begun plan goal → Next plan goal
    ready_own plan goal (Done is) = subst (λ (p : List Planned). Next p goal) (sym is) tt
    ready_own plan goal (To_leave pass m is b list) =
        subst (λ (p : List Planned). Next p goal) (sym is) (quiet Leave any_reply [] goal _ (leave_enabled tables w held party pass m) (λ f. (refl, (Done refl, λ _. list))))
    ready_own plan goal (To_link pass text room m is of b list) =
        subst (λ (p : List Planned). Next p goal) (sym is) (enabled (Link room) any_reply leaving goal _ (link_enabled tables w held party pass text m room) (λ f.
        let after = after_link tables w held party pass text m room in
        let o = link w pass room text in
        let left = subst (λ (n : ℕ). list_of o.1 n ≡ linked_by (Some text) o.0 ++ list_of w n) b after.3 ∙ (λ i. linked_by (sym of i) o.0 ++ list i) in
        (To_leave after.0 after.1 refl (after.2 ∙ b) left, λ none. absurd (let clash : ◌≡◌ {A = List Planned} leaving [] = none in cc))))
    ready_own plan goal (To_add pass wanted e rest (th.added s) later front left m a t is p of b list g) =
        subst (λ (p : List Planned). Next p goal) (sym is) (next_decided pass wanted e rest m of b front list later left is_added added_old t p goal g)
    ready_own plan goal (To_add pass wanted e rest th.full later front left m a t is p of b list g) =
        subst (λ (p : List Planned). Next p goal) (sym is) (next_decided pass wanted e rest m of b front list later left is_full full_old t p goal g)
    ready_own plan goal (To_add pass wanted e rest th.died later front left m a t is p of b list g) =
        subst (λ (p : List Planned). Next p goal) (sym is) (next_dying pass wanted e rest m of b front list later left t p goal g)
    ready_own plan goal (To_add pass wanted e rest th.gone later front left m a t is p of b list g) = false_is_true a
    ready_own plan goal (To_add pass wanted e rest th.stays later front left m a t is p of b list g) = false_is_true a
    ready_own plan goal (To_unlink pass wanted e rest told fits later front left m d is p of u k b list g) =
        subst (λ (p : List Planned). Next p goal) (sym is) (next_unlink pass wanted e rest m of b front list later left told fits d p u k goal g)

-- ---- runs

-- the last of the planned steps, and those before it
split_last : (plan : List Planned) (events : List Event) (last : Event) → AsPlanned plan (events ++ last ∷ [])
    → (before : List Planned) × (p : Planned) × (plan ≡ before ++ p ∷ []) × AsPlanned before events × (last.does ≡ p.does) × (p.fits last.reply ≡ true)
split_last [] [] last follows = absurd follows
split_last [] (e ∷ events) last follows = absurd follows
split_last (p ∷ []) [] last follows = ([], p, refl, tt, follows.0, follows.1)
split_last (p ∷ q ∷ plan) [] last follows = absurd follows.2
split_last (p ∷ plan) (e ∷ events) last follows =
    let rest = split_last plan events last follows.2 in
    (p ∷ rest.0, rest.1, ap (λ (ps : List Planned). p ∷ ps) rest.2, (follows.0, follows.1, rest.3), rest.4, rest.5)

new_last : (begun : Option (List ℕ)) (events : List Event) (last : Event) (left : List Item) → new_by begun (events ++ last ∷ []) ++ left ≡ linked_by begun last.reply ++ (new_by begun events ++ left)
new_last begun [] last left = refl
new_last begun (e ∷ events) last left =
    append_assoc (new_by begun (events ++ last ∷ [])) (linked_by begun e.reply) left ∙ new_last begun events last (linked_by begun e.reply ++ left)
    ∙ ap (λ (xs : List Item). linked_by begun last.reply ++ xs) (sym (append_assoc (new_by begun events) (linked_by begun e.reply) left))

module _ (tables : Tables) (party bucket : ℕ) (begun : Option (List ℕ)) where
  abbrev GoneOn : World → List Planned → List Item → Type 0
  GoneOn v plan goal = SoundWorld tables v × Ready v party bucket begun plan goal

  -- an own step that the plan has next
  own_step : (w : World) → SoundWorld tables w → (next : Planned) (plan : List Planned) (goal : List Item) → Ready w party bucket begun (next ∷ plan) goal
      → (e : Event) (mid : World) → step tables w e.party e.does ≡ (e.reply, mid) → e.party ≡ party → e.does ≡ next.does → next.fits e.reply ≡ true
      → Ready mid party bucket begun plan (linked_by begun e.reply ++ goal) × (plan ≡ [] → list_of mid bucket ≡ linked_by begun e.reply ++ goal)
  own_step w held next plan goal r e mid does is same fits =
      let n = ready_own bucket begun tables w held party (next ∷ plan) goal r in
      let o : step tables w party next.does ≡ (e.reply, mid) = sym (λ i. step tables w (is i) (same i)) ∙ does in
      subst (λ (o : StepReply × World). next.fits o.0 ≡ true → Ready o.1 party bucket begun plan (linked_by begun o.0 ++ goal) × (plan ≡ [] → list_of o.1 bucket ≡ linked_by begun o.0 ++ goal)) o n.1 fits

  pub gone_on : (w : World) → SoundWorld tables w → (plan : List Planned) (goal : List Item) → Ready w party bucket begun plan goal → (events : List Event) (v : World) → Leads tables w events v
      → (before after : List Planned) → plan ≡ before ++ after → AsPlanned before (own party events) → GoneOn v after (new_by begun (own party events) ++ goal)
  gone_on w held plan goal r [] v leads [] after is follows =
      subst (λ (u : World). GoneOn u after goal) (sym leads) (held, subst (λ (p : List Planned). Ready w party bucket begun p goal) is r)
  gone_on w held plan goal r [] v leads (next ∷ before) after is follows = absurd follows
  gone_on w held plan goal r (e ∷ events) v leads before after is follows =
      let held' = held_by tables w held e leads.0 leads.1 in
      if_case (λ made. AsPlanned before made → GoneOn v after (new_by begun made ++ goal)) (e.party == party) (e ∷ own party events) (own party events)
      (λ yes. own_first (eqb-true e.party party yes) (λ plan goal r before is follows. gone_on leads.0 held' plan goal r events v leads.2 before after is follows) before is)
      (λ other. gone_on leads.0 held' plan goal
      (subst (λ (o : StepReply × World). Ready o.1 party bucket begun plan goal) leads.1
      (ready_other bucket begun tables w held party plan goal r e.party (λ same. false_is_true (sym other ∙ eq-eqb e.party party same)) e.does))
      events v leads.2 before after is)
      follows
    where
      own_first : e.party ≡ party
          → ((plan : List Planned) (goal : List Item) → Ready leads.0 party bucket begun plan goal → (before : List Planned) → plan ≡ before ++ after → AsPlanned before (own party events)
          → GoneOn v after (new_by begun (own party events) ++ goal))
          → (before : List Planned) → plan ≡ before ++ after → AsPlanned before (e ∷ own party events) → GoneOn v after (new_by begun (e ∷ own party events) ++ goal)
      own_first same go [] is follows = absurd follows
      own_first same go (next ∷ before) is follows =
          let made = own_step w held next (before ++ after) goal (subst (λ (p : List Planned). Ready w party bucket begun p goal) is r) e leads.0 leads.1 same follows.0 follows.1 in
          let rest = go (before ++ after) (linked_by begun e.reply ++ goal) made.0 before refl follows.2 in
          (rest.0, subst (Ready v party bucket begun after) (sym (append_assoc (new_by begun (own party events)) (linked_by begun e.reply) goal)) rest.1)

-- ---- a pass that was just begun

stand_all : (es : List WorldEntry) (bucket : ℕ) (l : List Item) → AllByRecursion (IsThere bucket 1 es) l → AllByRecursion (Stands es bucket) l
stand_all es bucket [] all = tt
stand_all es bucket (e ∷ l) all =
    let s = all.0 in
    (record { k = s.k; entry = s.entry; number = (let n = s.number in omega (arith, n)); at = s.at; inside = s.inside; text = s.text }, stand_all es bucket l all.1)

starts : (w : World) (party : ℕ) (pass : PartyPass) (wanted : Option (List ℕ)) → pass_of w party ≡ Some pass → pass.wanted ≡ wanted → Midway w party pass wanted (list_of w pass.bucket)
starts w party pass wanted found wants =
    let l = listed pass.bucket 1 w.entries in
    let all : (k : ℕ) (x : WorldEntry) → At w.entries k x → is_linked_in pass.bucket x ≡ true → has (numbers (list_of w pass.bucket)) (suc k) ≡ true =
    λ k x at h. (let e : suc k ≡ 1 + k = omega arith in ap (has (numbers (list_of w pass.bucket))) e ∙ l.all k x at h) in
    record {
      found = found;
      wants = wants;
      there = stand_all w.entries pass.bucket (list_of w pass.bucket) l.each;
      top = 1 + length w.entries;
      falls = l.falls;
      covered = λ k x at h. inl (all k x at h);
      dying = λ k x at h t. inl (all k x at h);
    }

module _ (tables : Tables) where
  no_passes : (limits : Bounds) (n : ℕ) → Apart (opening limits n).passes
  unfolding opening
  no_passes limits n = tt

  no_entries : (limits : Bounds) (n : ℕ) (k : ℕ) (x : WorldEntry) → At (opening limits n).entries k x → x.bucket ≡ bucket_of tables (length (opening limits n).lasts) x.text
  unfolding opening
  no_entries limits n k x at = absurd (let e : ◌≡◌ {A = Option WorldEntry} None (Some x) = at in cc)

  pub held_opening : (limits : Bounds) (n : ℕ) → 0 < n → n ≤ most_buckets → SoundWorld tables (opening limits n)
  held_opening limits n some few = record { sound = opening_sound tables limits n some few; apart = no_passes limits n; placed = no_entries limits n }

pub pass_is_steps_all : {S : Type 0} → PassIsSteps S
pass_is_steps_all tables limits n before w taken party bucket take some few leads does b replies asked room =
    let held = held_by tables w (held_all tables (opening limits n) (held_opening tables limits n some few) before w leads) (record { party = party; does = take; reply = reply.Taken }) taken does in
    let t = took_event tables w party take taken does in
    let same : t.pass.bucket ≡ bucket = (let e : Some bucket ≡ Some t.pass.bucket = sym b ∙ t.bucket in cc) in
    let begun = text_taken take in
    let plan = plan_of room begun (list_of taken bucket) replies in
    let goal = th.kept (list_of taken bucket) replies in
    let midway : Midway taken party t.pass begun (list_of taken bucket) =
    subst (λ (n : ℕ). Midway taken party t.pass begun (list_of taken n)) same (starts taken party t.pass begun t.found t.wanted) in
    let first : Ready taken party bucket begun plan goal =
    ready bucket begun taken party t.pass same begun (list_of taken bucket) midway plan goal (plan_is room begun (list_of taken bucket) replies asked) (λ text e. e) [] goal refl refl in
    record {
      enabled = λ events v done rest next leads is follows.
          let on = gone_on tables party bucket begun taken held plan goal first events v leads done (next ∷ rest) is follows in
          (ready_own bucket begun tables v on.0 party (next ∷ rest) _ on.1).0;
      left = λ events last v leads own_last follows.
          let part = leads-append tables taken v events (last ∷ []) leads in
          let split = split_last plan (own party events) last follows in
          let on = gone_on tables party bucket begun taken held plan goal first events part.0 part.1 split.0 (split.1 ∷ []) split.2 split.3 in
          let made = own_step tables party bucket begun part.0 on.0 split.1 [] _ on.1 last part.2.0 part.2.1 own_last split.4 split.5 in
          let here : v ≡ part.2.0 = part.2.2 in
          ap (λ (u : World). list_of u bucket) here ∙ made.1 refl ∙ sym (new_last begun (own party events) last goal);
    }
