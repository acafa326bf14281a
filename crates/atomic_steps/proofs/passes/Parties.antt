-- How a party's pass goes on, whoever makes a step.
use Rattle.std.proofs.Common.{◌≡◌, ℕ, ◌+◌, ◌<◌, ◌≢◌, ◌⊎◌, inl, inr, Bool, true, false, cond, List, [], ◌∷◌, ◌++◌, length, Option, None, Some, refl, sym, ap, ◌∙◌, subst, arith, zero, suc}
use Rattle.std.specs.Prelude.{◌==◌, is_none}
use Rattle.std.specs.List.{find, AllByRecursion}
use Rattle.std.proofs.lemmas.Bool.{eqb-true, eq-eqb, ne_eqb}
use Rattle.atomic_steps.specs.declared.steps.Step.{Step}
use Rattle.atomic_steps.specs.declared.steps.Step.TheVariants.{Add, Link, Clone, Give, Leave}
use Rattle.atomic_steps.specs.declared.steps.StepReply.{StepReply}
use Rattle.atomic_steps.specs.declared.steps.StepReply.TheVariants as reply
use Rattle.atomic_steps.specs.World.{WorldEntry, PartyPass, World}
use Rattle.atomic_steps.specs.Steps.{pass_of, is_free, has, all_looked_at, replaced, without_party, finds_dying, looks_at, decides, step}
use Rattle.atomic_steps.specs.Runs.{Made, Event, Leads, wanted_by, call_of}
use Rattle.atomic_steps.specs.Theorem.{event, interned_by, texts_in, bucket_taken, text_taken}
use Rattle.atomic_steps.specs.Sound.{At}
use Rattle.atomic_steps.proofs.lists.Facts.{at_one, if_case, false_is_true}
use Rattle.atomic_steps.proofs.worlds.Outcomes.{Looks, Outcome, outcome_of, PassesGo, passes_go}
use Rattle.atomic_steps.proofs.worlds.Outcomes as did
use Rattle.atomic_steps.proofs.runs.History.{has-push, wanted_by-is}
use Rattle.text_forms.specs.Tables.{Tables}

-- ---- the list of passes

abbrev pub of_party : ℕ → PartyPass → Bool
of_party party pass = pass.party == party

pub find_passes : {X : Type 0} (p : X → Bool) (xs : List X) (x : X) → find p xs ≡ Some x → p x ≡ true
find_passes {X} p [] x h = absurd (let e : ◌≡◌ {A = Option X} None (Some x) = h in cc)
find_passes {X} p (z ∷ xs) x h =
    if_case (λ o. o ≡ Some x → p x ≡ true) (p z) (Some z) (find p xs)
    (λ pz e. let f : z ≡ x = cc in sym (ap p f) ∙ pz)
    (λ pz e. find_passes p xs x e) h

pub find_push_found : {X : Type 0} (p : X → Bool) (xs : List X) (y x : X) → find p xs ≡ Some x → find p (xs ++ y ∷ []) ≡ Some x
find_push_found {X} p [] y x h = absurd (let e : ◌≡◌ {A = Option X} None (Some x) = h in cc)
find_push_found {X} p (z ∷ xs) y x h =
    if_case (λ o. o ≡ Some x → cond (p z) (Some z) (find p (xs ++ y ∷ [])) ≡ Some x) (p z) (Some z) (find p xs)
    (λ pz e. rw pz e)
    (λ pz e. rw pz (find_push_found p xs y x e)) h

pub replaced_other : (ps : List PartyPass) (new : PartyPass) (party : ℕ) → new.party ≢ party → find (of_party party) (replaced ps new) ≡ find (of_party party) ps
replaced_other [] new party n = refl
replaced_other (q ∷ ps) new party n =
    if_case (λ qs. find (of_party party) qs ≡ find (of_party party) (q ∷ ps)) (q.party == new.party) (new ∷ ps) (q ∷ replaced ps new)
    (λ e. let a : (new.party == party) ≡ false = ne_eqb new.party party n in
    let b : (q.party == party) ≡ false = ap (λ (m : ℕ). m == party) (eqb-true q.party new.party e) ∙ a in
    ap (λ (c : Bool). cond c (Some new) (find (of_party party) ps)) a ∙ sym (ap (λ (c : Bool). cond c (Some q) (find (of_party party) ps)) b))
    (λ e. ap (cond (q.party == party) (Some q)) (replaced_other ps new party n))

replaced_at : (ps : List PartyPass) (new pass : PartyPass) → find (of_party new.party) ps ≡ Some pass → find (of_party new.party) (replaced ps new) ≡ Some new
replaced_at [] new pass h = absurd (let e : ◌≡◌ {A = Option PartyPass} None (Some pass) = h in cc)
replaced_at (q ∷ ps) new pass h =
    if_case (λ qs. find (of_party new.party) qs ≡ Some new) (q.party == new.party) (new ∷ ps) (q ∷ replaced ps new)
    (λ e. ap (λ (c : Bool). cond c (Some new) (find (of_party new.party) ps)) (eq-eqb new.party new.party refl))
    (λ e. let rest : find (of_party new.party) ps ≡ Some pass = sym (ap (λ (c : Bool). cond c (Some q) (find (of_party new.party) ps)) e) ∙ h in
    ap (λ (c : Bool). cond c (Some q) (find (of_party new.party) (replaced ps new))) e ∙ replaced_at ps new pass rest)

pub replaced_same : (ps : List PartyPass) (new pass : PartyPass) (party : ℕ) → new.party ≡ party → find (of_party party) ps ≡ Some pass → find (of_party party) (replaced ps new) ≡ Some new
replaced_same ps new pass party e h =
    subst (λ (p : ℕ). find (of_party p) (replaced ps new) ≡ Some new) e
    (replaced_at ps new pass (subst (λ (p : ℕ). find (of_party p) ps ≡ Some pass) (sym e) h))

pub without_other : (ps : List PartyPass) (q party : ℕ) → q ≢ party → find (of_party party) (without_party ps q) ≡ find (of_party party) ps
without_other [] q party n = refl
without_other (p ∷ ps) q party n =
    if_case (λ qs. find (of_party party) qs ≡ find (of_party party) (p ∷ ps)) (p.party == q) ps (p ∷ without_party ps q)
    (λ e. let a : (p.party == party) ≡ false = ap (λ (m : ℕ). m == party) (eqb-true p.party q e) ∙ ne_eqb q party n in
    sym (ap (λ (c : Bool). cond c (Some p) (find (of_party party) ps)) a))
    (λ e. ap (cond (p.party == party) (Some p)) (without_other ps q party n))

pub find_push_new : {X : Type 0} (p : X → Bool) (xs : List X) (y : X) → find p xs ≡ None → p y ≡ true → find p (xs ++ y ∷ []) ≡ Some y
find_push_new {X} p [] y h py = rw py refl
find_push_new {X} p (z ∷ xs) y h py =
    if_case (λ o. o ≡ None → cond (p z) (Some z) (find p (xs ++ y ∷ [])) ≡ Some y) (p z) (Some z) (find p xs)
    (λ pz e. absurd (let f : ◌≡◌ {A = Option X} (Some z) None = e in cc))
    (λ pz e. rw pz (find_push_new p xs y e py)) h

pub at_below : {X : Type 0} (xs : List X) (k : ℕ) (x : X) → At xs k x → k < length xs
at_below {X} [] k x h = absurd (let e : ◌≡◌ {A = Option X} None (Some x) = h in cc)
at_below {X} (z ∷ xs) zero x h = omega arith
at_below {X} (z ∷ xs) (suc k) x h = omega (arith, at_below xs k x h)

-- ---- whose calls

abbrev pub AllBy : ℕ → List Made → Type 0
AllBy q calls = AllByRecursion (λ (made : Made). made.by ≡ q) calls

pub by_own : (w : World) (q : ℕ) (s : Step) (r : StepReply) → AllBy q (call_of w q s r)
by_own w q (Add e) (reply.Added ticket holders) = (refl, tt)
by_own w q (Add e) reply.Full = (refl, tt)
by_own w q (Link room) (reply.Linked entry ticket) = (refl, tt)
by_own w q (Link room) reply.Spent = (refl, tt)
by_own w q (Link room) reply.Memory = (refl, tt)
by_own w q (Clone e) (reply.Cloned holders) = (refl, tt)
by_own w q (Clone e) reply.Full = (refl, tt)
by_own w q (Give e) (reply.Given left) = (refl, tt)
by_own w q s r = tt

texts_of_other : (q party : ℕ) → q ≢ party → (calls : List Made) → AllBy q calls → interned_by party calls ≡ []
texts_of_other q party n [] all = refl
texts_of_other q party n (made ∷ calls) all =
    let a : (made.by == party) ≡ false = ap (λ (m : ℕ). m == party) all.0 ∙ ne_eqb q party n in
    ap (λ (c : Bool). cond c (texts_in made.call) [] ++ interned_by party calls) a ∙ texts_of_other q party n calls all.1

pub others_intern_nothing : (w : World) (q party : ℕ) → q ≢ party → (s : Step) (r : StepReply) → interned_by party (call_of w q s r) ≡ []
others_intern_nothing w q party n s r = texts_of_other q party n (call_of w q s r) (by_own w q s r)

no_texts : (b : Bool) → cond {A = List (List ℕ)} b [] [] ++ [] ≡ []
no_texts true = refl
no_texts false = refl

-- ---- a step of another party leaves the pass as it is

pub data Decided (before after : Option (List ℕ)) (texts : List (List ℕ)) : Type 0 where
  NotNow : texts ≡ [] → after ≡ before → Decided before after texts
  Now : (text : List ℕ) → before ≡ Some text → after ≡ None → texts ≡ text ∷ [] → Decided before after texts

pub record GoesOn (w : World) (party : ℕ) (pass : PartyPass) (s : Step) (o : StepReply × World) : Type 0 where
  pub next : PartyPass
  pub found : pass_of o.1 party ≡ Some next
  pub stays : o.0 ≢ reply.Left
  pub bucket : next.bucket ≡ pass.bucket
  pub looked : (k : ℕ) (x : WorldEntry) → At w.entries k x → x.count ≡ 0 → has next.looked (suc k) ≡ true → has pass.looked (suc k) ≡ true
  pub decided : Decided pass.wanted next.wanted (interned_by party (call_of w party s o.0))

pub record Leaves (w : World) (party : ℕ) (pass : PartyPass) (s : Step) (o : StepReply × World) : Type 0 where
  pub left : o.0 ≡ reply.Left
  pub decided : pass.wanted ≡ None
  pub all : all_looked_at w pass ≡ true
  pub nothing : interned_by party (call_of w party s o.0) ≡ []

pub none_is : {X : Type 0} (o : Option X) → is_none o ≡ true → o ≡ None
none_is {X} None h = refl
none_is {X} (Some x) h = absurd (let e : false ≡ true = h in cc)

module _ (tables : Tables) where
  module _ (w : World) (party : ℕ) (pass : PartyPass) (found : pass_of w party ≡ Some pass) (q : ℕ) (n : q ≢ party) where
    still_found : {passes : List PartyPass} → PassesGo w q passes → find (of_party party) passes ≡ Some pass
    still_found (did.As_they_are e) = ap (find (of_party party)) e ∙ found
    still_found (did.One_more new same idle free e) = ap (find (of_party party)) e ∙ find_push_found (of_party party) w.passes new pass found
    still_found (did.Next old new p same bucket e) =
        let is : old.party ≡ q = eqb-true old.party q (find_passes (of_party q) w.passes old p) in
        ap (find (of_party party)) e ∙ replaced_other w.passes new party (λ e. n (sym is ∙ sym same ∙ e)) ∙ found
    still_found (did.One_less e) = ap (find (of_party party)) e ∙ without_other w.passes q party n ∙ found

    pub others_keep : {s : Step} {o : StepReply × World} → Outcome tables w q s o → pass_of o.1 party ≡ Some pass
    others_keep by = still_found (passes_go tables w q by)

  -- ---- a step of the party itself: it goes on with its pass, or leaves

  module _ (w : World) (party : ℕ) (pass : PartyPass) (found : pass_of w party ≡ Some pass) where
    abbrev Own : Step → StepReply × World → Type 0
    Own s o = GoesOn w party pass s o ⊎ Leaves w party pass s o

    -- nothing of the pass changes
    still : {s : Step} {o : StepReply × World} → o.1.passes ≡ w.passes → o.0 ≢ reply.Left → interned_by party (call_of w party s o.0) ≡ [] → Own s o
    still {s} {o} same n none = inl (record {
      next = pass;
      found = ap (find (of_party party)) same ∙ found;
      stays = n;
      bucket = refl;
      looked = λ k x at z h. h;
      decided = NotNow none refl;
    })

    pub is_party : pass.party ≡ party
    is_party = eqb-true pass.party party (find_passes (of_party party) w.passes pass found)

    the_pass : (own : PartyPass) → pass_of w party ≡ Some own → own ≡ pass
    the_pass own is = let e : Some own ≡ Some pass = sym is ∙ found in cc

    -- the pass becomes another one of the party
    on : {s : Step} {o : StepReply × World} (old new : PartyPass) → pass_of w party ≡ Some old → new.party ≡ old.party → new.bucket ≡ old.bucket → o.1.passes ≡ replaced w.passes new → o.0 ≢ reply.Left
        → ((k : ℕ) (x : WorldEntry) → At w.entries k x → x.count ≡ 0 → has new.looked (suc k) ≡ true → has old.looked (suc k) ≡ true)
        → Decided old.wanted new.wanted (interned_by party (call_of w party s o.0)) → Own s o
    on {s} {o} old new is same bucket passes n looked decided =
        let own = the_pass old is in
        inl (subst (λ (p : PartyPass). GoesOn w party p s o) own (record {
          next = new;
          found = ap (find (of_party party)) passes ∙ replaced_same w.passes new pass party (same ∙ ap (λ (p : PartyPass). p.party) own ∙ is_party) found;
          stays = n;
          bucket = bucket;
          looked = looked;
          decided = decided;
        }))

    -- looking at an entry with a holder, or at none that is there
    looked_more : (looked : List ℕ) (e : ℕ) → ((k : ℕ) (x : WorldEntry) → At w.entries k x → x.count ≡ 0 → suc k ≢ e)
        → (k : ℕ) (x : WorldEntry) → At w.entries k x → x.count ≡ 0 → has (looked ++ e ∷ []) (suc k) ≡ true → has looked (suc k) ≡ true
    looked_more looked e other k x at z h = elim (has-push looked e (suc k) h) [ inl old ↦ old | inr new ↦ absurd (other k x at z new) ]

    looked_held : (l : Looks w party) → 0 < l.entry.count
        → (k : ℕ) (x : WorldEntry) → At w.entries k x → x.count ≡ 0 → has (l.pass.looked ++ suc l.k ∷ []) (suc k) ≡ true → has l.pass.looked (suc k) ≡ true
    looked_held l some = looked_more l.pass.looked (suc l.k) (λ j y b z e.
        let same : j ≡ l.k = omega (arith, e) in
        let is : y ≡ l.entry = at_one w.entries l.k y l.entry (subst (λ (i : ℕ). At w.entries i y) same b) l.at in
        let count : y.count ≡ l.entry.count = ap (λ (v : WorldEntry). v.count) is in
        omega (arith, count, some, z))

    now : (old : PartyPass) (text : List ℕ) → pass_of w party ≡ Some old → old.wanted ≡ Some text → Decided old.wanted None (cond (party == party) (wanted_by w party ∷ []) [] ++ [])
    now old text is wanted =
        Now text wanted refl (ap (λ (c : Bool). cond c (wanted_by w party ∷ []) [] ++ []) (eq-eqb party party refl) ∙ ap (λ (t : List ℕ). t ∷ []) (wanted_by-is w party old text is wanted))

    own_step : {s : Step} {o : StepReply × World} → Outcome tables w party s o → Own s o
    own_step (did.Refused silent) = still refl (λ e. absurd cc) (ap (interned_by party) silent)
    own_step (did.Taken t) = false_is_true (sym (ap is_none found) ∙ t.idle)
    own_step (did.Dying l wanted none) = on l.pass (finds_dying l.pass (suc l.k)) l.found refl refl refl (λ e. absurd cc) (λ k x at z h. h) (NotNow refl refl)
    own_step (did.Added l wanted some room) = on l.pass (decides (looks_at l.pass (suc l.k))) l.found refl refl refl (λ e. absurd cc) (looked_held l some) (now l.pass l.entry.text l.found wanted)
    own_step (did.Full l wanted some full) = on l.pass (decides (looks_at l.pass (suc l.k))) l.found refl refl refl (λ e. absurd cc) (looked_held l some) (now l.pass l.entry.text l.found wanted)
    own_step (did.Linked m left) =
        on m.pass (decides (looks_at m.pass (length w.entries + 1))) m.found refl refl refl (λ e. absurd cc)
        (looked_more m.pass.looked (length w.entries + 1) (λ k x at z new. let b = at_below w.entries k x at in omega (arith, b, new)))
        (now m.pass m.text m.found m.wanted)
    own_step (did.Memory m left) = on m.pass (decides m.pass) m.found refl refl refl (λ e. absurd cc) (λ k x at z h. h) (now m.pass m.text m.found m.wanted)
    own_step (did.Spent m spent) = on m.pass (decides m.pass) m.found refl refl refl (λ e. absurd cc) (λ k x at z h. h) (now m.pass m.text m.found m.wanted)
    own_step (did.Kept l some) = on l.pass (looks_at l.pass (suc l.k)) l.found refl refl refl (λ e. absurd cc) (looked_held l some) (NotNow refl refl)
    own_step (did.Cloned h room) = still refl (λ e. absurd cc) (no_texts (party == party))
    own_step (did.Not_cloned h full) = still refl (λ e. absurd cc) (no_texts (party == party))
    own_step (did.Given h) = still refl (λ e. absurd cc) (no_texts (party == party))
    own_step (did.Unlinked l none) = still refl (λ e. absurd cc) refl
    own_step (did.Freed k x at own) = still refl (λ e. absurd cc) refl
    own_step (did.Left own is decided all) =
        inr (subst (λ (p : PartyPass). Leaves w party p Leave (reply.Left, record w { passes = without_party w.passes party })) (the_pass own is) (record { left = refl; decided = none_is own.wanted decided; all = all; nothing = refl }))

  -- ---- an event, seen from a pass

  pub own_event : (w : World) (party : ℕ) (pass : PartyPass) → pass_of w party ≡ Some pass → (e : Event) (mid : World) → e.party ≡ party → step tables w e.party e.does ≡ (e.reply, mid)
      → GoesOn w party pass e.does (e.reply, mid) ⊎ Leaves w party pass e.does (e.reply, mid)
  own_event w party pass found e mid is does =
      own_step w party pass found (subst (λ (p : ℕ). Outcome tables w p e.does (e.reply, mid)) is (outcome_of tables w e mid does))

  pub other_event : (w : World) (party : ℕ) (pass : PartyPass) → pass_of w party ≡ Some pass → (e : Event) (mid : World) → e.party ≢ party → step tables w e.party e.does ≡ (e.reply, mid)
      → pass_of mid party ≡ Some pass
  other_event w party pass found e mid n does = others_keep w party pass found e.party n (outcome_of tables w e mid does)

  -- ---- a bucket was taken

  pub record Took (w : World) (party : ℕ) (take : Step) (o : StepReply × World) : Type 0 where
    pub pass : PartyPass
    pub found : pass_of o.1 party ≡ Some pass
    pub bucket : bucket_taken tables (length w.lasts) take ≡ Some pass.bucket
    pub wanted : pass.wanted ≡ text_taken take
    pub dying : pass.dying ≡ []
    pub looked : pass.looked ≡ []
    pub entries : o.1.entries ≡ w.entries
    pub free : is_free w pass.bucket ≡ true
    pub silent : call_of w party take o.0 ≡ []

  took : (w : World) (party : ℕ) (take : Step) (mid : World) → Outcome tables w party take (reply.Taken, mid) → Took w party take (reply.Taken, mid)
  took w party take mid (did.Taken t) = record {
    pass = record { party = party; bucket = t.bucket; wanted = text_taken take; dying = []; looked = [] };
    found = find_push_new (of_party party) w.passes _ (none_is (pass_of w party) t.idle) (eq-eqb party party refl);
    bucket = t.is;
    wanted = refl;
    dying = refl;
    looked = refl;
    entries = refl;
    free = t.free;
    silent = t.silent;
  }

  pub took_event : (w : World) (party : ℕ) (take : Step) (mid : World) → step tables w party take ≡ (reply.Taken, mid) → Took w party take (reply.Taken, mid)
  took_event w party take mid does = took w party take mid (outcome_of tables w (event party take reply.Taken) mid does)

  -- ---- parts of runs

  pub leads-append : (w v : World) (xs ys : List Event) → Leads tables w (xs ++ ys) v → (u : World) × Leads tables w xs u × Leads tables u ys v
  leads-append w v [] ys leads = (w, refl, leads)
  leads-append w v (x ∷ xs) ys leads =
      let rest = leads-append leads.0 v xs ys leads.2 in
      (rest.0, (leads.0, leads.1, rest.1), rest.2)
