-- Each step keeps what worlds keep, and what it decides is a call of the map.
use Rattle.std.proofs.Common.{◌≡◌, ℕ, ◌+◌, ◌-◌, ◌<◌, ◌≤◌, ◌≢◌, ◌⊎◌, inl, inr, Bool, true, false, cond, not, List, [], ◌∷◌, ◌++◌, length, Option, None, Some, refl, sym, ap, ◌∙◌, subst, arith, zero, suc, get_or-set_same, get_or-set_other}
use Rattle.std.specs.Prelude.{Err, slice_set, slice_index, nat_lt, ◌==◌, ◌&&◌, if◌then◌else◌}
use Rattle.std.specs.List.{AllByRecursion}
use Rattle.std.specs.Option.{option_map, unwrap_or}
use Rattle.std.specs.Str.{bytes_eq}
use Rattle.std.proofs.lemmas.Bool.{and_parts, and_from, and_right, or_cases, cases_eq, false_from_ne_true, eqb-true, eq-eqb, lt-ltb}
use Rattle.std.proofs.lemmas.Option.{none-some}
use Rattle.std.proofs.lemmas.Slice.Eq.{bytes_eq-Decides}
use borrow.Author.Tests.{ltb-true}
use Rattle.atomic_steps.specs.declared.steps.world_entry.Place.{Place}
use Rattle.atomic_steps.specs.declared.steps.world_entry.Place.TheVariants as place
use Rattle.atomic_steps.specs.declared.steps.Step.{Step}
use Rattle.atomic_steps.specs.declared.steps.Step.TheVariants.{Link, Give}
use Rattle.atomic_steps.specs.declared.steps.StepReply.{StepReply}
use Rattle.atomic_steps.specs.declared.steps.StepReply.TheVariants as reply
use Rattle.atomic_steps.specs.Steps.{◌>>=◌, has, replaced, last_of, pass_of, with_entry, with_pass, with_ticket, with_one, without_one, finds_dying, looks_at, decides, dying_if_linked}
use Rattle.text_forms.specs.Word.{ticket_of}
use Rattle.atomic_steps.specs.World.{WorldEntry, PartyPass, World, is_linked, is_unlinked_by, is_living}
use Rattle.atomic_steps.specs.Sound.{At, Sound, SoundTable, SoundPass}
use Rattle.text_forms.specs.Times.{times}
use Rattle.atomic_steps.specs.Runs.{holding, living_at, live_map, wanted_by, ticket_at, made, call_of, Made, ReplaysHistory}
use Rattle.text_forms.specs.Map.{InternMap, Holding, MapCall, MapReply, MayReply, MayIntern, IsHeldTicket, unless_given_up, with_held, with_last}
use Rattle.text_forms.specs.Map as map
use Rattle.text_forms.specs.declared.faults.Fault.TheVariants as fault
use Rattle.atomic_steps.proofs.lists.Facts.{at_push_new, at_one, if_case, find-all, all_push, numbered_at, times-with_one_same, times-with_one_other, times-without_one_same, times-without_one_other, has_then, false_is_true}
use Rattle.atomic_steps.proofs.worlds.Bag.{held_counts}
use Rattle.atomic_steps.proofs.worlds.Outcomes.{Holds, MayLink, Outcome, new_entry, with_new}
use Rattle.atomic_steps.proofs.worlds.Outcomes as did
use Rattle.atomic_steps.proofs.worlds.Kept.{same_length, Changes, table-set, dead-set, passes-weaker, all_replaced, all_without_party, table-push, dead-push, same_map, same_text, living_at-is, living_at-changed, living_at-dead, living_at-none, living_at-push_other, holding_of}
use Rattle.text_forms.specs.Tables.{Tables, bucket_of}

pub has-push : (xs : List ℕ) (x y : ℕ) → has (xs ++ x ∷ []) y ≡ true → (has xs y ≡ true) ⊎ (y ≡ x)
has-push [] x y h = elim (or_cases (x == y) false h) [ inl e ↦ inr (sym (eqb-true x y e)) | inr e ↦ inl e ]
has-push (z ∷ xs) x y h = elim (or_cases (z == y) (has (xs ++ x ∷ []) y) h) [
  | inl e ↦ inl (rw e refl)
  | inr e ↦ elim (has-push xs x y e) [ inl f ↦ inl (has_then (z == y) (has xs y) f) | inr f ↦ inr f ]
]

pub wanted_by-is : (w : World) (party : ℕ) (pass : PartyPass) (text : List ℕ) → pass_of w party ≡ Some pass → pass.wanted ≡ Some text → wanted_by w party ≡ text
wanted_by-is w party pass text p e =
    ap (λ (o : Option PartyPass). unwrap_or (o >>= λ (q : PartyPass). q.wanted) []) p ∙ ap (λ (o : Option (List ℕ)). unwrap_or o []) e

-- what a party unlinked isn't linked
pub not_both : (party : ℕ) (at : Place) → is_linked at ≡ true → is_unlinked_by party at ≡ true → ⊥
not_both party place.Linked l u = let f : false ≡ true = u in cc
not_both party (place.UnlinkedBy other) l u = let f : false ≡ true = l in cc
not_both party place.Freed l u = let f : false ≡ true = l in cc

lives : (x : WorldEntry) → is_linked x.place ≡ true → 0 < x.count → is_living x ≡ true
lives x l h = and_from (is_linked x.place) (nat_lt 0 x.count) l (lt-ltb 0 x.count h)

count_of_living : (x : WorldEntry) → is_living x ≡ true → 0 < x.count
count_of_living x h = ltb-true 0 x.count (and_parts (is_linked x.place) (nat_lt 0 x.count) h).1

module _ (tables : Tables) where
  pub record Keeps (w : World) (party : ℕ) (s : Step) (o : StepReply × World) : Type 0 where
    pub sound : Sound tables o.1
    pub limits : o.1.limits ≡ w.limits
    pub buckets : length o.1.lasts ≡ length w.lasts
    pub told : ReplaysHistory tables w.limits (live_map w) (call_of w party s o.0) (live_map o.1)

  module _ (w : World) (sound : Sound tables w) (party : ℕ) where
    -- a step that is no call, and shows the same map
    silently : {s : Step} {o : StepReply × World} → call_of w party s o.0 ≡ [] → Sound tables o.1 → o.1.limits ≡ w.limits → length o.1.lasts ≡ length w.lasts → live_map o.1 ≡ live_map w → Keeps w party s o
    silently {s} {o} silent sound limits buckets shown = record {
      sound = sound;
      limits = limits;
      buckets = buckets;
      told = subst (λ (calls : List Made). ReplaysHistory tables w.limits (live_map w) calls (live_map o.1)) (sym silent) shown;
    }

    -- a step that is a call
    called : {s : Step} {o : StepReply × World} (call : MapCall) (given : MapReply) → call_of w party s o.0 ≡ made party call given → Sound tables o.1 → o.1.limits ≡ w.limits → length o.1.lasts ≡ length w.lasts
        → MayReply tables w.limits (live_map w) call given (live_map o.1) → Keeps w party s o
    called {s} {o} call given is sound limits buckets may = record {
      sound = sound;
      limits = limits;
      buckets = buckets;
      told = subst (λ (calls : List Made). ReplaysHistory tables w.limits (live_map w) calls (live_map o.1)) (sym is) (live_map o.1, may, refl);
    }

    pass_sound : (pass : PartyPass) → pass_of w party ≡ Some pass → SoundPass tables (length w.lasts) w.entries pass
    pass_sound pass p = find-all (λ (q : PartyPass). q.party == party) (SoundPass tables (length w.lasts) w.entries) w.passes pass p sound.each

    -- a pass that looks at an entry, or decides
    pass_kept : (es : List WorldEntry) (pass new : PartyPass) → new.bucket ≡ pass.bucket → new.dying ≡ pass.dying → ((text : List ℕ) → new.wanted ≡ Some text → pass.wanted ≡ Some text) → SoundPass tables (length w.lasts) es pass → SoundPass tables (length w.lasts) es new
    pass_kept es pass new b d wanted s = record {
      below = rw b s.below;
      right = λ text h. b ∙ s.right text (wanted text h);
      dead = λ e h. s.dead e (sym (ap (λ (xs : List ℕ). has xs e) d) ∙ h);
    }

    -- only the pass changes
    put_sound : (pass new : PartyPass) → pass_of w party ≡ Some pass → new.bucket ≡ pass.bucket → new.dying ≡ pass.dying → ((text : List ℕ) → new.wanted ≡ Some text → pass.wanted ≡ Some text) → Sound tables (with_pass w new)
    put_sound pass new p b d wanted = record {
      table = sound.table;
      each = all_replaced (SoundPass tables (length w.lasts) w.entries) w.passes new sound.each (pass_kept w.entries pass new b d wanted (pass_sound pass p));
    }

    -- an entry counts one more holder
    module _ (k : ℕ) (x : WorldEntry) (at : At w.entries k x) (linked : is_linked x.place ≡ true) (some : 0 < x.count) where
      more : WorldEntry
      more = record x { count = x.count + 1 }

      more_changes : Changes x more
      unfolding more
      more_changes = record { text = refl; bucket = refl; ticket = refl; living = λ _. lives x linked some; zero_stays = λ e. absurd (omega arith) }

      more_table : SoundTable (slice_set w.entries k more) w.lasts (with_one x.ticket w.bag)
      unfolding more
      more_table = table-set w.entries w.lasts w.bag (with_one x.ticket w.bag) k x more sound.table at more_changes
          (let c = sound.table.counted k x at in let t = times-with_one_same x.ticket w.bag in omega (arith, c, t))
          (λ t n. times-with_one_other x.ticket t w.bag n)
          (λ _. linked)

      more_seen : (new : World) → new.entries ≡ slice_set w.entries k more → new.lasts ≡ w.lasts → live_map new ≡ with_held (live_map w) x.text (Some (holding_of more))
      unfolding more
      more_seen new e l = same_map _ _ (ap (λ (xs : List ℕ). length xs) l)
          (λ text.
          ap (λ (es : List WorldEntry). living_at es text) e
          ∙ living_at-changed w.entries w.lasts w.bag sound.table k x more (with_one x.ticket w.bag) at (lives x linked some) more_changes more_table text
          ∙ ap (λ (b : Bool). cond {A = Option Holding} (bytes_eq x.text text) (cond b (Some (holding_of more)) None) (living_at w.entries text)) (lives more linked (omega arith)))
          (λ b. ap (λ (xs : List ℕ). slice_index xs b) l)

      held_now : living_at w.entries x.text ≡ Some (holding_of x)
      held_now = living_at-is w.entries w.lasts w.bag sound.table k x at (lives x linked some)

      more_each : AllByRecursion (SoundPass tables (length w.lasts) (slice_set w.entries k more)) w.passes
      more_each = passes-weaker tables (length w.lasts) w.entries (slice_set w.entries k more) (dead-set w.entries w.lasts w.bag (with_one x.ticket w.bag) k x more sound.table at more_changes) w.passes sound.each

    -- a step that is a call to intern the text that the party wants, by what is held of it
    interned : {s : Step} {o : StepReply × World} (given : MapReply) (pass : PartyPass) (text : List ℕ) (held : Option Holding) → call_of w party s o.0 ≡ made party (map.Intern (wanted_by w party)) given
        → Sound tables o.1 → o.1.limits ≡ w.limits → length o.1.lasts ≡ length w.lasts → pass_of w party ≡ Some pass → pass.wanted ≡ Some text → living_at w.entries text ≡ held
        → MayIntern tables w.limits (live_map w) text held given (live_map o.1) → Keeps w party s o
    interned {s} {o} given pass text held is sound limits buckets p wanted found may =
        called (map.Intern (wanted_by w party)) given is sound limits buckets
        (subst (λ (t : List ℕ). MayReply tables w.limits (live_map w) (map.Intern t) given (live_map o.1)) (sym (wanted_by-is w party pass text p wanted))
        (subst (λ (o' : Option Holding). MayIntern tables w.limits (live_map w) text o' given (live_map o.1)) (sym found) may))

    -- a text that each linked entry was found dying of has no living entry
    none_living : (m : MayLink w party) (k : ℕ) (x : WorldEntry) → At w.entries k x → is_living x ≡ true → x.text ≢ m.text
    none_living m k x at living e =
        let sp = pass_sound m.pass m.found in
        let text = m.text in
        let parts = and_parts (is_linked x.place) (nat_lt 0 x.count) living in
        let same : bytes_eq x.text text ≡ true = (bytes_eq-Decides x.text text).1 e in
        let test = numbered_at (dying_if_linked m.pass.dying text) w.entries 1 k x m.all at in
        elim (or_cases (not (is_linked x.place && bytes_eq x.text text)) (has m.pass.dying (1 + k)) test) [
          | inl no_such ↦
              let yes : (is_linked x.place && bytes_eq x.text text) ≡ true = and_from (is_linked x.place) (bytes_eq x.text text) parts.0 same in
              let clash : not true ≡ true = ap not (sym yes) ∙ no_such in cc
          | inr found ↦
              let dead = sp.dead (1 + k) found in
              let number : dead.0 ≡ k = omega (arith, dead.2) in
              let is : dead.1 ≡ x = at_one w.entries k dead.1 x (subst (λ (i : ℕ). At w.entries i dead.1) number dead.3) at in
              let zero_now : x.count ≡ 0 = sym (ap (λ (z : WorldEntry). z.count) is) ∙ dead.4 in
              let some = count_of_living x living in omega arith
        ]

    right_bucket : (m : MayLink w party) → m.pass.bucket ≡ bucket_of tables (length w.lasts) m.text
    right_bucket m = (pass_sound m.pass m.found).right m.text m.wanted

    absent : (m : MayLink w party) → living_at w.entries m.text ≡ None
    absent m = living_at-none w.entries w.lasts w.bag sound.table m.text (none_living m)

    linked_keeps : (room : Bool) (m : MayLink w party) → last_of w m.pass.bucket < w.limits.serials → Keeps w party (Link room) (reply.Linked (length w.entries + 1) (new_entry w party m).ticket, with_new w party m)
    linked_keeps room m serial =
        let pass = m.pass in
        let text = m.text in
        let sp : SoundPass tables (length w.lasts) w.entries pass = pass_sound pass m.found in
        let y = new_entry w party m in
        let new = with_new w party m in
        let lasts' = slice_set w.lasts pass.bucket (last_of w pass.bucket + 1) in
        let table' : SoundTable (w.entries ++ y ∷ []) lasts' (with_one y.ticket w.bag) = table-push w.entries w.lasts w.bag y sound.table sp.below refl refl refl (none_living m) in
        let each'' = passes-weaker tables (length w.lasts) w.entries (w.entries ++ y ∷ []) (dead-push w.entries w.lasts w.bag y sound.table sp.below refl) w.passes sound.each in
        let longer : length lasts' ≡ length w.lasts = same_length w.entries w.lasts w.bag y sound.table sp.below refl in
        let pass' = decides (looks_at pass (length w.entries + 1)) in
        let first : Holding = holding_of y in
        let shown : live_map new ≡ with_last (with_held (live_map w) text (Some first)) pass.bucket (last_of w pass.bucket + 1) = same_map _ _ longer
        (λ t. if_case (λ o. living_at (w.entries ++ y ∷ []) t ≡ o) (bytes_eq text t) (Some first) (living_at w.entries t)
        (λ e. ap (living_at (w.entries ++ y ∷ [])) (sym (same_text text t e)) ∙ living_at-is (w.entries ++ y ∷ []) lasts' (with_one y.ticket w.bag) table' (length w.entries) y (at_push_new w.entries y) refl)
        (λ e. living_at-push_other w.entries y t (λ q. absurd (let f : bytes_eq text t ≡ true = (bytes_eq-Decides text t).1 q in let g : false ≡ true = sym e ∙ f in cc))))
        (λ b. if_case (λ n. slice_index lasts' b ≡ n) (b == pass.bucket) (last_of w pass.bucket + 1) (last_of w b)
        (λ e. let inside : pass.bucket < length w.lasts = sp.below in
        ap (slice_index lasts') (eqb-true b pass.bucket e) ∙ get_or-set_same w.lasts pass.bucket (last_of w pass.bucket + 1) 0 inside)
        (λ e. get_or-set_other w.lasts pass.bucket b (last_of w pass.bucket + 1) 0 (λ q. absurd (let f : (b == pass.bucket) ≡ true = eq-eqb b pass.bucket q in let g : false ≡ true = sym e ∙ f in cc))))
        in
        interned (holding y.ticket 1) pass text None refl
        (record {
          table = table';
          each = subst (λ (n : ℕ). AllByRecursion (SoundPass tables n (w.entries ++ y ∷ [])) (replaced w.passes pass')) (sym longer)
              (all_replaced (SoundPass tables (length w.lasts) (w.entries ++ y ∷ [])) w.passes pass' each''
              (pass_kept (w.entries ++ y ∷ []) pass pass' refl refl (λ text e. absurd (none-some text e))
              (find-all (λ (q : PartyPass). q.party == party) (SoundPass tables (length w.lasts) (w.entries ++ y ∷ [])) w.passes pass m.found each'')));
        })
        refl longer m.found m.wanted (absent m)
        (inl (subst (λ (b : ℕ). (last_of w b < w.limits.serials) × (holding y.ticket 1 ≡ holding (ticket_of (last_of w b + 1) b) 1)
        × (live_map new ≡ with_last (with_held (live_map w) text (Some (record { ticket = ticket_of (last_of w b + 1) b; holders = 1 }))) b (last_of w b + 1))) (right_bucket m)
        (serial, refl, shown)))

    -- ---- Clone and Give

    ticket_at-is : (k : ℕ) (x : WorldEntry) → At w.entries k x → ticket_at w (suc k) ≡ x.ticket
    ticket_at-is k x at = ap (λ (o : Option WorldEntry). unwrap_or (option_map (λ (z : WorldEntry). z.ticket) o) 0) at

    abbrev held_ticket : (k : ℕ) (x : WorldEntry) → At w.entries k x → is_linked x.place ≡ true → 0 < x.count → IsHeldTicket (live_map w) x.ticket
    held_ticket k x at linked some = record { text = x.text; holders = x.count; held = held_now k x at linked some }

    has_holder : (h : Holds w) → 0 < h.entry.count
    has_holder h = held_counts w.entries w.lasts w.bag sound.table h.k h.entry h.at h.held

    -- a step that is a call on the entry's ticket
    on_ticket : {s : Step} {o : StepReply × World} (call : ℕ → MapCall) (given : ℕ → MapReply) (k : ℕ) (x : WorldEntry) → At w.entries k x → call_of w party s o.0 ≡ made party (call (ticket_at w (suc k))) (given (ticket_at w (suc k)))
        → Sound tables o.1 → o.1.limits ≡ w.limits → length o.1.lasts ≡ length w.lasts → MayReply tables w.limits (live_map w) (call x.ticket) (given x.ticket) (live_map o.1) → Keeps w party s o
    on_ticket {s} {o} call given k x at is sound limits buckets may =
        called _ _ is sound limits buckets (subst (λ (t : ℕ). MayReply tables w.limits (live_map w) (call t) (given t) (live_map o.1)) (sym (ticket_at-is k x at)) may)

    give_keeps : (h : Holds w) → Keeps w party (Give (suc h.k)) (reply.Given (h.entry.count - 1), record (with_entry w (suc h.k) (record h.entry { count = h.entry.count - 1 })) { bag = without_one h.entry.ticket w.bag })
    give_keeps h =
        let k = h.k in
        let x = h.entry in
        let at = h.at in
        let some = has_holder h in
        let linked = sound.table.linked k x at some in
        let living = lives x linked some in
        let y : WorldEntry = record x { count = x.count - 1 } in
        let bag' = without_one x.ticket w.bag in
        let changes : Changes x y = record { text = refl; bucket = refl; ticket = refl; living = λ _. living; zero_stays = λ e. absurd (omega arith) } in
        let one_less : y.count ≡ times y.ticket bag' = let c = sound.table.counted k x at in let t = times-without_one_same x.ticket w.bag h.held in omega (arith, c, t) in
        let table' : SoundTable (slice_set w.entries k y) w.lasts bag' =
        table-set w.entries w.lasts w.bag bag' k x y sound.table at changes one_less (λ t n. times-without_one_other x.ticket t w.bag n) (λ _. linked) in
        let left = with_entry w (suc k) y in
        let new : World = record left { bag = bag' } in
        let shown : live_map new ≡ with_held (live_map w) x.text (unless_given_up (holding_of y)) = same_map _ _ refl
        (λ text.
        living_at-changed w.entries w.lasts w.bag sound.table k x y bag' at living changes table' text
        ∙ ap (λ (o : Option Holding). cond (bytes_eq x.text text) o (living_at w.entries text)) (left_or_gone y linked))
        (λ b. refl) in
        on_ticket map.Give (λ ticket. holding ticket (x.count - 1)) k x at refl
        (record { table = table'; each = passes-weaker tables (length w.lasts) w.entries (slice_set w.entries k y) (dead-set w.entries w.lasts w.bag bag' k x y sound.table at changes) w.passes sound.each })
        refl refl (held_ticket k x at linked some, (refl, shown))
      where
        of_count : (n : ℕ) (h : Holding) → h.holders ≡ n → cond {A = Option Holding} (nat_lt 0 n) (Some h) None ≡ (if n == 0 then None else Some h)
        of_count zero h e = refl
        of_count (suc n) h e =
            let positive : nat_lt 0 (suc n) ≡ true = lt-ltb 0 (suc n) (omega arith) in
            let not_zero : (suc n == 0) ≡ false = false_from_ne_true (suc n == 0) (λ e. let f = eqb-true (suc n) 0 e in omega (arith, f)) in
            ap (λ (b : Bool). cond {A = Option Holding} b (Some h) None) positive ∙ sym (ap (λ (b : Bool). cond {A = Option Holding} b None (Some h)) not_zero)

        left_or_gone : (y : WorldEntry) → is_linked y.place ≡ true → cond {A = Option Holding} (is_living y) (Some (holding_of y)) None ≡ unless_given_up (holding_of y)
        left_or_gone y l = ap (λ (b : Bool). cond {A = Option Holding} (b && nat_lt 0 y.count) (Some (holding_of y)) None) l ∙ of_count y.count (holding_of y) refl

    -- ---- Unlink, Free and Leave

    -- an entry at zero moves
    module _ (k : ℕ) (x : WorldEntry) (at : At w.entries k x) (at_zero : x.count ≡ 0) (to : Place) where
      moved : WorldEntry
      moved = record x { place = to }

      not_living : (z : WorldEntry) → z.count ≡ 0 → is_living z ≡ false
      not_living z e = and_right (is_linked z.place) (nat_lt 0 z.count) (ap (nat_lt 0) e)

      moved_changes : Changes x moved
      unfolding moved
      moved_changes = record { text = refl; bucket = refl; ticket = refl; living = λ l. absurd (let d = not_living moved at_zero in let c : true ≡ false = sym l ∙ d in cc); zero_stays = λ e. e }

      moved_sound : Sound tables (with_entry w (suc k) moved)
      unfolding moved
      moved_sound = record {
        table = table-set w.entries w.lasts w.bag w.bag k x moved sound.table at moved_changes (sound.table.counted k x at) (λ t n. refl) (λ h. absurd (omega arith));
        each = passes-weaker tables (length w.lasts) w.entries (slice_set w.entries k moved) (dead-set w.entries w.lasts w.bag w.bag k x moved sound.table at moved_changes) w.passes sound.each;
      }

      moved_seen : live_map (with_entry w (suc k) moved) ≡ live_map w
      unfolding moved
      moved_seen = same_map _ _ refl (living_at-dead w.entries w.lasts w.bag sound.table k x moved at (not_living x at_zero) (not_living moved at_zero)) (λ b. refl)

    pub unlinked_counts_zero : (k : ℕ) (x : WorldEntry) → At w.entries k x → is_unlinked_by party x.place ≡ true → x.count ≡ 0
    unlinked_counts_zero k x at u = elim (cases_eq x.count 0) [
      | inl e ↦ e
      | inr n ↦ absurd (not_both party x.place (sound.table.linked k x at (omega arith)) u)
    ]

    -- ---- any step

    pub keeps : {s : Step} {o : StepReply × World} → Outcome tables w party s o → Keeps w party s o
    unfolding more moved
    keeps (did.Refused silent) = silently silent sound refl refl refl
    keeps (did.Taken t) =
        silently t.silent
        (record {
          table = sound.table;
          each = all_push (SoundPass tables (length w.lasts) w.entries) w.passes _ sound.each (record { below = t.below sound.table.some; right = t.right; dead = λ e h. false_is_true h });
        })
        refl refl refl
    keeps (did.Dying l wanted none) =
        let sp = pass_sound l.pass l.found in
        silently refl
        (record {
          table = sound.table;
          each = all_replaced (SoundPass tables (length w.lasts) w.entries) w.passes (finds_dying l.pass (suc l.k)) sound.each
              (record {
                below = sp.below;
                right = sp.right;
                dead = λ e h. elim (has-push l.pass.dying (suc l.k) e h) [
                  | inl old ↦ sp.dead e old
                  | inr new ↦ (l.k, l.entry, new, l.at, none)
                ];
              });
        })
        refl refl refl
    keeps (did.Added l wanted some room) =
        let each = more_each l.k l.entry l.at l.linked some in
        let new : World = with_ticket (with_pass (with_entry w (suc l.k) (more l.k l.entry l.at l.linked some)) (decides (looks_at l.pass (suc l.k)))) l.entry.ticket in
        interned (holding l.entry.ticket (l.entry.count + 1)) l.pass l.entry.text (Some (holding_of l.entry)) refl
        (record {
          table = more_table l.k l.entry l.at l.linked some;
          each = all_replaced (SoundPass tables (length w.lasts) (slice_set w.entries l.k (more l.k l.entry l.at l.linked some))) w.passes _ each
              (pass_kept _ l.pass _ refl refl (λ text e. absurd (none-some text e))
              (find-all (λ (q : PartyPass). q.party == party) (SoundPass tables (length w.lasts) (slice_set w.entries l.k (more l.k l.entry l.at l.linked some))) w.passes l.pass l.found each));
        })
        refl refl l.found wanted (held_now l.k l.entry l.at l.linked some) (inl (room, refl, more_seen l.k l.entry l.at l.linked some new refl refl))
    keeps (did.Full l wanted some full) =
        interned (Err fault.FullCount) l.pass l.entry.text (Some (holding_of l.entry)) refl (put_sound l.pass (decides (looks_at l.pass (suc l.k))) l.found refl refl (λ text e. absurd (none-some text e)))
        refl refl l.found wanted (held_now l.k l.entry l.at l.linked some) (inr (full, refl, refl))
    keeps (did.Linked m left) = linked_keeps _ m left
    keeps (did.Memory m left) =
        interned (Err fault.Memory) m.pass m.text None refl (put_sound m.pass (decides m.pass) m.found refl refl (λ text e. absurd (none-some text e)))
        refl refl m.found m.wanted (absent m) (inr (inl (subst (λ (b : ℕ). last_of w b < w.limits.serials) (right_bucket m) left, refl, refl)))
    keeps (did.Spent m spent) =
        interned (Err fault.TicketsSpent) m.pass m.text None refl (put_sound m.pass (decides m.pass) m.found refl refl (λ text e. absurd (none-some text e)))
        refl refl m.found m.wanted (absent m) (inr (inr (subst (λ (b : ℕ). w.limits.serials ≤ last_of w b) (right_bucket m) spent, refl, refl)))
    keeps (did.Cloned h room) =
        let some = has_holder h in
        let linked = sound.table.linked h.k h.entry h.at some in
        let new : World = with_ticket (with_entry w (suc h.k) (more h.k h.entry h.at linked some)) h.entry.ticket in
        on_ticket map.Clone (λ ticket. holding ticket (h.entry.count + 1)) h.k h.entry h.at refl (record { table = more_table h.k h.entry h.at linked some; each = more_each h.k h.entry h.at linked some })
        refl refl (held_ticket h.k h.entry h.at linked some, inl (room, refl, more_seen h.k h.entry h.at linked some new refl refl))
    keeps (did.Not_cloned h full) =
        let some = has_holder h in
        let linked = sound.table.linked h.k h.entry h.at some in
        on_ticket map.Clone (λ ticket. Err fault.FullCount) h.k h.entry h.at refl sound refl refl (held_ticket h.k h.entry h.at linked some, inr (full, refl, refl))
    keeps (did.Given h) = give_keeps h
    keeps (did.Unlinked l none) = silently refl (moved_sound l.k l.entry l.at none (place.UnlinkedBy l.pass.party)) refl refl (moved_seen l.k l.entry l.at none (place.UnlinkedBy l.pass.party))
    keeps (did.Kept l some) = silently refl (put_sound l.pass (looks_at l.pass (suc l.k)) l.found refl refl (λ text h. h)) refl refl refl
    keeps (did.Freed k x at own) =
        let none = unlinked_counts_zero k x at own in
        silently refl (moved_sound k x at none place.Freed) refl refl (moved_seen k x at none place.Freed)
    keeps (did.Left pass found decided all) =
        silently refl (record { table = sound.table; each = all_without_party (SoundPass tables (length w.lasts) w.entries) w.passes party sound.each }) refl refl refl
