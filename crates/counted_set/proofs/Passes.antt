-- How a pass goes on by one entry.
use Rattle.std.proofs.Common.{◌≡◌, ◌≢◌, ℕ, ◌<◌, List, [], ◌∷◌, ◌++◌, length, map, refl, sym, ◌∙◌, ap, subst, append_assoc, arith}
use Rattle.std.proofs.lemmas.List.{append-nil}
use Rattle.std.specs.List.{AllByRecursion}
use Rattle.std.specs.Prelude.{Option, Some, None}
use Rattle.text_forms.specs.Pass.{PassReply, added, full, died, gone, stays, Asked, Outcome, found, found_full, absent, outcome, kept}
use Rattle.counted_set.specs.Chain.{Linked}
use Rattle.counted_set.specs.Counted.{Replied, found_by, reply_of}
use Rattle.counted_set.specs.PassLeft.{GoesOnAfter, IsPassLeft}
use Rattle.node_chain.specs.Walked.{Walked, passed_by, taken_out}
use Rattle.counted_set.specs.declared.dynamic_set.counts.CountReply.{CountReply}
use Rattle.counted_set.specs.declared.dynamic_set.counts.CountReply.TheVariants.{Added, Dying, Full}
use Rattle.counted_set.specs.declared.dynamic_set.counts.Pass.{Pass}
use Rattle.counted_set.specs.declared.dynamic_set.counts.Pass.TheVariants as pass
use Rattle.counted_set.specs.declared.dynamic_set.bucket.Next.TheVariants.{Answer, GoOn}

abbrev texts_of : List Linked → List (List ℕ)
texts_of es = map (λ e. e.text) es

-- the next entry was kept, or taken out
pub kept_next : (w u : Walked Linked) (e : Linked) (rest : List Linked) → w.left ≡ e ∷ rest → u ≡ passed_by w w.left → u ≡ record { passed = w.passed ++ e ∷ []; left = rest }
kept_next w u e rest at is = is ∙ ap (passed_by w) at

pub out_next : (w u : Walked Linked) (e : Linked) (rest : List Linked) → w.left ≡ e ∷ rest → u ≡ taken_out w w.left → u ≡ record { passed = w.passed; left = rest }
out_next w u e rest at is = is ∙ ap (taken_out w) at

-- what holds of all that is left
pub all_first : (P : Linked → Type 0) (w : Walked Linked) (e : Linked) (rest : List Linked) → w.left ≡ e ∷ rest → AllByRecursion P w.left → P e
all_first P w e rest at all = let both : AllByRecursion P (e ∷ rest) = subst (AllByRecursion P) at all in both.0

pub all_kept : (P : Linked → Type 0) (w u : Walked Linked) (e : Linked) (rest : List Linked) → w.left ≡ e ∷ rest → u ≡ passed_by w w.left → AllByRecursion P w.left → AllByRecursion P u.left
all_kept P w u e rest at is all =
    let both : AllByRecursion P (e ∷ rest) = subst (AllByRecursion P) at all in
    subst (λ (x : Walked Linked). AllByRecursion P x.left) (sym (kept_next w u e rest at is)) both.1

pub all_out : (P : Linked → Type 0) (w u : Walked Linked) (e : Linked) (rest : List Linked) → w.left ≡ e ∷ rest → u ≡ taken_out w w.left → AllByRecursion P w.left → AllByRecursion P u.left
all_out P w u e rest at is all =
    let both : AllByRecursion P (e ∷ rest) = subst (AllByRecursion P) at all in
    subst (λ (x : Walked Linked). AllByRecursion P x.left) (sym (out_next w u e rest at is)) both.1

module _ {C S : Type 0} (gives : C → Linked → PassReply S → C → Type 0) where
  -- whatever a pass finds and leaves from here on, it does from the start on
  abbrev pub Goes : Option (List ℕ) → C → Walked Linked → C → Walked Linked → Type 0
  Goes wanted c w m u = (finds : Outcome S) (d : C) (v : Walked Linked) → IsPassLeft gives wanted m u finds d v → IsPassLeft gives wanted c w finds d v

  -- one reply more at the front
  module _ (wanted then : Option (List ℕ)) (c m : C) (w u : Walked Linked) (e : Linked) (rest : List Linked) (r : PassReply S) (finds after_it : Outcome S) where
    on : w.left ≡ e ∷ rest → u ≡ record { passed = w.passed ++ kept (e ∷ []) (r ∷ []); left = rest } → gives c e r m
        → ((rs : List (PassReply S)) → Asked then (texts_of rest) rs → Asked wanted (e.text ∷ texts_of rest) (r ∷ rs))
        → ((rs : List (PassReply S)) → kept (e ∷ rest) (r ∷ rs) ≡ kept (e ∷ []) (r ∷ []) ++ kept rest rs)
        → ((rs : List (PassReply S)) → after_it ≡ outcome rs → finds ≡ outcome (r ∷ rs))
        → (d : C) (v : Walked Linked) → IsPassLeft gives then m u after_it d v → IsPassLeft gives wanted c w finds d v
    on at is gave asks keeps answers d v p =
        let rs = p.pass.replies in
        let left : u.left ≡ rest = ap (λ (x : Walked Linked). x.left) is in
        let passed : u.passed ≡ w.passed ++ kept (e ∷ []) (r ∷ []) = ap (λ (x : Walked Linked). x.passed) is in
        record {
          after = kept (e ∷ rest) (r ∷ rs);
          pass = record {
            replies = r ∷ rs;
            given = subst (λ l. Replied gives c l (r ∷ rs) d) (sym at) (m, gave, subst (λ l. Replied gives m l rs d) left p.pass.given);
            asked = subst (λ l. Asked wanted (texts_of l) (r ∷ rs)) (sym at) (asks rs (subst (λ l. Asked then (texts_of l) rs) left p.pass.asked));
            answers = answers rs p.pass.answers;
            left = ap (λ l. kept l (r ∷ rs)) (sym at);
          };
          all = p.all ∙ ap (λ l. l ++ p.after) passed ∙ append_assoc w.passed (kept (e ∷ []) (r ∷ [])) p.after
              ∙ ap (λ l. w.passed ++ l) (ap (λ l. kept (e ∷ []) (r ∷ []) ++ l) (p.pass.left ∙ ap (λ l. kept l rs) left) ∙ sym (keeps rs));
        }

  module _ (c m : C) (w u : Walked Linked) (e : Linked) (rest : List Linked) (at : w.left ≡ e ∷ rest) where
    -- an entry that isn't wanted stays, or is gone
    pub on_stays : (wanted : Option (List ℕ)) → wanted ≢ Some e.text → gives c e stays m → u ≡ passed_by w w.left → Goes wanted c w m u
    on_stays wanted other gave is finds d v p =
        on wanted wanted c m w u e rest stays finds finds at (kept_next w u e rest at is) gave (λ rs h. (other, h)) (λ rs. refl) (λ rs h. h) d v p

    pub on_gone : (wanted : Option (List ℕ)) → wanted ≢ Some e.text → gives c e gone m → u ≡ taken_out w w.left → Goes wanted c w m u
    on_gone wanted other gave is finds d v p =
        on wanted wanted c m w u e rest gone finds finds at (out_next w u e rest at is ∙ nothing) gave (λ rs h. (other, h)) (λ rs. refl) (λ rs h. h) d v p
      where
        nothing : (let x : Walked Linked = record { passed = w.passed; left = rest } in x) ≡ record { passed = w.passed ++ []; left = rest }
        nothing = ap (λ l. let x : Walked Linked = record { passed = l; left = rest } in x) (sym (append-nil w.passed))

    -- an entry of the text died, was added or is full
    pub on_died : (text : List ℕ) → e.text ≡ text → gives c e died m → u ≡ taken_out w w.left → Goes (Some text) c w m u
    on_died text same gave is finds d v p =
        on (Some text) (Some text) c m w u e rest died finds finds at (out_next w u e rest at is ∙ nothing) gave (λ rs h. (ap Some (sym same), h)) (λ rs. refl) (λ rs h. h) d v p
      where
        nothing : (let x : Walked Linked = record { passed = w.passed; left = rest } in x) ≡ record { passed = w.passed ++ []; left = rest }
        nothing = ap (λ l. let x : Walked Linked = record { passed = l; left = rest } in x) (sym (append-nil w.passed))

    pub on_added : (text : List ℕ) (s : S) → e.text ≡ text → gives c e (added s) m → u ≡ passed_by w w.left
        → (d : C) (v : Walked Linked) → IsPassLeft gives None m u absent d v → IsPassLeft gives (Some text) c w (found s) d v
    on_added text s same gave is d v p =
        on (Some text) None c m w u e rest (added s) (found s) absent at (kept_next w u e rest at is) gave (λ rs h. (ap Some (sym same), h)) (λ rs. refl) (λ rs h. refl) d v p

    pub on_full : (text : List ℕ) → e.text ≡ text → gives c e full m → u ≡ passed_by w w.left
        → (d : C) (v : Walked Linked) → IsPassLeft gives None m u absent d v → IsPassLeft gives (Some text) c w found_full d v
    on_full text same gave is d v p =
        on (Some text) None c m w u e rest full found_full absent at (kept_next w u e rest at is) gave (λ rs h. (ap Some (sym same), h)) (λ rs. refl) (λ rs h. refl) d v p

  module _ {D F G : Type 0} (c m d : C) (w v : Walked Linked) (e : Linked) (reply : CountReply S D F G) (gave : gives c e (reply_of reply) m) where
    -- a pass that has its answer after this reply answers that
    pub on_answered : (text : List ℕ) (rest : List Linked) (answer : Pass S G) → w.left ≡ e ∷ rest → e.text ≡ text → GoesOnAfter gives reply m w (Answer answer) d v
        → IsPassLeft gives (Some text) c w (found_by answer) d v
    on_answered text rest answer at same then = of_reply reply answer gave then
      where
        of_reply : (r : CountReply S D F G) (a : Pass S G) → gives c e (reply_of r) m → GoesOnAfter gives r m w (Answer a) d v → IsPassLeft gives (Some text) c w (found_by a) d v
        of_reply (Added s) (pass.Found t) given f = subst (λ (x : S). IsPassLeft gives (Some text) c w (found x) d v) (sym f.0) (on_added c m w (passed_by w w.left) e rest at text s same given refl d v f.1)
        of_reply (Added s) (pass.Full g) given f = absurd f
        of_reply (Added s) (pass.Absent g) given f = absurd f
        of_reply (Full shown grant) (pass.Full g) given f = on_full c m w (passed_by w w.left) e rest at text same given refl d v f
        of_reply (Full shown grant) (pass.Found t) given f = absurd f
        of_reply (Full shown grant) (pass.Absent g) given f = absurd f
        of_reply (Dying shown grant) a given f = absurd f

    -- and one that has none goes on without the entry
    pub died_where_going_on : (grant : G) → GoesOnAfter gives reply m w (GoOn grant) d v → gives c e died d × (v ≡ taken_out w w.left)
    died_where_going_on grant then = of_reply reply gave then
      where
        of_reply : (r : CountReply S D F G) → gives c e (reply_of r) m → GoesOnAfter gives r m w (GoOn grant) d v → gives c e died d × (v ≡ taken_out w w.left)
        of_reply (Added s) given f = absurd f
        of_reply (Full shown g) given f = absurd f
        of_reply (Dying shown g) given f = (subst (gives c e died) f.0 given, f.1)

-- an entry that fails the test is of another text, where the hash follows from the text
pub not_wanted : (text : List ℕ) (hash : ℕ) (e : Linked) → (e.text ≡ text → e.hash ≡ hash) → ((e.hash ≡ hash) × (e.text ≡ text) → ⊥) → Some text ≢ Some e.text
not_wanted text hash e follows fails same = let is : e.text ≡ text = cc in fails (follows is, is)

pub none_wanted : (text : List ℕ) → None ≢ Some text
none_wanted text same = let e : ◌≡◌ {A = Option (List ℕ)} None (Some text) = same in cc

-- where no entry is behind the next, none is taken out behind it
pub none_behind : {C S : Type 0} → (gives : C → Linked → PassReply S → C → Type 0) (c : C) (w : Walked Linked) → 0 < length w.left → (1 < length w.left → ⊥) → IsPassLeft gives None c (passed_by w w.left) absent c w
none_behind gives c w some few = of_lists w.passed w.left some few
  where
    of_lists : (passed left : List Linked) → 0 < length left → (1 < length left → ⊥) → (let w : Walked Linked = record { passed = passed; left = left } in IsPassLeft gives None c (passed_by w left) absent c w)
    of_lists passed [] some few = absurd (omega (arith, some))
    of_lists passed (e ∷ []) some few = record { after = []; pass = record { replies = []; given = refl; asked = tt; answers = refl; left = refl }; all = sym (append-nil (passed ++ e ∷ [])) }
    of_lists passed (e ∷ f ∷ es) some few = absurd (few (omega arith))
