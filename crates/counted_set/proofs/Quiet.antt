-- Entries that are asked in order.
use Rattle.std.proofs.Common.{◌≡◌, ◌≢◌, ℕ, ◌+◌, ◌<◌, ◌≤◌, List, [], ◌∷◌, ◌++◌, length, drop, Option, Some, None, refl, sym, ◌∙◌, ap, subst, append_assoc, arith}
use Rattle.std.proofs.lemmas.List.{append-nil, length-drop}
use Rattle.std.specs.List.{AllByRecursion}
use Rattle.std.specs.Prelude.{⊤}
use Rattle.text_forms.specs.Pass.{PassReply, gone, stays}
use Rattle.counted_set.specs.Chain.{Linked}
use Rattle.counted_set.specs.Quiet.{IsMetAt, IsAsked, AreQuiet, Ends, Meets, MeetsInNode, PassesOthers, PassesQuiet, TakesOutDying}
use Rattle.counted_set.specs.declared.dynamic_set.quiet.Met.{Met}
use Rattle.counted_set.specs.declared.dynamic_set.quiet.Met.TheVariants.{Nothing, Dying, Alike}
use Rattle.counted_set.proofs.Passes.{Goes, all_first, all_out, none_wanted, on_gone, on_stays}
use Rattle.counted_set.specs.PassLeft.{IsPassLeft}
use Rattle.node_chain.proofs.Packs.{gone_on, pack_passed}
use Rattle.node_chain.specs.Packs.{ArePacked, IsWithin, from_on, items_at, joined}
use Rattle.node_chain.specs.Walked.{Walked, passed_by, taken_out}

at_same : {D : Type 0} → (n m : ℕ) (met : Met D) → n ≡ m → IsMetAt n met → IsMetAt m met
at_same n m met is at = subst (λ k. IsMetAt k met) is at

module _ {C S D : Type 0} (gives : C → Linked → PassReply S → C → Type 0) (shows : Linked → D → Type 0) (wanted : Option ℕ) where
  pub met_is : (c d : C) (w u : Walked Linked) (met then : Met D) → met ≡ then → MeetsInNode gives shows wanted c w met d u → MeetsInNode gives shows wanted c w then d u
  met_is c d w u met then is m = subst (λ (n : Met D). MeetsInNode gives shows wanted c w n d u) is m

  -- no entry is at the place
  pub meets_none : (place : ℕ) (c : C) (es : List Linked) → es ≡ [] → Meets gives shows wanted place c es Nothing c
  meets_none place c es none = record { quiet = []; left = []; before = c; split = none; asked = refl; ends = (refl, refl); at = tt }

  -- nothing stands behind the last place of a node
  none_behind : (rest : List Linked) → length rest ≡ 0 → rest ≡ []
  none_behind [] is = refl
  none_behind (e ∷ es) is = absurd (omega (arith, is))

  pub meets_last : (place : ℕ) (c d : C) (e : Linked) (node rest : List Linked) (met : Met D) → drop place node ≡ e ∷ rest → length node ≤ place + 1 → Meets gives shows wanted place c (e ∷ []) met d → Meets gives shows wanted place c (drop place node) met d
  meets_last place c d e node rest met is few m =
      let n = length-drop place node in
      let none : rest ≡ [] = none_behind rest (omega (arith, n, ap length is, few)) in
      subst (λ es. Meets gives shows wanted place c es met d) (sym (is ∙ ap (λ l. e ∷ l) none)) m

  -- what is met at an entry is met at it and those behind
  ends_more : (c d : C) (es more : List Linked) (met : Met D) → met ≢ Nothing → Ends gives shows wanted c es met d → Ends gives shows wanted c (es ++ more) met d
  ends_more c d es more Nothing is ends = absurd (is refl)
  ends_more c d [] more (Dying at shown) is ends = absurd ends
  ends_more c d (e ∷ es) more (Dying at shown) is ends = ends
  ends_more c d [] more (Alike at) is ends = absurd ends
  ends_more c d (e ∷ es) more (Alike at) is ends = ends

  pub meets_stop : (place : ℕ) (c d : C) (e : Linked) (es rest : List Linked) (met : Met D) → es ≡ e ∷ rest → met ≢ Nothing → Meets gives shows wanted place c (e ∷ []) met d → Meets gives shows wanted place c es met d
  meets_stop place c d e es rest met is some m = record {
    quiet = m.quiet;
    left = m.left ++ rest;
    before = m.before;
    split = is ∙ ap (λ l. l ++ rest) m.split ∙ append_assoc m.quiet m.left rest;
    asked = m.asked;
    ends = ends_more m.before d m.left rest met some m.ends;
    at = m.at;
  }

  -- an entry is quiet, and the others are asked
  whole : (place : ℕ) (c d : C) (es : List Linked) → (m : Meets gives shows wanted place c es Nothing d) → m.quiet ≡ es
  whole place c d es m = sym (append-nil m.quiet) ∙ ap (λ l. m.quiet ++ l) (sym m.ends.0) ∙ sym m.split

  all_quiet : (place : ℕ) (c d : C) (es : List Linked) → Meets gives shows wanted place c es Nothing d → AreQuiet gives shows wanted c es d
  all_quiet place c d es m =
      subst (λ l. AreQuiet gives shows wanted c l d) (whole place c d es m) (subst (AreQuiet gives shows wanted c m.quiet) m.ends.1 m.asked)

  pub meets_on : (place next : ℕ) (c m d : C) (e : Linked) (es rest : List Linked) (met : Met D) → next ≡ place + 1 → es ≡ e ∷ rest → Meets gives shows wanted place c (e ∷ []) Nothing m → Meets gives shows wanted next m rest met d
      → Meets gives shows wanted place c es met d
  meets_on place next c m d e es rest met then is first on =
      let a : AreQuiet gives shows wanted c (e ∷ []) m = all_quiet place c m (e ∷ []) first in
      let n : next + length on.quiet ≡ place + length (e ∷ on.quiet) = omega (arith, then) in record {
        quiet = e ∷ on.quiet;
        left = on.left;
        before = on.before;
        split = is ∙ ap (λ l. e ∷ l) on.split;
        asked = (m, subst (IsAsked gives shows wanted c e stays) a.2 a.1, on.asked);
        ends = on.ends;
        at = at_same (next + length on.quiet) (place + length (e ∷ on.quiet)) met n on.at;
      }

  -- what is left of all entries, and what was passed of them
  pub split_of : (c d : C) (w u : Walked Linked) (met : Met D) → (m : MeetsInNode gives shows wanted c w met d u) → w.left ≡ m.meets.quiet ++ u.left
  split_of c d w u met m = m.was ∙ ap (λ l. l ++ m.behind) m.meets.split ∙ append_assoc m.meets.quiet m.meets.left m.behind ∙ ap (λ l. m.meets.quiet ++ l) (sym m.left)

  dying_first : (place : ℕ) (shown : D) (c d : C) (es : List Linked) → Ends gives shows wanted c es (Dying place shown) d → (e : Linked) × (rest : List Linked) × (es ≡ e ∷ rest) × IsAsked gives shows wanted c e gone d × shows e shown
  dying_first place shown c d [] ends = absurd ends
  dying_first place shown c d (e ∷ rest) ends = (e, rest, refl, ends.0, ends.1)

  alike_first : (place : ℕ) (c d : C) (es : List Linked) → Ends gives shows wanted c es (Alike place) d → (e : Linked) × (rest : List Linked) × (es ≡ e ∷ rest) × (wanted ≡ Some e.hash) × (c ≡ d)
  alike_first place c d [] ends = absurd ends
  alike_first place c d (e ∷ rest) ends = (e, rest, refl, ends.0, ends.1)

  pub some_dying : (place : ℕ) (shown : D) (c d : C) (w u : Walked Linked) → (m : MeetsInNode gives shows wanted c w (Dying place shown) d u) → (e : Linked) × (rest : List Linked) × (u.left ≡ e ∷ rest) × IsAsked gives shows wanted m.meets.before e gone d × shows e shown
  some_dying place shown c d w u m =
      let f = dying_first place shown m.meets.before d m.meets.left m.meets.ends in
      (f.0, f.1 ++ m.behind, m.left ∙ ap (λ l. l ++ m.behind) f.2, f.3, f.4)

  pub left_dying : (place : ℕ) (shown : D) (c d : C) (es : List Linked) → Ends gives shows wanted c es (Dying place shown) d → 0 < length es
  left_dying place shown c d [] ends = absurd ends
  left_dying place shown c d (e ∷ rest) ends = omega arith

  pub left_alike : (place : ℕ) (c d : C) (es : List Linked) → Ends gives shows wanted c es (Alike place) d → 0 < length es
  left_alike place c d [] ends = absurd ends
  left_alike place c d (e ∷ rest) ends = omega arith

  module _ (at : ℕ) (w : Walked (List Linked)) (p : List Linked) (qs : List (List Linked)) (old : Walked Linked) (c d : C) (packed : ArePacked at w) (is : w.left ≡ p ∷ qs) (view : items_at at w ≡ old) where
    left_then : old.left ≡ drop at p ++ joined qs
    left_then = sym (ap (λ (x : Walked Linked). x.left) view) ∙ ap (from_on at) is

    some_then : 0 < length (drop at p)
    some_then = let below : at < length p = subst (IsWithin at) is packed.0 in let n = length-drop at p in omega (arith, below, n)

    -- the place is now before what was met
    met_at : (to : ℕ) (met : Met D) → (m : Meets gives shows wanted at c (drop at p) met d) → 0 < length m.left → to ≡ at + length m.quiet → MeetsInNode gives shows wanted c old met d (items_at to w)
    met_at to met m more place =
        let on = gone_on at to w p qs m.quiet m.left packed is m.split more place in record {
          place = at;
          node = drop at p;
          behind = joined qs;
          was = left_then;
          some = some_then;
          meets = m;
          passed = on.0 ∙ ap (λ (x : Walked Linked). x.passed ++ m.quiet) view;
          left = on.1;
        }

    -- the node was passed by
    passed_node : (v : Walked (List Linked)) → v ≡ passed_by w w.left → Meets gives shows wanted at c (drop at p) Nothing d → MeetsInNode gives shows wanted c old Nothing d (items_at 0 v)
    passed_node v next m =
        let on = pack_passed at w v p qs packed is next in record {
          place = at;
          node = drop at p;
          behind = joined qs;
          was = left_then;
          some = some_then;
          meets = m;
          passed = on.0 ∙ ap (λ (x : Walked Linked). x.passed ++ drop at p) view ∙ ap (λ l. old.passed ++ l) (sym (whole at c d (drop at p) m));
          left = on.1 ∙ ap (λ l. l ++ joined qs) (sym m.ends.0);
        }

  pub met_in_node : (at to : ℕ) (w : Walked (List Linked)) (p : List Linked) (qs : List (List Linked)) (old : Walked Linked) (met : Met D) (c d : C) → ArePacked at w → w.left ≡ p ∷ qs → items_at at w ≡ old
      → (m : Meets gives shows wanted at c (drop at p) met d) → 0 < length m.left → to ≡ at + length m.quiet → MeetsInNode gives shows wanted c old met d (items_at to w)
  met_in_node at to w p qs old met c d packed is view m more place = met_at at w p qs old c d packed is view to met m more place

  pub node_is_quiet : (at : ℕ) (w v : Walked (List Linked)) (p : List Linked) (qs : List (List Linked)) (old : Walked Linked) (c d : C) → ArePacked at w → w.left ≡ p ∷ qs → v ≡ passed_by w w.left → items_at at w ≡ old
      → Meets gives shows wanted at c (drop at p) Nothing d → MeetsInNode gives shows wanted c old Nothing d (items_at 0 v)
  node_is_quiet at w v p qs old c d packed is next view m = passed_node at w p qs old c d packed is view v next m

all_behind : (P : Linked → Type 0) (es rest : List Linked) → AllByRecursion P (es ++ rest) → AllByRecursion P rest
all_behind P [] rest all = all
all_behind P (e ∷ es) rest all = all_behind P es rest all.1

pub hash_follows : (text : List ℕ) (hash : ℕ) (e : Linked) → (e.text ≡ text → e.hash ≡ hash) → Some text ≡ Some e.text → Some hash ≡ Some e.hash
hash_follows text hash e follows is = let same : e.text ≡ text = cc in ap Some (sym (follows same))

-- An entry of the wanted text has the wanted hash.
module _ {C S D : Type 0} (gives : C → Linked → PassReply S → C → Type 0) (shows : Linked → D → Type 0) (text : Option (List ℕ)) (hash : Option ℕ) (P : Linked → Type 0)
    (follows : (e : Linked) → P e → text ≡ Some e.text → hash ≡ Some e.hash) where
  -- a pass goes on over entries that are quiet
  goes_over : (c m : C) (w u : Walked Linked) (es : List Linked) → AllByRecursion P w.left → w.left ≡ es ++ u.left → u.passed ≡ w.passed ++ es → AreQuiet gives shows hash c es m → Goes gives text c w m u
  goes_over c m w u [] all split passed asked answer d v p =
      let same : u ≡ w = λ i. record { passed = (passed ∙ append-nil w.passed) i; left = (sym split) i } in
      subst (λ (x : Walked Linked). IsPassLeft gives text c x answer d v) same (subst (λ k. IsPassLeft gives text k u answer d v) (sym asked) p)
  goes_over c m w u (e ∷ es) all split passed asked answer d v p =
      let both : P e × AllByRecursion P (es ++ u.left) = subst (AllByRecursion P) split all in
      let x : Walked Linked = record { passed = w.passed ++ e ∷ []; left = es ++ u.left } in
      on_stays gives c asked.0 w x e (es ++ u.left) split text (λ is. asked.1.0 (follows e both.0 is)) asked.1.1 (sym (ap (passed_by w) split)) answer d v
      (goes_over asked.0 m x u es both.1 refl (passed ∙ sym (append_assoc w.passed (e ∷ []) es)) asked.2 answer d v p)

  module _ (c d : C) (w u : Walked Linked) (all : AllByRecursion P w.left) where
    pub all_left : (met : Met D) → MeetsInNode gives shows hash c w met d u → AllByRecursion P u.left
    all_left met m = all_behind P m.meets.quiet u.left (subst (AllByRecursion P) (split_of gives shows hash c d w u met m) all)

    goes_before : (met : Met D) → (m : MeetsInNode gives shows hash c w met d u) → Goes gives text c w m.meets.before u
    goes_before met m = goes_over c m.meets.before w u m.meets.quiet all (split_of gives shows hash c d w u met m) m.passed m.meets.asked

    pub goes_quiet : MeetsInNode gives shows hash c w Nothing d u → Goes gives text c w d u
    goes_quiet m answer e v p = goes_before Nothing m answer e v (subst (λ k. IsPassLeft gives text k u answer e v) (sym m.meets.ends.1) p)

    pub goes_alike : (place : ℕ) → MeetsInNode gives shows hash c w (Alike place) d u → Goes gives text c w d u
    goes_alike place m answer e v p =
        let f = alike_first gives shows hash place m.meets.before d m.meets.left m.meets.ends in
        goes_before (Alike place) m answer e v (subst (λ k. IsPassLeft gives text k u answer e v) (sym f.4) p)

    -- and over one that is dying and taken out
    pub goes_dying : (place : ℕ) (shown : D) (x : Walked Linked) → MeetsInNode gives shows hash c w (Dying place shown) d u → x ≡ taken_out u u.left → Goes gives text c w d x
    goes_dying place shown x m out answer e v p =
        let f = some_dying gives shows hash place shown c d w u m in
        let here = all_first P u f.0 f.1 f.2 (all_left (Dying place shown) m) in
        goes_before (Dying place shown) m answer e v
        (on_gone gives m.meets.before d u x f.0 f.1 f.2 text (λ is. f.3.0 (follows f.0 here is)) f.3.1 out answer e v p)

    -- so it goes on over those of other texts
    past : (met : Option (Met D)) (v : Walked Linked) → PassesQuiet gives shows hash c w met d u → TakesOutDying met u v → Goes gives text c w d v × AllByRecursion P v.left
    past None v m out =
        let same : v ≡ w = out ∙ m.1 in (
          λ answer e x p. subst (λ (y : Walked Linked). IsPassLeft gives text c y answer e x) same (subst (λ k. IsPassLeft gives text k v answer e x) (sym m.2) p),
          subst (λ (y : Walked Linked). AllByRecursion P y.left) (sym same) all,
        )
    past (Some Nothing) v m out =
        (λ answer e x p. goes_quiet m answer e x (subst (λ (y : Walked Linked). IsPassLeft gives text d y answer e x) out p), subst (λ (y : Walked Linked). AllByRecursion P y.left) (sym out) (all_left Nothing m))
    past (Some (Dying at shown)) v m out =
        let f = some_dying gives shows hash at shown c d w u m in
        (λ answer e x p. goes_dying at shown v m out answer e x p, all_out P u v f.0 f.1 f.2 out (all_left (Dying at shown) m))
    past (Some (Alike at)) v m out =
        (λ answer e x p. goes_alike at m answer e x (subst (λ (y : Walked Linked). IsPassLeft gives text d y answer e x) out p), subst (λ (y : Walked Linked). AllByRecursion P y.left) (sym out) (all_left (Alike at) m))

  pub goes_past : (c d : C) (w v : Walked Linked) → AllByRecursion P w.left → PassesOthers gives shows hash c w d v → Goes gives text c w d v × AllByRecursion P v.left
  goes_past c d w v all m = past c d w m.before all m.met v m.quiet m.out

each : (P : Linked → Type 0) → ((e : Linked) → P e) → (es : List Linked) → AllByRecursion P es
each P all [] = tt
each P all (e ∷ es) = (all e, each P all es)

-- no text is wanted
module _ {C S D : Type 0} (gives : C → Linked → PassReply S → C → Type 0) (shows : Linked → D → Type 0) (c d : C) (w u : Walked Linked) where
  unwanted : (e : Linked) → ⊤ → ◌≡◌ {A = Option (List ℕ)} None (Some e.text) → ◌≡◌ {A = Option ℕ} None (Some e.hash)
  unwanted e t is = absurd (none_wanted e.text is)

  pub prunes_quiet : MeetsInNode gives shows None c w Nothing d u → Goes gives None c w d u
  prunes_quiet m answer e v p = goes_quiet gives shows None None (λ e. ⊤) unwanted c d w u (each (λ e. ⊤) (λ e. tt) w.left) m answer e v p

  pub prunes_dying : (place : ℕ) (shown : D) (x : Walked Linked) → MeetsInNode gives shows None c w (Dying place shown) d u → x ≡ taken_out u u.left → Goes gives None c w d x
  prunes_dying place shown x m out answer e v p = goes_dying gives shows None None (λ e. ⊤) unwanted c d w u (each (λ e. ⊤) (λ e. tt) w.left) place shown x m out answer e v p
