-- A bucket's list of numbers serves for all entries.
use Rattle.std.proofs.Common.{◌≡◌, ℕ, ◌+◌, ◌<◌, ◌≤◌, ◌≢◌, inl, inr, Bool, true, false, cond, not, List, [], ◌∷◌, ◌++◌, length, get_or, length-set, Option, None, Some, refl, sym, ap, ◌∙◌, subst, arith, zero, suc}
use Rattle.std.specs.Prelude.{slice_get, slice_set, MatchOption, nat_lt, ◌==◌, ◌&&◌, ◌||◌}
use Rattle.std.specs.List.{list_all, position, position_or_len, remove}
use Rattle.std.specs.Option.{option_map_or}
use Rattle.std.specs.Str.{bytes_eq}
use Rattle.std.proofs.lemmas.Bool.{eqb-true, and_parts, and_from, or_cases, cases_Bool, ltb-true, ltb-false}
use Rattle.atomic_steps.specs.World.{WorldEntry, PartyPass, World, is_linked}
use Rattle.atomic_steps.specs.Steps.{entry_at, has, without_one, is_linked_in, looked_at_if_linked, all_looked_at, dying_if_linked, all_found_dying}
use Rattle.atomic_steps.specs.Sound.{At}
use Rattle.atomic_steps.specs.EntryNumbers.{passes_at, AreListed, AreListsKept, AreWithin}
use Rattle.atomic_steps.proofs.lists.Facts.{get_or_at, at_one, at_set_same, at_set_cases, at_push_cases, if_case, numbered_at, numbered_all, implied, has_first, has_then, has_old, has_new, false_is_true}
use Rattle.atomic_steps.proofs.worlds.Kept.{same_text}
use Rattle.atomic_steps.proofs.lists.Places.{there_is}

-- ---- tests

all_by : (p : ℕ → Bool) (numbers : List ℕ) (n : ℕ) → list_all p numbers ≡ true → has numbers n ≡ true → p n ≡ true
all_by p [] n all h = false_is_true h
all_by p (m ∷ numbers) n all h =
    let parts = and_parts (p m) (list_all p numbers) all in
    elim (or_cases (m == n) (has numbers n) h) [
      | inl e ↦ sym (ap p (eqb-true m n e)) ∙ parts.0
      | inr later ↦ all_by p numbers n parts.1 later
    ]

all_from : (p : ℕ → Bool) (numbers : List ℕ) → ((n : ℕ) → p n ≡ true) → list_all p numbers ≡ true
all_from p [] h = refl
all_from p (m ∷ numbers) h = and_from (p m) (list_all p numbers) (h m) (all_from p numbers h)

same_test : (a b : Bool) → (a ≡ true → b ≡ true) → (b ≡ true → a ≡ true) → a ≡ b
same_test true b forth back = sym (forth refl)
same_test false true forth back = back refl
same_test false false forth back = refl

then : (a b : Bool) → (not a || b) ≡ true → a ≡ true → b ≡ true
then true b h e = h
then false b h e = false_is_true e

-- what a test of a number says where the entry is there
at_entry : (f : WorldEntry → Bool) (es : List WorldEntry) (k : ℕ) (x : WorldEntry) → At es k x → option_map_or f (entry_at es (suc k)) true ≡ f x
at_entry f es k x at = ap (λ (o : Option WorldEntry). option_map_or f o true) at

-- a test that holds of each entry holds of each number
of_number : (f : ℕ → WorldEntry → Bool) (es : List WorldEntry) → ((k : ℕ) (x : WorldEntry) → At es k x → f (suc k) x ≡ true) → (n : ℕ) → option_map_or (f n) (entry_at es n) true ≡ true
of_number f es h zero = refl
of_number f es h (suc k) = by_entry (slice_get es k) refl
  where
    by_entry : (o : Option WorldEntry) → slice_get es k ≡ o → option_map_or (f (suc k)) o true ≡ true
    by_entry None e = refl
    by_entry (Some x) e = h k x e

module _ (w : World) (pass : PartyPass) (lists : List (List ℕ)) (numbers : List ℕ) (listed : AreListed w.entries lists) (here : At lists pass.bucket numbers) where
  in_list : (k : ℕ) (x : WorldEntry) → At w.entries k x → is_linked x.place ≡ true → x.bucket ≡ pass.bucket → has numbers (suc k) ≡ true
  in_list k x at linked bucket = listed k x numbers at linked (subst (λ (b : ℕ). At lists b numbers) (sym bucket) here)

  pub seen_same : list_all (passes_at (looked_at_if_linked pass.bucket pass.looked) w.entries) numbers ≡ all_looked_at w pass
  seen_same = same_test _ _
      (λ all. numbered_all (looked_at_if_linked pass.bucket pass.looked) w.entries 1 (λ k x at.
      implied (is_linked_in pass.bucket x) (has pass.looked (1 + k)) (λ inside.
      let parts = and_parts (is_linked x.place) (x.bucket == pass.bucket) inside in
      let tested = all_by (passes_at (looked_at_if_linked pass.bucket pass.looked) w.entries) numbers (suc k) all (in_list k x at parts.0 (eqb-true x.bucket pass.bucket parts.1)) in
      let looked = then (is_linked_in pass.bucket x) (has pass.looked (suc k)) (sym (at_entry (λ entry. not (is_linked_in pass.bucket entry) || has pass.looked (suc k)) w.entries k x at) ∙ tested) inside in
      let e : 1 + k ≡ suc k = omega arith in ap (has pass.looked) e ∙ looked)))
      (λ all. all_from (passes_at (looked_at_if_linked pass.bucket pass.looked) w.entries) numbers
      (of_number (λ n entry. not (is_linked_in pass.bucket entry) || has pass.looked n) w.entries (λ k x at.
      let test = numbered_at (looked_at_if_linked pass.bucket pass.looked) w.entries 1 k x all at in
      let e : suc k ≡ 1 + k = omega arith in ap (λ (n : ℕ). not (is_linked_in pass.bucket x) || has pass.looked n) e ∙ test)))

  pub dying_same : (text : List ℕ) → ((k : ℕ) (x : WorldEntry) → At w.entries k x → x.text ≡ text → x.bucket ≡ pass.bucket)
      → list_all (passes_at (dying_if_linked pass.dying text) w.entries) numbers ≡ all_found_dying w pass text
  dying_same text placed = same_test _ _
      (λ all. numbered_all (dying_if_linked pass.dying text) w.entries 1 (λ k x at.
      implied (is_linked x.place && bytes_eq x.text text) (has pass.dying (1 + k)) (λ of_text.
      let parts = and_parts (is_linked x.place) (bytes_eq x.text text) of_text in
      let tested = all_by (passes_at (dying_if_linked pass.dying text) w.entries) numbers (suc k) all (in_list k x at parts.0 (placed k x at (same_text x.text text parts.1))) in
      let found = then (is_linked x.place && bytes_eq x.text text) (has pass.dying (suc k)) (sym (at_entry (λ entry. not (is_linked entry.place && bytes_eq entry.text text) || has pass.dying (suc k)) w.entries k x at) ∙ tested) of_text in
      let e : 1 + k ≡ suc k = omega arith in ap (has pass.dying) e ∙ found)))
      (λ all. all_from (passes_at (dying_if_linked pass.dying text) w.entries) numbers
      (of_number (λ n entry. not (is_linked entry.place && bytes_eq entry.text text) || has pass.dying n) w.entries (λ k x at.
      let test = numbered_at (dying_if_linked pass.dying text) w.entries 1 k x all at in
      let e : suc k ≡ 1 + k = omega arith in ap (λ (n : ℕ). not (is_linked x.place && bytes_eq x.text text) || has pass.dying n) e ∙ test)))

-- ---- changes

without_keeps : (n m : ℕ) (numbers : List ℕ) → m ≢ n → has numbers m ≡ true → has (without_one n numbers) m ≡ true
without_keeps n m [] other h = false_is_true h
without_keeps n m (x ∷ numbers) other h =
    if_case (λ (ys : List ℕ). has ys m ≡ true) (x == n) numbers (x ∷ without_one n numbers)
    (λ goes. elim (or_cases (x == m) (has numbers m) h) [
      | inl e ↦ absurd (other (sym (eqb-true x m e) ∙ eqb-true x n goes))
      | inr later ↦ later
    ])
    (λ stays. elim (or_cases (x == m) (has numbers m) h) [
      | inl e ↦ has_first (x == m) (has (without_one n numbers) m) e
      | inr later ↦ has_then (x == m) (has (without_one n numbers) m) (without_keeps n m numbers other later)
    ])

-- ---- the place of a number

abbrev IsSpot : List ℕ → ℕ → ℕ → Type 0
IsSpot xs x i = (i < length xs → without_one x xs ≡ remove xs i) × (length xs ≤ i → without_one x xs ≡ xs)

is_spot : (xs : List ℕ) (x : ℕ) → IsSpot xs x (position_or_len (λ y. y == x) xs)
is_spot [] x = (λ h. absurd (omega arith), λ h. refl)
is_spot (z ∷ zs) x =
    let rest = is_spot zs x in
    elim (cases_Bool (z == x)) [
      | inl hit ↦ subst (λ (i : ℕ). IsSpot (z ∷ zs) x i) (sym (at_first hit))
          (λ h. ap (λ (b : Bool). cond b zs (z ∷ without_one x zs)) hit, λ h. absurd (omega arith))
      | inr miss ↦ subst (λ (i : ℕ). IsSpot (z ∷ zs) x i) (sym (at_later miss)) (
        λ h. ap (λ (b : Bool). cond b zs (z ∷ without_one x zs)) miss ∙ ap (λ (ys : List ℕ). z ∷ ys) (rest.0 (omega arith)),
        λ h. ap (λ (b : Bool). cond b zs (z ∷ without_one x zs)) miss ∙ ap (λ (ys : List ℕ). z ∷ ys) (rest.1 (omega arith)),
      )
    ]
  where
    at_first : (z == x) ≡ true → position_or_len (λ y. y == x) (z ∷ zs) ≡ 0
    at_first hit = ap (λ (b : Bool). cond (not b) (1 + position_or_len (λ (y : ℕ). y == x) zs) 0) hit

    at_later : (z == x) ≡ false → position_or_len (λ y. y == x) (z ∷ zs) ≡ suc (position_or_len (λ y. y == x) zs)
    at_later miss = ap (λ (b : Bool). cond (not b) (1 + position_or_len (λ (y : ℕ). y == x) zs) 0) miss ∙ omega arith

-- what an option says of the number's place
pub spot : (xs : List ℕ) (x : ℕ) → MatchOption (position (λ y. y == x) xs) (without_one x xs ≡ xs) (λ at. (at < length xs) × (without_one x xs ≡ remove xs at))
spot xs x =
    let is = is_spot xs x in
    let i = position_or_len (λ (y : ℕ). y == x) xs in
    if_case (λ o. MatchOption o (without_one x xs ≡ xs) (λ at. (at < length xs) × (without_one x xs ≡ remove xs at))) (nat_lt i (length xs)) (Some i) None
    (λ inside. let h = ltb-true i (length xs) inside in (h, is.0 h))
    (λ outside. is.1 (ltb-false i (length xs) outside))

pub listed_none : (lists : List (List ℕ)) → AreListed [] lists
listed_none lists k x numbers at linked here = absurd (let e : ◌≡◌ {A = Option WorldEntry} None (Some x) = at in cc)

module _ (es : List WorldEntry) (lists : List (List ℕ)) (listed : AreListed es lists) where
  -- an entry that changes, and isn't linked anew or elsewhere
  pub listed_set : (k : ℕ) (x y : WorldEntry) → At es k x → y.bucket ≡ x.bucket → (is_linked y.place ≡ true → is_linked x.place ≡ true) → AreListed (slice_set es k y) lists
  listed_set k x y at bucket was j z numbers there linked here = elim (at_set_cases es k y j z there) [
    | inl (e, f) ↦
        let same : z.bucket ≡ x.bucket = ap (λ (v : WorldEntry). v.bucket) f ∙ bucket in
        let in_x = listed k x numbers at (was (sym (ap (λ (v : WorldEntry). is_linked v.place) f) ∙ linked)) (subst (λ (b : ℕ). At lists b numbers) same here) in
        ap (λ (i : ℕ). has numbers (suc i)) e ∙ in_x
    | inr (n, old) ↦ listed j z numbers old linked here
  ]

  -- an entry that isn't linked any more, and is taken out of a list
  pub listed_out : (k : ℕ) (x y : WorldEntry) (b : ℕ) (numbers : List ℕ) → At es k x → is_linked y.place ≡ false → At lists b numbers
      → AreListed (slice_set es k y) (slice_set lists b (without_one (k + 1) numbers))
  listed_out k x y b numbers at gone list j z ns there linked here = elim (at_set_cases es k y j z there) [
    | inl (e, f) ↦ false_is_true (sym gone ∙ sym (ap (λ (v : WorldEntry). is_linked v.place) f) ∙ linked)
    | inr (n, old) ↦ elim (at_set_cases lists b (without_one (k + 1) numbers) z.bucket ns here) [
      | inl (e, f) ↦
          let had = listed j z numbers old linked (subst (λ (i : ℕ). At lists i numbers) (sym e) list) in
          let other : suc j ≢ k + 1 = omega arith in
          ap (λ (xs : List ℕ). has xs (suc j)) f ∙ without_keeps (k + 1) (suc j) numbers other had
      | inr (m, old') ↦ listed j z ns old linked old'
    ]
  ]

  -- one number more in a list
  pub listed_more : (b : ℕ) (numbers : List ℕ) (n : ℕ) → At lists b numbers → AreListed es (slice_set lists b (numbers ++ n ∷ []))
  listed_more b numbers n list j z ns there linked here = elim (at_set_cases lists b (numbers ++ n ∷ []) z.bucket ns here) [
    | inl (e, f) ↦
        let had = listed j z numbers there linked (subst (λ (i : ℕ). At lists i numbers) (sym e) list) in
        ap (λ (xs : List ℕ). has xs (suc j)) f ∙ has_old numbers n (suc j) had
    | inr (m, old) ↦ listed j z ns there linked old
  ]

  -- a new entry whose number stands in its list
  pub listed_push : (y : WorldEntry) (numbers : List ℕ) → At lists y.bucket numbers → has numbers (suc (length es)) ≡ true → AreListed (es ++ y ∷ []) lists
  listed_push y numbers list new j z ns there linked here = elim (at_push_cases es y j z there) [
    | inl old ↦ listed j z ns old linked here
    | inr (e, f) ↦
        let same : ns ≡ numbers = at_one lists y.bucket ns numbers (subst (λ (b : ℕ). At lists b ns) (ap (λ (v : WorldEntry). v.bucket) f) here) list in
        ap (λ (xs : List ℕ). has xs (suc j)) same ∙ ap (λ (i : ℕ). has numbers (suc i)) e ∙ new
  ]

-- a new entry is linked in a bucket, with its number at the end of the list
pub listed_link : (es : List WorldEntry) (lists : List (List ℕ)) → AreListed es lists → (y : WorldEntry) (numbers : List ℕ) → At lists y.bucket numbers
    → (es' : List WorldEntry) → es' ≡ es ++ y ∷ [] → (lists' : List (List ℕ)) → lists' ≡ slice_set lists y.bucket (numbers ++ (length es + 1) ∷ []) → AreListed es' lists'
listed_link es lists listed y numbers list es' is lists' is' =
    let more = listed_more es lists listed y.bucket numbers (length es + 1) list in
    let there = at_set_same lists y.bucket numbers (numbers ++ (length es + 1) ∷ []) list in
    let number : length es + 1 ≡ suc (length es) = omega arith in
    let both = listed_push es (slice_set lists y.bucket (numbers ++ (length es + 1) ∷ [])) more y (numbers ++ (length es + 1) ∷ []) there (has_new numbers (length es + 1) (suc (length es)) number) in
    subst (λ (xs : List WorldEntry). AreListed xs lists') (sym is) (subst (λ (ls : List (List ℕ)). AreListed (es ++ y ∷ []) ls) (sym is') both)

-- ---- what the code keeps

at_place : {X : Type 0} (xs : List X) (k : ℕ) (item d : X) → k < length xs → item ≡ get_or xs k d → At xs k item
at_place xs k item d h is =
    let there = there_is xs k h in
    let same : item ≡ there.0 = is ∙ get_or_at xs k d there.0 there.1 in
    there.1 ∙ ap Some (sym same)

module _ {bits : ℕ} (es : List WorldEntry) (lasts : List ℕ) (lists : List (List ℕ)) (kept : AreListsKept bits es lasts lists) where
  pub kept_change : (k : ℕ) (item y d : WorldEntry) → k < length es → item ≡ get_or es k d → y.bucket ≡ item.bucket → (is_linked y.place ≡ true → is_linked item.place ≡ true) → AreListsKept bits (slice_set es k y) lasts lists
  kept_change k item y d h is bucket was = record {
    buckets = kept.buckets;
    lists = kept.lists;
    listed = listed_set es lists kept.listed k item y (at_place es k item d h is) bucket was;
  }

  pub kept_out : (k : ℕ) (item y d : WorldEntry) (b : ℕ) (numbers new e : List ℕ) → k < length es → item ≡ get_or es k d → is_linked y.place ≡ false → b < length lasts → numbers ≡ get_or lists b e
      → new ≡ without_one (k + 1) numbers → AreListsKept bits (slice_set es k y) lasts (slice_set lists b new)
  kept_out k item y d b numbers new e h is gone below list out = record {
    buckets = kept.buckets;
    lists = length-set lists b new ∙ kept.lists;
    listed = subst (λ (ns : List ℕ). AreListed (slice_set es k y) (slice_set lists b ns)) (sym out)
        (listed_out es lists kept.listed k item y b numbers (at_place es k item d h is) gone (at_place lists b numbers e (let n = kept.lists in let m = kept.buckets in omega (arith, n, m, below)) list));
  }

  pub kept_link : (y : WorldEntry) (numbers new e : List ℕ) (n serial : ℕ) (es' : List WorldEntry) → y.bucket < length lasts → numbers ≡ get_or lists y.bucket e → new ≡ numbers ++ n ∷ [] → n ≡ length es + 1
      → es' ≡ es ++ y ∷ [] → AreListsKept bits es' (slice_set lasts y.bucket serial) (slice_set lists y.bucket new)
  kept_link y numbers new e n serial es' below list is number pushed = record {
    buckets = length-set lasts y.bucket serial ∙ kept.buckets;
    lists = length-set lists y.bucket new ∙ kept.lists;
    listed = listed_link es lists kept.listed y numbers (at_place lists y.bucket numbers e (let n = kept.lists in let m = kept.buckets in omega (arith, n, m, below)) list) es' pushed
        (slice_set lists y.bucket new) (ap (λ (ns : List ℕ). slice_set lists y.bucket ns) is ∙ ap (λ (i : ℕ). slice_set lists y.bucket (numbers ++ i ∷ [])) number);
  }

module _ {bits : ℕ} (w : World) (pass : PartyPass) (lasts : List ℕ) (lists : List (List ℕ)) (kept : AreListsKept bits w.entries lasts lists) (below : pass.bucket < length lasts) (numbers e : List ℕ) (list : numbers ≡ get_or lists pass.bucket e) where
  there : At lists pass.bucket numbers
  there = at_place lists pass.bucket numbers e (let n = kept.lists in let m = kept.buckets in omega (arith, n, m, below)) list

  pub seen_by_list : list_all (passes_at (looked_at_if_linked pass.bucket pass.looked) w.entries) numbers ≡ all_looked_at w pass
  seen_by_list = seen_same w pass lists numbers kept.listed there

  pub dying_by_list : (text : List ℕ) → ((k : ℕ) (x : WorldEntry) → At w.entries k x → x.text ≡ text → x.bucket ≡ pass.bucket) → list_all (passes_at (dying_if_linked pass.dying text) w.entries) numbers ≡ all_found_dying w pass text
  dying_by_list text placed = dying_same w pass lists numbers kept.listed there text placed

-- ---- as the code reads it

-- the pass that was read at a place holds one of the world's buckets
pub within_at : (old w : World) (same : old ≡ w) → AreWithin w → (at : ℕ) (pass mine : PartyPass) → At w.passes at pass → mine ≡ pass → mine.bucket < length old.lasts
within_at old w same within at pass mine there is =
    subst (λ (p : PartyPass). p.bucket < length old.lasts) (sym is) (subst (λ (v : World). pass.bucket < length v.lasts) (sym same) (within at pass there))

pub within_read : (old w : World) (same : old ≡ w) → AreWithin w → (at : ℕ) → at < length w.passes → (mine read d : PartyPass) → read ≡ get_or old.passes at d → mine ≡ read → mine.bucket < length old.lasts
within_read old w same within at h mine read d is view =
    within_at old w same within at read mine (subst (λ (v : World). At v.passes at read) same (at_place old.passes at read d (subst (λ (v : World). at < length v.passes) (sym same) h) is)) view

module _ {bits : ℕ} (old w : World) (same : old ≡ w) (mine pass : PartyPass) (is : mine ≡ pass) (lasts : List ℕ) (lists : List (List ℕ)) (kept : AreListsKept bits old.entries lasts lists) (below : mine.bucket < length lasts)
    (numbers e : List ℕ) (list : numbers ≡ get_or lists mine.bucket e) (es : List WorldEntry) (entries : es ≡ old.entries) where
  pub seen_in : (looked : List ℕ) → looked ≡ mine.looked → (result : Bool) → result ≡ list_all (passes_at (looked_at_if_linked mine.bucket looked) es) numbers → result ≡ all_looked_at w pass
  seen_in looked looks result r =
      r ∙ ap (λ (xs : List WorldEntry). list_all (passes_at (looked_at_if_linked mine.bucket looked) xs) numbers) entries ∙ ap (λ (ns : List ℕ). list_all (passes_at (looked_at_if_linked mine.bucket ns) old.entries) numbers) looks
      ∙ seen_by_list old mine lasts lists kept below numbers e list ∙ (λ i. all_looked_at (same i) (is i))

  pub dying_in : (text dying : List ℕ) → ((k : ℕ) (x : WorldEntry) → At w.entries k x → x.text ≡ text → x.bucket ≡ pass.bucket) → dying ≡ mine.dying
      → (result : Bool) → result ≡ list_all (passes_at (dying_if_linked dying text) es) numbers → result ≡ all_found_dying w pass text
  dying_in text dying placed dies result r =
      r ∙ ap (λ (xs : List WorldEntry). list_all (passes_at (dying_if_linked dying text) xs) numbers) entries ∙ ap (λ (ns : List ℕ). list_all (passes_at (dying_if_linked ns text) old.entries) numbers) dies
      ∙ dying_by_list old mine lasts lists kept below numbers e list text
      (λ k x at t. placed k x (ap (λ (v : World). slice_get v.entries k) (sym same) ∙ at) t ∙ ap (λ (p : PartyPass). p.bucket) (sym is))
      ∙ (λ i. all_found_dying (same i) (is i) text)
