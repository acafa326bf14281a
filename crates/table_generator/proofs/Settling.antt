-- How one pair of displacements after another is settled.
use Rattle.std.proofs.Common.{◌≡◌, ◌≢◌, ℕ, ◌+◌, ◌*◌, ◌-◌, ◌%◌, ◌^◌, ◌<◌, ◌≤◌, Bool, true, false, List, [], ◌∷◌, length, get_or, take, drop, set, replicate, sym, ap, ◌∙◌, arith, subst, length-take, length-drop}
use mathlib.Core.Logic.{⊎_elim}
use Rattle.std.proofs.lemmas.Bool.{false≢true, cases_lt, cases_eq}
use Rattle.std.proofs.lemmas.List.{get_or-take, get_or-drop, get_or-set_same, get_or-set_other, get_or-replicate, get_or_past, length-set, length-replicate}
use Rattle.text_forms.specs.declared.phf.Hashes.{Hashes}
use Rattle.text_forms.specs.Phf.{place_of}
use Rattle.table_generator.specs.Grouped.{pair_of, AreGrouped, IsRunEnd}
use Rattle.table_generator.specs.Places.{place_by, is_taken, Fits, Marks, AreApart}

-- what is settled once the texts before `start` are
pub record Settled (pairs bound : ℕ) (hashes : List Hashes) (disps : List (ℕ × ℕ)) (taken : List Bool) (start : ℕ) : Type 0 where
  pub within : start ≤ length hashes
  pub count : length disps ≡ pairs
  pub places : length taken ≡ length hashes
  pub bounded : (b : ℕ) (e : ℕ × ℕ) → b < length disps → ((get_or disps b e).0 < bound) × ((get_or disps b e).1 < bound)
  pub apart : (i j : ℕ) (d : Hashes) → i < j → j < start → place_of (get_or hashes i d) disps (length hashes) ≢ place_of (get_or hashes j d) disps (length hashes)
  pub marked : (i : ℕ) (d : Hashes) → i < start → is_taken taken (place_of (get_or hashes i d) disps (length hashes)) ≡ true
  pub others : (i j : ℕ) (d : Hashes) → i < start → start ≤ j → j < length hashes → pair_of pairs (get_or hashes i d) ≢ pair_of pairs (get_or hashes j d)
  pub fresh : start ≡ 0 → (p : ℕ) → is_taken taken p ≡ false

-- nothing is, at first
pub settled_none : (pairs bound : ℕ) (hashes : List Hashes) (disps : List (ℕ × ℕ)) (taken : List Bool) → 1 ≤ bound → disps ≡ replicate pairs (0, 0) → taken ≡ replicate (length hashes) false
    → Settled pairs bound hashes disps taken 0
settled_none pairs bound hashes disps taken some none free =
    let count : length disps ≡ pairs = ap length none ∙ length-replicate {A = ℕ × ℕ} pairs (0, 0) in
    record {
      within = omega arith;
      count = count;
      places = ap length free ∙ length-replicate (length hashes) false;
      bounded = λ b e h. subst (λ (v : ℕ × ℕ). (v.0 < bound) × (v.1 < bound)) (sym (ap (λ v. get_or v b e) none ∙ get_or-replicate {A = ℕ × ℕ} pairs b (0, 0) e (omega arith))) (omega arith, omega arith);
      apart = λ i j d low h. absurd (omega (arith, h));
      marked = λ i d h. absurd (omega (arith, h));
      others = λ i j d h. absurd (omega (arith, h));
      fresh = λ _ p. ap (λ v. get_or v p false) free ∙ ⊎_elim
          (λ low. get_or-replicate (length hashes) p false false low)
          (λ high. get_or_past (replicate (length hashes) false) p false (omega (arith, high, length-replicate (length hashes) false)))
          (cases_lt p (length hashes));
    }

-- the place of a text whose pair isn't the one at an index doesn't change with that one
place_other : (disps : List (ℕ × ℕ)) (len index : ℕ) (pair : ℕ × ℕ) (h : Hashes) → pair_of (length disps) h ≢ index → place_of h (set disps index pair) len ≡ place_of h disps len
place_other disps len index pair h other =
    ap (λ (v : ℕ × ℕ). (v.1 + h.f1 * v.0 + h.f2) % 2 ^ 32 % len)
    (ap (λ n. get_or (set disps index pair) (h.g % n) (0, 0)) (length-set disps index pair) ∙ get_or-set_other disps index (h.g % length disps) pair (0, 0) other)

-- that of a text of this pair is its place by the new one
place_own : (disps : List (ℕ × ℕ)) (len index : ℕ) (pair : ℕ × ℕ) (h : Hashes) → index < length disps → pair_of (length disps) h ≡ index → place_of h (set disps index pair) len ≡ place_by len pair h
place_own disps len index pair h below own =
    ap (λ (v : ℕ × ℕ). (v.1 + h.f1 * v.0 + h.f2) % 2 ^ 32 % len)
    (ap (λ n. get_or (set disps index pair) (h.g % n) (0, 0)) (length-set disps index pair) ∙ ap (λ n. get_or (set disps index pair) n (0, 0)) own ∙ get_or-set_same disps index pair (0, 0) below)

module _ (pairs bound : ℕ) (hashes : List Hashes) (disps : List (ℕ × ℕ)) (taken : List Bool) (start end : ℕ)
    (s : Settled pairs bound hashes disps taken start) (run : IsRunEnd pairs hashes start end)
    (members : List Hashes) (are : members ≡ take (end - start) (drop start hashes)) where
  -- the members are the texts of the run
  member : (k : ℕ) (d : Hashes) → k < end - start → get_or members k d ≡ get_or hashes (start + k) d
  member k d h = ap (λ xs. get_or xs k d) are ∙ get_or-take (end - start) (drop start hashes) k d h ∙ get_or-drop start hashes k d

  members_count : length members ≡ end - start
  members_count = ap length are ∙ length-take (end - start) (drop start hashes) ∙ omega (arith, length-drop start hashes, run.within)

  member_at : (i : ℕ) (d : Hashes) → start ≤ i → i < end → get_or members (i - start) d ≡ get_or hashes i d
  member_at i d low high = member (i - start) d (omega arith) ∙ ap (λ n. get_or hashes n d) (omega arith)

  module _ (pair : ℕ × ℕ) (index : ℕ) (is : (d : Hashes) → index ≡ pair_of pairs (get_or hashes start d)) (below : index < pairs) (fits : Fits taken members pair)
      (marked : List Bool) (marks : Marks members pair taken marked) where
    -- the pair that a text before the run belongs to is another
    before_other : (i : ℕ) (d : Hashes) → i < start → pair_of (length disps) (get_or hashes i d) ≢ index
    before_other i d h same = s.others i start d h (omega arith) (omega (arith, run.some, run.within)) (ap (λ n. pair_of n (get_or hashes i d)) (sym s.count) ∙ same ∙ is d)

    place_before : (i : ℕ) (d : Hashes) → i < start → place_of (get_or hashes i d) (set disps index pair) (length hashes) ≡ place_of (get_or hashes i d) disps (length hashes)
    place_before i d h = place_other disps (length hashes) index pair (get_or hashes i d) (before_other i d h)

    place_in_run : (i : ℕ) (d : Hashes) → start ≤ i → i < end → place_of (get_or hashes i d) (set disps index pair) (length hashes) ≡ place_by (length taken) pair (get_or members (i - start) d)
    place_in_run i d low high =
        place_own disps (length hashes) index pair (get_or hashes i d) (omega (arith, below, s.count)) (ap (λ n. pair_of n (get_or hashes i d)) s.count ∙ run.same i d low high ∙ sym (is d))
        ∙ ap (λ n. place_by n pair (get_or hashes i d)) (sym s.places)
        ∙ ap (place_by (length taken) pair) (sym (member_at i d low high))

    free_in_run : (i : ℕ) (d : Hashes) → start ≤ i → i < end → is_taken taken (place_of (get_or hashes i d) (set disps index pair) (length hashes)) ≡ false
    free_in_run i d low high = ap (is_taken taken) (place_in_run i d low high) ∙ fits.free (i - start) d (omega (arith, low, high, members_count))

    apart_more : (i j : ℕ) (d : Hashes) → i < j → j < end
        → place_of (get_or hashes i d) (set disps index pair) (length hashes) ≢ place_of (get_or hashes j d) (set disps index pair) (length hashes)
    apart_more i j d low high same = ⊎_elim
        (λ h. s.apart i j d low h (sym (place_before i d (omega arith)) ∙ same ∙ place_before j d h))
        (λ here. ⊎_elim
        (λ h. false≢true (sym (free_in_run j d here high) ∙ ap (is_taken taken) (sym same ∙ place_before i d h) ∙ s.marked i d h))
        (λ there. fits.differ (i - start) (j - start) d (omega arith) (omega (arith, members_count)) (sym (place_in_run i d there (omega arith)) ∙ same ∙ place_in_run j d here high))
        (cases_lt i start))
        (cases_lt j start)

    marked_more : (i : ℕ) (d : Hashes) → i < end → is_taken marked (place_of (get_or hashes i d) (set disps index pair) (length hashes)) ≡ true
    marked_more i d high = ⊎_elim
        (λ h. marks.kept _ (ap (is_taken taken) (place_before i d h) ∙ s.marked i d h))
        (λ here. ap (is_taken marked) (place_in_run i d here high) ∙ marks.marked (i - start) d (omega (arith, members_count)))
        (cases_lt i start)

    bounded_more : (pair.0 < bound) × (pair.1 < bound) → (b : ℕ) (e : ℕ × ℕ) → b < length (set disps index pair) → ((get_or (set disps index pair) b e).0 < bound) × ((get_or (set disps index pair) b e).1 < bound)
    bounded_more small b e h = ⊎_elim
        (λ same. subst (λ (v : ℕ × ℕ). (v.0 < bound) × (v.1 < bound)) (sym (ap (λ n. get_or (set disps index pair) n e) same ∙ get_or-set_same disps index pair e (omega (arith, below, s.count)))) small)
        (λ other. subst (λ (v : ℕ × ℕ). (v.0 < bound) × (v.1 < bound)) (sym (get_or-set_other disps index b pair e other)) (s.bounded b e (omega (arith, h, length-set disps index pair))))
        (cases_eq b index)

    others_more : AreGrouped pairs hashes → (i j : ℕ) (d : Hashes) → i < end → end ≤ j → j < length hashes → pair_of pairs (get_or hashes i d) ≢ pair_of pairs (get_or hashes j d)
    others_more grouped i j d high low within same = ⊎_elim
        (λ h. s.others i j d h (omega (arith, run.some)) within same)
        (λ here.
        let own = run.same i d here high in
        run.stops d (omega arith) (grouped start end j d (omega (arith, run.some)) low within (sym own ∙ same)))
        (cases_lt i start)

    -- with this pair the run is settled too
    pub settled_more : (pair.0 < bound) × (pair.1 < bound) → AreGrouped pairs hashes → Settled pairs bound hashes (set disps index pair) marked end
    settled_more small grouped = record {
      within = run.within;
      count = length-set disps index pair ∙ s.count;
      places = marks.length_same ∙ s.places;
      bounded = bounded_more small;
      apart = apart_more;
      marked = marked_more;
      others = others_more grouped;
      fresh = λ none. absurd (omega (arith, none, run.some));
    }

  -- where no pair fits and there is only one, no displacements place the texts
  pub none_places : (first second : ℕ) → pairs ≡ 1 → ((d1 d2 : ℕ) → d1 < first → d2 < second → Fits taken members (d1, d2) → ⊥)
      → (d1 d2 : ℕ) → d1 < first → d2 < second → AreApart ((d1, d2) ∷ []) (length hashes) hashes → ⊥
  none_places most_first most_second one none d1 d2 p q apart =
      let d = get_or hashes 0 (record { g = 0; f1 = 0; f2 = 0 }) in
      let zero_pair : (h : Hashes) → h.g % 1 ≡ 0 = λ h. omega arith in
      let one_pair : (h k : Hashes) → pair_of pairs h ≡ pair_of pairs k = λ h k. ap (λ n. h.g % n) one ∙ zero_pair h ∙ sym (zero_pair k) ∙ ap (λ n. k.g % n) (sym one) in
      let first : start ≡ 0 = ⊎_elim (λ h. absurd (s.others 0 start d h (omega arith) (omega (arith, run.some, run.within)) (one_pair (get_or hashes 0 d) (get_or hashes start d)))) (λ h. omega (arith, h)) (cases_lt 0 start) in
      let last : end ≡ length hashes = ⊎_elim (λ h. absurd (run.stops d h (one_pair (get_or hashes end d) (get_or hashes start d)))) (λ h. omega (arith, h, run.within)) (cases_lt end (length hashes)) in
      let place_of_one : Hashes → ℕ → ℕ = λ h n. let pair : ℕ × ℕ = get_or {A = ℕ × ℕ} ((d1, d2) ∷ []) n (0, 0) in (pair.1 + h.f1 * pair.0 + h.f2) % 2 ^ 32 % length hashes in
      let place : (h : Hashes) → place_of h ((d1, d2) ∷ []) (length hashes) ≡ place_by (length taken) (d1, d2) h =
      λ h. ap (λ n. place_of_one h n) (zero_pair h) ∙ ap (λ n. place_by n (d1, d2) h) (sym s.places) in
      none d1 d2 p q (record {
        free = λ i e h. s.fresh first _;
        differ = λ i j e low high same. apart i j e low (omega (arith, high, members_count, first, last))
            (place (get_or hashes i e) ∙ ap (place_by (length taken) (d1, d2)) (sym (at first i e (omega arith))) ∙ same ∙ ap (place_by (length taken) (d1, d2)) (at first j e high) ∙ sym (place (get_or hashes j e)));
      })
    where
      at : start ≡ 0 → (i : ℕ) (e : Hashes) → i < length members → get_or members i e ≡ get_or hashes i e
      at first i e h = member i e (omega (arith, h, members_count)) ∙ ap (λ n. get_or hashes n e) (omega (arith, first))
