-- A place among packs moves on, and packs lose items.
use Rattle.std.proofs.Common.{◌≡◌, ℕ, ◌+◌, ◌-◌, ◌<◌, ◌≤◌, List, [], ◌∷◌, ◌++◌, Option, Some, None, sym, refl, ap, ◌∙◌, subst, length, take, drop, get_or, arith, append_assoc}
use Rattle.std.proofs.lemmas.List.{drop_more, take_more, take_all, drop_all, take_at, drop_at, length-append, length-drop, length-take-le, length_push, take-append-drop, append-nil}
use Rattle.std.specs.Borrow.{Bor}
use Rattle.node_chain.specs.Packs.{joined, before, from_on, items_at, IsAt, IsWithin, HaveItems, ArePacked}
use Rattle.node_chain.specs.Walked.{Walked, IsNext, at_start, linked, passed_by, taken_out}

module _ {X : Type 0} where
  none_of : (xs : List X) → length xs ≡ 0 → xs ≡ []
  none_of [] z = refl
  none_of (x ∷ xs) z = absurd (omega (arith, z))

  joined_push : (ps : List (List X)) (p : List X) → joined (ps ++ p ∷ []) ≡ joined ps ++ p
  joined_push [] p = append-nil p
  joined_push (q ∷ ps) p = ap (λ l. q ++ l) (joined_push ps p) ∙ sym (append_assoc q (joined ps) p)

  joined_append : (ps qs : List (List X)) → joined (ps ++ qs) ≡ joined ps ++ joined qs
  joined_append [] qs = refl
  joined_append (p ∷ ps) qs = ap (λ l. p ++ l) (joined_append ps qs) ∙ sym (append_assoc p (joined ps) (joined qs))

  before_zero : (ps : List (List X)) → before 0 ps ≡ []
  before_zero [] = refl
  before_zero (p ∷ ps) = refl

  from_zero : (ps : List (List X)) → from_on 0 ps ≡ joined ps
  from_zero [] = refl
  from_zero (p ∷ ps) = refl

  within_zero : (ps : List (List X)) → HaveItems ps → IsWithin 0 ps
  within_zero [] h = refl
  within_zero (p ∷ ps) h = h.0

  have_append : (ps qs : List (List X)) → HaveItems ps → HaveItems qs → HaveItems (ps ++ qs)
  have_append [] qs g h = h
  have_append (p ∷ ps) qs g h = (g.0, have_append ps qs g.1 h)

  -- all items, from the place back to the first
  both_sides : (at : ℕ) (ps : List (List X)) → before at ps ++ from_on at ps ≡ joined ps
  both_sides at [] = refl
  both_sides at (p ∷ ps) = sym (append_assoc (take at p) (drop at p) (joined ps)) ∙ ap (λ l. l ++ joined ps) (take-append-drop at p)

  -- before the first item there is no pack
  none_before : (gone ps : List (List X)) (at : ℕ) → HaveItems gone → IsWithin at ps → joined gone ++ before at ps ≡ [] → (gone ≡ []) × (at ≡ 0)
  none_before ([] ∷ gone) ps at h w e = absurd (let no = h.0 in omega (arith, no))
  none_before ((x ∷ p) ∷ gone) ps at h w e = absurd (let l = ap length e in omega (arith, l))
  none_before [] [] at h w e = (refl, w)
  none_before [] (p ∷ ps) at h w e = (refl, (let n = length-take-le at p (omega (arith, w)) in let l : length (take at p) ≡ 0 = ap length e in omega (arith, n, l)))

  -- the place goes from before an item to behind it, and the item is then among those that were passed as `kept` tells
  pub record Moved (kept : X → List X) (at : ℕ) (w : Walked (List X)) (to : ℕ) (v : Walked (List X)) : Type 0 where
    pub item : X
    pub rest : List X
    pub was : from_on at w.left ≡ item ∷ rest
    pub passed : joined v.passed ++ before to v.left ≡ (joined w.passed ++ before at w.left) ++ kept item
    pub left : from_on to v.left ≡ rest
    pub within : IsWithin to v.left
    pub ones : HaveItems v.passed
    pub others : HaveItems v.left

  abbrev pub one : X → List X
  one x = x ∷ []

  abbrev pub none : X → List X
  none x = []

  -- what a move makes of the items that are seen, and of their number
  pub kept_view : (at to : ℕ) (w v : Walked (List X)) → Moved one at w to v → items_at to v ≡ passed_by (items_at at w) (items_at at w).left
  kept_view at to w v m =
      let step : items_at to v ≡ record { passed = (joined w.passed ++ before at w.left) ++ m.item ∷ []; left = m.rest } = λ i. record { passed = m.passed i; left = m.left i } in
      step ∙ sym (ap (passed_by (items_at at w)) m.was)

  pub taken_view : (at to : ℕ) (w v : Walked (List X)) → Moved none at w to v → items_at to v ≡ taken_out (items_at at w) (items_at at w).left
  taken_view at to w v m =
      let same : joined v.passed ++ before to v.left ≡ joined w.passed ++ before at w.left = m.passed ∙ append-nil (joined w.passed ++ before at w.left) in
      let step : items_at to v ≡ record { passed = joined w.passed ++ before at w.left; left = m.rest } = λ i. record { passed = same i; left = m.left i } in
      step ∙ sym (ap (taken_out (items_at at w)) m.was)

  -- a move leaves packs as they have to be
  pub packed_on : {kept : X → List X} (at to : ℕ) (w v : Walked (List X)) → Moved kept at w to v → ArePacked to v
  packed_on at to w v m = (m.within, m.ones, m.others)

  -- the next item is passed by
  keep_more : (gone qs : List (List X)) (p : List X) (at : ℕ) → at + 1 < length p → HaveItems gone → HaveItems (p ∷ qs)
      → Moved one at (record { passed = gone; left = p ∷ qs }) (at + 1) (record { passed = gone; left = p ∷ qs })
  keep_more gone qs [] at l g h = absurd (omega (arith, l))
  keep_more gone qs (x ∷ xs) at l g h = let p : List X = x ∷ xs in let e : X = get_or p at x in let below : at < length p = omega (arith, l) in record {
    item = e;
    rest = drop (at + 1) p ++ joined qs;
    was = ap (λ k. k ++ joined qs) (drop_more p at x below);
    passed = ap (λ k. joined gone ++ k) (take_more p at x below) ∙ sym (append_assoc (joined gone) (take at p) (e ∷ []));
    left = refl;
    within = l;
    ones = g;
    others = h;
  }

  keep_last : (gone qs : List (List X)) (p : List X) (at : ℕ) → at < length p → length p ≤ at + 1 → HaveItems gone → HaveItems (p ∷ qs)
      → Moved one at (record { passed = gone; left = p ∷ qs }) 0 (record { passed = gone ++ p ∷ []; left = qs })
  keep_last gone qs [] at below last g h = absurd (omega (arith, below))
  keep_last gone qs (x ∷ xs) at below last g h = let p : List X = x ∷ xs in let e : X = get_or p at x in record {
    item = e;
    rest = joined qs;
    was = ap (λ k. k ++ joined qs) (drop_more p at x below) ∙ ap (λ k. e ∷ k ++ joined qs) (drop_all (at + 1) p last);
    passed = ap (λ k. joined (gone ++ p ∷ []) ++ k) (before_zero qs) ∙ append-nil (joined (gone ++ p ∷ [])) ∙ joined_push gone p
        ∙ ap (λ k. joined gone ++ k) (sym (take_all (at + 1) p last) ∙ take_more p at x below) ∙ sym (append_assoc (joined gone) (take at p) (e ∷ []));
    left = from_zero qs;
    within = within_zero qs h.1;
    ones = have_append gone (p ∷ []) g (h.0, tt);
    others = h.1;
  }

  pub stays : (at : ℕ) (w : Walked (List X)) (p : List X) (qs : List (List X)) → ArePacked at w → w.left ≡ p ∷ qs → at + 1 < length p → Moved one at w (at + 1) w
  stays at w p qs c is more =
      subst (λ (l : List (List X)). Moved one at (record { passed = w.passed; left = l }) (at + 1) (record { passed = w.passed; left = l })) (sym is) (keep_more w.passed qs p at more c.1 (subst HaveItems is c.2))

  pub leaves : (at : ℕ) (w v : Walked (List X)) (p : List X) (qs : List (List X)) → ArePacked at w → w.left ≡ p ∷ qs → length p ≤ at + 1 → v ≡ passed_by w w.left → Moved one at w 0 v
  leaves at w v p qs c is last next =
      subst (Moved one at w 0) (sym (next ∙ ap (passed_by w) is))
      (subst (λ (l : List (List X)). Moved one at (record { passed = w.passed; left = l }) 0 (record { passed = w.passed ++ p ∷ []; left = qs })) (sym is)
      (keep_last w.passed qs p at (subst (IsWithin at) is c.0) last c.1 (subst HaveItems is c.2)))

  -- the place goes on by some items within the first pack
  pub gone_on : (at to : ℕ) (w : Walked (List X)) (p : List X) (qs : List (List X)) (some rest : List X) → ArePacked at w → w.left ≡ p ∷ qs → drop at p ≡ some ++ rest → 0 < length rest → to ≡ at + length some
      → ((items_at to w).passed ≡ (items_at at w).passed ++ some) × ((items_at to w).left ≡ rest ++ joined qs) × ArePacked to w
  gone_on at to w p qs some rest c is split more place =
      let below : at < length p = subst (IsWithin at) is c.0 in
      let front : List X = take at p ++ some in
      let whole : p ≡ front ++ rest = sym (take-append-drop at p) ∙ ap (λ l. take at p ++ l) split ∙ sym (append_assoc (take at p) some rest) in
      let size : length front ≡ to = length-append (take at p) some ∙ ap (λ n. n + length some) (length-take-le at p (omega (arith, below))) ∙ sym place in
      let taken : take to p ≡ front = ap (take to) whole ∙ take_at front rest to size in
      let dropped : drop to p ≡ rest = ap (drop to) whole ∙ drop_at front rest to size in
      let n : length p ≡ length front + length rest = ap length whole ∙ length-append front rest in
      let inside : to < length p = omega (arith, n, size, more) in (
        ap (λ l. joined w.passed ++ before to l) is ∙ ap (λ l. joined w.passed ++ l) taken ∙ sym (append_assoc (joined w.passed) (take at p) some) ∙ ap (λ l. (joined w.passed ++ before at l) ++ some) (sym is),
        ap (from_on to) is ∙ ap (λ l. l ++ joined qs) dropped,
        (subst (IsWithin to) (sym is) inside, c.1, c.2),
      )

  -- the first pack is passed by, with all its items from the place on
  pub pack_passed : (at : ℕ) (w v : Walked (List X)) (p : List X) (qs : List (List X)) → ArePacked at w → w.left ≡ p ∷ qs → v ≡ passed_by w w.left
      → ((items_at 0 v).passed ≡ (items_at at w).passed ++ drop at p) × ((items_at 0 v).left ≡ joined qs) × ArePacked 0 v
  pack_passed at w v p qs c is next =
      let step : v ≡ record { passed = w.passed ++ p ∷ []; left = qs } = next ∙ ap (passed_by w) is in
      let have = subst HaveItems is c.2 in (
        ap (λ (u : Walked (List X)). (items_at 0 u).passed) step ∙ ap (λ l. joined (w.passed ++ p ∷ []) ++ l) (before_zero qs) ∙ append-nil (joined (w.passed ++ p ∷ [])) ∙ joined_push w.passed p
            ∙ ap (λ l. joined w.passed ++ l) (sym (take-append-drop at p)) ∙ sym (append_assoc (joined w.passed) (take at p) (drop at p)) ∙ ap (λ l. (joined w.passed ++ before at l) ++ drop at p) (sym is),
        ap (λ (u : Walked (List X)). (items_at 0 u).left) step ∙ from_zero qs,
        subst (λ (u : Walked (List X)). ArePacked 0 u) (sym step) (within_zero qs have.1, have_append w.passed (p ∷ []) c.1 (have.0, tt), have.1),
      )

  -- The next item is taken out. Of the pack p of which it was a part, q is left.
  lost : (p q : List X) (at : ℕ) → at < length p → q ≡ take at p ++ drop (at + 1) p → length q ≡ at + length (drop (at + 1) p)
  lost p q at below is = ap length is ∙ length-append (take at p) (drop (at + 1) p) ∙ ap (λ n. n + length (drop (at + 1) p)) (length-take-le at p (omega (arith, below)))

  lone : (gone qs : List (List X)) (p : List X) (at : ℕ) → at < length p → length p ≡ 1 → HaveItems gone → HaveItems (p ∷ qs)
      → Moved none at (record { passed = gone; left = p ∷ qs }) at (record { passed = gone; left = qs })
  lone gone qs [] at below one g h = absurd (omega (arith, below))
  lone gone qs (x ∷ y ∷ ys) at below one g h = absurd (omega (arith, one))
  lone gone qs (x ∷ []) at below one g h =
      let zero : at ≡ 0 = omega (arith, below) in
      let front : take at (x ∷ []) ≡ [] = ap (λ k. take k (x ∷ [])) zero in record {
        item = x;
        rest = joined qs;
        was = ap (λ k. drop k (x ∷ []) ++ joined qs) zero;
        passed = ap (λ k. joined gone ++ k) (ap (λ k. before k qs) zero ∙ before_zero qs ∙ sym front) ∙ sym (append-nil (joined gone ++ take at (x ∷ [])));
        left = ap (λ k. from_on k qs) zero ∙ from_zero qs;
        within = subst (λ k. IsWithin k qs) (sym zero) (within_zero qs h.1);
        ones = g;
        others = h.1;
      }

  inside : (gone qs : List (List X)) (p q : List X) (e : X) (at : ℕ) → at < length p → drop at p ≡ e ∷ drop (at + 1) p → q ≡ take at p ++ drop (at + 1) p → at < length q
      → HaveItems gone → HaveItems (p ∷ qs) → Moved none at (record { passed = gone; left = p ∷ qs }) at (record { passed = gone; left = q ∷ qs })
  inside gone qs p q e at below taken is still g h =
      let front : length (take at p) ≡ at = length-take-le at p (omega (arith, below)) in record {
        item = e;
        rest = drop (at + 1) p ++ joined qs;
        was = ap (λ k. k ++ joined qs) taken;
        passed = ap (λ k. joined gone ++ k) (ap (take at) is ∙ take_at (take at p) (drop (at + 1) p) at front) ∙ sym (append-nil (joined gone ++ take at p));
        left = ap (λ k. k ++ joined qs) (ap (drop at) is ∙ drop_at (take at p) (drop (at + 1) p) at front);
        within = still;
        ones = g;
        others = ((omega (arith, still)), h.1);
      }

  last : (gone qs : List (List X)) (p q : List X) (e : X) (at : ℕ) → at < length p → drop at p ≡ e ∷ drop (at + 1) p → q ≡ take at p ++ drop (at + 1) p → at + 1 ≡ length p → 0 < at
      → HaveItems gone → HaveItems (p ∷ qs) → Moved none at (record { passed = gone; left = p ∷ qs }) 0 (record { passed = gone ++ q ∷ []; left = qs })
  last gone qs p q e at below taken is end some g h =
      let n = lost p q at below is in let no : drop (at + 1) p ≡ [] = drop_all (at + 1) p (omega (arith, end)) in
      let same : q ≡ take at p = is ∙ ap (λ k. take at p ++ k) no ∙ append-nil (take at p) in record {
        item = e;
        rest = joined qs;
        was = ap (λ k. k ++ joined qs) taken ∙ ap (λ k. e ∷ k ++ joined qs) no;
        passed = ap (λ k. joined (gone ++ q ∷ []) ++ k) (before_zero qs) ∙ append-nil (joined (gone ++ q ∷ [])) ∙ joined_push gone q ∙ ap (λ k. joined gone ++ k) same ∙ sym (append-nil (joined gone ++ take at p));
        left = from_zero qs;
        within = within_zero qs h.1;
        ones = have_append gone (q ∷ []) g ((omega (arith, n, some)), tt);
        others = h.1;
      }

  -- m is what is left once the pack p was unlinked
  abbrev pub Unlinked : Walked (List X) → Walked (List X) → List X → Type 0
  Unlinked w m p = (w.left ≡ p ∷ m.left) × (m.passed ≡ w.passed)

  moved_from : (at to : ℕ) (w m v : Walked (List X)) (p : List X) → Unlinked w m p → Moved none at (record { passed = m.passed; left = p ∷ m.left }) to v → Moved none at w to v
  moved_from at to w m v p is moved =
      subst (λ (u : Walked (List X)). Moved none at u to v) (λ i. record { passed = is.1 i; left = (sym is.0) i }) moved

  have_from : (at : ℕ) (w m : Walked (List X)) (p : List X) → ArePacked at w → Unlinked w m p → (at < length p) × HaveItems m.passed × HaveItems (p ∷ m.left)
  have_from at w m p c is = (subst (IsWithin at) is.0 c.0, subst HaveItems (sym is.1) c.1, subst HaveItems is.0 c.2)

  pub out_lone : (at : ℕ) (w m : Walked (List X)) (p : List X) → ArePacked at w → Unlinked w m p → length p ≡ 1 → Moved none at w at m
  out_lone at w m p c is single =
      let h = have_from at w m p c is in moved_from at at w m m p is (lone m.passed m.left p at h.0 single h.1 h.2)

  pub out_inside : (at : ℕ) (w m v : Walked (List X)) (p q : List X) (e : X) → ArePacked at w → Unlinked w m p → drop at p ≡ e ∷ drop (at + 1) p → q ≡ take at p ++ drop (at + 1) p
      → v ≡ linked m q → (at + 1 ≡ length p → ⊥) → Moved none at w at v
  out_inside at w m v p q e c is taken rest back still =
      let h = have_from at w m p c is in let below = h.0 in
      let n = lost p q at below rest in let k : length p ≡ at + (1 + length (drop (at + 1) p)) = sym (ap length (take-append-drop at p)) ∙ length-append (take at p) (drop at p) ∙ ap (λ j. j + length (drop at p)) (length-take-le at p (omega (arith, below))) ∙ ap (λ l. at + length l) taken ∙ (omega arith) in
      subst (Moved none at w at) (sym back) (moved_from at at w m (linked m q) p is (inside m.passed m.left p q e at below taken rest (omega (arith, n, k, below, still)) h.1 h.2))

  pub out_last : (at : ℕ) (w m v u : Walked (List X)) (p q : List X) (e : X) → ArePacked at w → Unlinked w m p → drop at p ≡ e ∷ drop (at + 1) p → q ≡ take at p ++ drop (at + 1) p
      → v ≡ linked m q → u ≡ passed_by v v.left → at + 1 ≡ length p → (length p ≡ 1 → ⊥) → Moved none at w 0 u
  out_last at w m v u p q e c is taken rest back next end more =
      let h = have_from at w m p c is in
      subst (Moved none at w 0) (sym (next ∙ ap (λ (i : Walked (List X)). passed_by i i.left) back))
      (moved_from at 0 w m (record { passed = m.passed ++ q ∷ []; left = m.left }) p is (last m.passed m.left p q e at h.0 taken rest end (omega (arith, end, more)) h.1 h.2))

  -- all packs again
  pub again_view : (at : ℕ) (w v : Walked (List X)) → v ≡ at_start (w.passed ++ w.left) → items_at 0 v ≡ at_start ((items_at at w).passed ++ (items_at at w).left)
  again_view at w v new =
      let all : joined (w.passed ++ w.left) ≡ (joined w.passed ++ before at w.left) ++ from_on at w.left = joined_append w.passed w.left ∙ ap (λ l. joined w.passed ++ l) (sym (both_sides at w.left)) ∙ sym (append_assoc (joined w.passed) (before at w.left) (from_on at w.left)) in
      let step : items_at 0 (at_start (w.passed ++ w.left)) ≡ at_start ((joined w.passed ++ before at w.left) ++ from_on at w.left) = λ i. record { passed = before_zero (w.passed ++ w.left) i; left = (from_zero (w.passed ++ w.left) ∙ all) i } in
      ap (items_at 0) new ∙ step

  pub again_packed : (at : ℕ) (w v : Walked (List X)) → ArePacked at w → v ≡ at_start (w.passed ++ w.left) → ArePacked 0 v
  again_packed at w v c new =
      let have = have_append w.passed w.left c.1 c.2 in
      subst (λ (u : Walked (List X)). ArePacked 0 u) (sym new) (within_zero (w.passed ++ w.left) have, tt, have)

  -- packs at rest, and opened
  pub start_packed : (ps : List (List X)) (w : Walked (List X)) → HaveItems ps → w ≡ at_start ps → ArePacked 0 w
  start_packed ps w have is = subst (λ (u : Walked (List X)). ArePacked 0 u) (sym is) (within_zero ps have, tt, have)

  pub start_view : (ps : List (List X)) (w : Walked (List X)) → w ≡ at_start ps → items_at 0 w ≡ at_start (joined ps)
  start_view ps w is = ap (items_at 0) is ∙ (λ i. record { passed = before_zero ps i; left = from_zero ps i })

  -- what is seen at the place
  pub seen_at : (at : ℕ) (w : Walked (List X)) (p : List X) (qs : List (List X)) → ArePacked at w → w.left ≡ p ∷ qs → (r : Option (Bor X)) → IsAt p at r → IsNext (from_on at w.left) r
  seen_at at w p qs c is (Some x) e = (drop (at + 1) p ++ joined qs, ap (from_on at) is ∙ ap (λ l. l ++ joined qs) e)
  seen_at at w [] qs c is None e = let below = subst (IsWithin at) is c.0 in absurd (omega (arith, below))
  seen_at at w (x ∷ xs) qs c is None e = let n = ap length (sym e ∙ drop_more (x ∷ xs) at x (subst (IsWithin at) is c.0)) in absurd (omega (arith, n))

  -- no pack was passed where no item was
  pub none_passed : (at : ℕ) (w : Walked (List X)) → ArePacked at w → (items_at at w).passed ≡ [] → (w.passed ≡ []) × (at ≡ 0)
  none_passed at w c is = none_before w.passed w.left at c.1 c.0 is

  -- an item is added before all, to the first pack or in one of its own
  pub grown_view : (at : ℕ) (w m v : Walked (List X)) (p q : List X) (x : X) → ArePacked at w → (items_at at w).passed ≡ [] → Unlinked w m p → q ≡ x ∷ p → v ≡ linked m q
      → items_at at v ≡ at_start (x ∷ (items_at at w).left)
  grown_view at w m v p q x c none is more back =
      let z = none_passed at w c none in
      let whole : v ≡ at_start ((x ∷ p) ∷ m.left) = back ∙ ap (linked m) more ∙ ap (λ (l : List (List X)). record { passed = l; left = (x ∷ p) ∷ m.left }) (is.1 ∙ z.0) in
      let there = subst (λ k. items_at k (at_start ((x ∷ p) ∷ m.left)) ≡ at_start (x ∷ from_on k (p ∷ m.left))) (sym z.1) refl in
      ap (items_at at) whole ∙ there ∙ ap (λ (l : List (List X)). at_start (x ∷ from_on at l)) (sym is.0)

  pub put_packed : (at : ℕ) (w v : Walked (List X)) (p : List X) (x : X) → ArePacked at w → (items_at at w).passed ≡ [] → p ≡ x ∷ [] → v ≡ at_start (p ∷ w.left) → ArePacked at v
  put_packed at w v p x c none one is =
      let z = none_passed at w c none in let some : 0 < length p = subst (λ (l : List X). 0 < length l) (sym one) (omega arith) in
      subst (λ (u : Walked (List X)). ArePacked at u) (sym is) (subst (λ k. k < length p) (sym z.1) some, tt, (some, c.2))

  pub put_view : (at : ℕ) (w v : Walked (List X)) (p : List X) (x : X) → ArePacked at w → (items_at at w).passed ≡ [] → p ≡ x ∷ [] → v ≡ at_start (p ∷ w.left)
      → items_at at v ≡ at_start (x ∷ (items_at at w).left)
  put_view at w v p x c none one is =
      let z = none_passed at w c none in
      let there = subst (λ k. items_at k (at_start ((x ∷ []) ∷ w.left)) ≡ at_start (x ∷ from_on k w.left)) (sym z.1) (ap (λ (l : List X). at_start (x ∷ l)) (sym (from_zero w.left))) in
      ap (items_at at) (is ∙ ap (λ (l : List X). at_start (l ∷ w.left)) one) ∙ there

  -- packs that are all before their first item have these items
  pub at_start_stored : (at : ℕ) (w : Walked (List X)) (items : List X) → ArePacked at w → items_at at w ≡ at_start items → (w.passed ≡ []) × (joined w.left ≡ items) × HaveItems w.left
  at_start_stored at w items c is =
      let none = none_passed at w c (ap (λ (u : Walked X). u.passed) is) in
      (none.0, sym (from_zero w.left) ∙ ap (λ k. from_on k w.left) (sym none.1) ∙ ap (λ (u : Walked X). u.left) is, c.2)

  -- from the place on there are no more packs than items, and a pack where there are items
  joined_few : (ps : List (List X)) → HaveItems ps → length ps ≤ length (joined ps)
  joined_few [] h = omega arith
  joined_few (p ∷ ps) h = let n = length-append p (joined ps) in let less = joined_few ps h.1 in let one = h.0 in omega (arith, n, less, one)

  pub packs_few : (at : ℕ) (ps : List (List X)) → IsWithin at ps → HaveItems ps → length ps ≤ length (from_on at ps)
  packs_few at [] w h = omega arith
  packs_few at (p ∷ ps) w h =
      let n = length-append (drop at p) (joined ps) in let d = length-drop at p in let less = joined_few ps h.1 in omega (arith, n, d, less, w)

  pub packs_some : (at : ℕ) (ps : List (List X)) → 0 < length (from_on at ps) → 0 < length ps
  packs_some at [] some = absurd (omega (arith, some))
  packs_some at (p ∷ ps) some = omega arith
