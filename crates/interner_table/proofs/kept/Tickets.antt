-- Where the tickets stand, each at the place of its text.
use Rattle.std.proofs.Common.{◌≡◌, ◌∙◌, ap, sym, refl, ℕ, suc, zero, ◌⊎◌, inl, inr, ◌||◌, false, cond, List, [], ◌∷◌, ◌++◌, length, Some, true≢false}
use Rattle.std.specs.Prelude.{slice_get, String}
use Rattle.std.specs.Bool.{nat_eq}
use Rattle.std.specs.List.{list_any, find, IsDistinct, AllByRecursion}
use Rattle.std.specs.Map.{lookup, keys_of}
use Rattle.std.specs.Str.{bytes_eq}
use Rattle.std.specs.String.{string_eq}
use Rattle.std.proofs.lemmas.Bool.{eqb-true, eq-eqb, cases_Bool}
use Rattle.std.proofs.lemmas.Option.{slice_get_within, get_or_from_slice_get, same_Some, none-some}
use Rattle.std.proofs.lemmas.List.Folds.{list_any_at}
use Rattle.text_forms.specs.Bounds.{Bounds}
use Rattle.text_forms.specs.Map.{Holding}
use Rattle.text_forms.specs.Tables.{Tables}
use Rattle.interner_table.specs.Kept.{Pair, pairs_of, IsKeptTable, IsSoundMap}
use Rattle.interner_table.specs.Places.{IsPlace}
use Rattle.interner_table.proofs.kept.Pairs.{ticket-there, stands, pair_of_ticket, found_at, shows}

-- an element of a list with one more is an old one or the new one
pub at-push : {X : Type 0} (xs : List X) (y : X) (at : ℕ) (x : X) → slice_get (xs ++ y ∷ []) at ≡ Some x → (slice_get xs at ≡ Some x) ⊎ ((at ≡ length xs) × (y ≡ x))
at-push [] y zero x h = inr (refl, same_Some _ _ h)
at-push [] y (suc at) x h = absurd (none-some _ h)
at-push (z ∷ zs) y zero x h = inl h
at-push (z ∷ zs) y (suc at) x h = elim (at-push zs y at x h) [
  | inl old ↦ inl old
  | inr new ↦ inr (ap suc new.0, new.1)
]

-- a ticket that isn't among the tickets stands nowhere
pub stands-nowhere : (tickets : List ℕ) (ticket : ℕ) → list_any (nat_eq ticket) tickets ≡ false → (at : ℕ) → slice_get tickets at ≡ Some ticket → ⊥
stands-nowhere tickets ticket none at h =
    true≢false (sym (list_any_at (nat_eq ticket) tickets at 0 (slice_get_within tickets at ticket h) (ap (nat_eq ticket) (get_or_from_slice_get tickets at ticket 0 h) ∙ eq-eqb ticket ticket refl)) ∙ none)

-- one that stands nowhere isn't among them
pub is-nowhere : (tickets : List ℕ) (ticket : ℕ) → ((at : ℕ) → slice_get tickets at ≡ Some ticket → ⊥) → list_any (nat_eq ticket) tickets ≡ false
is-nowhere [] ticket none = refl
is-nowhere (x ∷ xs) ticket none = elim (cases_Bool (nat_eq ticket x)) [
  | inl same ↦ absurd (none 0 (ap (λ (n : ℕ). Some n) (sym (eqb-true ticket x same))))
  | inr apart ↦ ap (λ b. b || list_any (nat_eq ticket) xs) apart ∙ is-nowhere xs ticket (λ at. none (suc at))
]

-- the ticket that a look-up finds is the one that was looked for
found-ticket : (tickets : List ℕ) (ticket stored : ℕ) → find (nat_eq ticket) tickets ≡ Some stored → stored ≡ ticket
found-ticket [] ticket stored e = absurd (none-some _ e)
found-ticket (x ∷ xs) ticket stored e = elim (cases_Bool (nat_eq ticket x)) [
  | inl same ↦ sym (same_Some _ _ (sym (ap (λ b. cond b (Some x) (find (nat_eq ticket) xs)) same) ∙ e)) ∙ sym (eqb-true ticket x same)
  | inr apart ↦ found-ticket xs ticket stored (sym (ap (λ b. cond b (Some x) (find (nat_eq ticket) xs)) apart) ∙ e)
]

apart-from : (x : ℕ) (xs : List ℕ) → AllByRecursion (λ y. nat_eq x y ≡ false) xs → (at : ℕ) → slice_get xs at ≡ Some x → ⊥
apart-from x [] all at h = none-some _ h
apart-from x (y ∷ ys) all zero h = true≢false (sym (eq-eqb x y (sym (same_Some _ _ h))) ∙ all.0)
apart-from x (y ∷ ys) all (suc at) h = apart-from x ys all.1 at h

-- a ticket has one place
pub one-place : (tickets : List ℕ) (at other ticket : ℕ) → IsDistinct nat_eq tickets → slice_get tickets at ≡ Some ticket → slice_get tickets other ≡ Some ticket → at ≡ other
unfolding IsDistinct
one-place [] at other ticket d h k = absurd (none-some _ h)
one-place (x ∷ xs) zero zero ticket d h k = refl
one-place (x ∷ xs) zero (suc other) ticket d h k = absurd (apart-from x xs d.0 other (k ∙ sym h))
one-place (x ∷ xs) (suc at) zero ticket d h k = absurd (apart-from x xs d.0 at (h ∙ sym k))
one-place (x ∷ xs) (suc at) (suc other) ticket d h k = ap suc (one-place xs at other ticket d.1 h k)

module _ (t : Tables) (lasts : List ℕ) (pairs : List Pair) (tickets : List ℕ) (bytes : ℕ) {bits : ℕ} (kept : IsKeptTable t bits lasts pairs tickets bytes) where
  -- where a pair stands, its ticket stands
  ticket-at : (at : ℕ) (pair : Pair) → slice_get pairs at ≡ Some pair → slice_get tickets at ≡ Some pair.1.ticket
  ticket-at at pair h = ap (λ ts. slice_get ts at) kept.index ∙ ticket-there pairs at pair h

  -- a ticket without a place isn't held
  pub not-placed : (ticket : ℕ) (text : List ℕ) (holders : ℕ) → lookup (bytes_eq text) pairs ≡ Some (record { ticket = ticket; holders = holders }) → list_any (nat_eq ticket) tickets ≡ false → ⊥
  not-placed ticket text holders held none =
      let p = stands pairs text (record { ticket = ticket; holders = holders }) held in
      stands-nowhere tickets ticket none p.0 (ticket-at p.0 (text, record { ticket = ticket; holders = holders }) p.1)

  -- the map that the table shows is sound
  pub sound : IsDistinct nat_eq tickets → IsSoundMap t (shows lasts pairs)
  sound distinct = record {
    given = λ text had h. let p = stands pairs text had h in kept.given p.0 (text, had) p.1;
    apart = λ text other had also h k same.
        let a = stands pairs text had h in
        let b = stands pairs other also k in
        let at : a.0 ≡ b.0 =
        one-place tickets a.0 b.0 had.ticket distinct (ticket-at a.0 (text, had) a.1) (ticket-at b.0 (other, also) b.1 ∙ ap (λ (x : ℕ). Some x) (sym same)) in
        ap (λ (x : Pair). x.0) (same_Some _ _ (sym a.1 ∙ ap (slice_get pairs) at ∙ b.1));
  }

module _ {Y : Type 0} (t : Tables) (limits : Bounds) (lasts : List ℕ) (es : List (String Y × Holding)) (tickets : List ℕ) (bytes : ℕ) {bits : ℕ} (kept : IsKeptTable t bits lasts (pairs_of es) tickets bytes) (distinct : IsDistinct string_eq (keys_of es)) where
  pub is-placed : (ticket at stored : ℕ) → slice_get tickets at ≡ Some stored → Some stored ≡ find (nat_eq ticket) tickets → IsPlace (record { limits = limits; lasts = lasts; pairs = pairs_of es }) ticket at
  is-placed ticket at stored there found =
      let h : slice_get tickets at ≡ Some ticket = there ∙ ap (λ (n : ℕ). Some n) (found-ticket tickets ticket stored (sym found)) in
      let p = pair_of_ticket (pairs_of es) at ticket (ap (λ ts. slice_get ts at) (sym kept.index) ∙ h) in
      record {
        text = p.0;
        holders = p.1;
        within = slice_get_within (pairs_of es) at _ p.2;
        found = record { there = p.2; held = found_at es at (p.0, record { ticket = ticket; holders = p.1 }) distinct p.2 };
        some = (kept.given at (p.0, record { ticket = ticket; holders = p.1 }) p.2).held;
      }
