-- Where the code finds a party's pass, and an entry.
use Rattle.std.proofs.Common.{◌≡◌, ℕ, ◌+◌, ◌<◌, ◌≤◌, inl, inr, Bool, true, false, cond, not, List, [], ◌∷◌, length, None, Some, refl, sym, ap, ◌∙◌, subst, arith, zero, suc}
use Rattle.std.specs.Prelude.{slice_get, slice_set, MatchOption, nat_lt, ◌==◌}
use Rattle.std.specs.List.{find, position, position_or_len, remove}
use Rattle.std.proofs.lemmas.Bool.{eqb-true, eq-eqb, cases_Bool, ltb-true, ltb-false}
use Rattle.atomic_steps.specs.World.{PartyPass, World}
use Rattle.atomic_steps.specs.Steps.{pass_of, entry_at, replaced, without_party}
use Rattle.atomic_steps.specs.Places.{PassAt, EntryAt}
use Rattle.atomic_steps.specs.Sound.{At}
use Rattle.atomic_steps.proofs.lists.Facts.{if_case}

pub there_is : {X : Type 0} (xs : List X) (k : ℕ) → k < length xs → (x : X) × At xs k x
there_is [] k h = absurd (omega arith)
there_is (x ∷ xs) zero h = (x, refl)
there_is (x ∷ xs) (suc k) h = there_is xs k (omega arith)

past : {X : Type 0} (xs : List X) (k : ℕ) → length xs ≤ k → slice_get xs k ≡ None
past [] k h = refl
past (x ∷ xs) zero h = absurd (omega arith)
past (x ∷ xs) (suc k) h = past xs k (omega arith)

pub entry_at-found : (w : World) (n k : ℕ) → n ≡ suc k → k < length w.entries → EntryAt w n k
entry_at-found w n k e h = let found = there_is w.entries k h in record { entry = found.0; numbered = e; within = h; there = found.1 }

pub entry_at-past : (w : World) (n k : ℕ) → n ≡ suc k → length w.entries ≤ k → entry_at w.entries n ≡ None
entry_at-past w n k e h = ap (entry_at w.entries) e ∙ past w.entries k h

pub entry_is : (w : World) (n k : ℕ) (e : EntryAt w n k) → entry_at w.entries n ≡ Some e.entry
entry_is w n k e = ap (entry_at w.entries) e.numbered ∙ e.there

-- the first pass of the party, and what replacing it does
pub record Place (passes : List PartyPass) (party at : ℕ) : Type 0 where
  pub pass : PartyPass
  pub found : find (λ pass. pass.party == party) passes ≡ Some pass
  pub there : At passes at pass
  pub replaces : (new : PartyPass) → new.party ≡ pass.party → replaced passes new ≡ slice_set passes at new
  pub own : pass.party ≡ party
  pub removes : without_party passes party ≡ remove passes at

-- what the list's first place says, one pass further on
later : (z : PartyPass) (zs : List PartyPass) (party i : ℕ) → (z.party == party) ≡ false → Place zs party i → Place (z ∷ zs) party (suc i)
later z zs party i other at = record {
  pass = at.pass;
  found = ap (λ (b : Bool). cond b (Some z) (find (λ (pass : PartyPass). pass.party == party) zs)) other ∙ at.found;
  there = at.there;
  replaces = λ new same.
      let not_this : (z.party == new.party) ≡ false = ap (λ (q : ℕ). z.party == q) (same ∙ at.own) ∙ other in
      ap (λ (b : Bool). cond b (new ∷ zs) (z ∷ replaced zs new)) not_this ∙ ap (λ (ys : List PartyPass). z ∷ ys) (at.replaces new same);
  own = at.own;
  removes = ap (λ (b : Bool). cond b zs (z ∷ without_party zs party)) other ∙ ap (λ (ys : List PartyPass). z ∷ ys) at.removes;
}

here : (z : PartyPass) (zs : List PartyPass) (party : ℕ) → (z.party == party) ≡ true → Place (z ∷ zs) party 0
here z zs party hit = record {
  pass = z;
  found = ap (λ (b : Bool). cond b (Some z) (find (λ (pass : PartyPass). pass.party == party) zs)) hit;
  there = refl;
  replaces = λ new same.
      let this : (z.party == new.party) ≡ true = ap (λ (q : ℕ). z.party == q) same ∙ eq-eqb z.party z.party refl in
      ap (λ (b : Bool). cond b (new ∷ zs) (z ∷ replaced zs new)) this;
  own = eqb-true z.party party hit;
  removes = ap (λ (b : Bool). cond b zs (z ∷ without_party zs party)) hit;
}

-- what an option says of the place: none has the party, or the place
abbrev IsPlace : List PartyPass → ℕ → ℕ → Type 0
IsPlace passes party i = (i < length passes → Place passes party i) × (length passes ≤ i → find (λ pass. pass.party == party) passes ≡ None)

is_place : (passes : List PartyPass) (party : ℕ) → IsPlace passes party (position_or_len (λ pass. pass.party == party) passes)
is_place [] party = (λ h. absurd (omega arith), λ h. refl)
is_place (z ∷ zs) party =
    let rest = is_place zs party in
    elim (cases_Bool (z.party == party)) [
      | inl hit ↦ subst (λ (i : ℕ). IsPlace (z ∷ zs) party i) (sym (at_first z zs hit)) (λ h. here z zs party hit, λ h. absurd (omega arith))
      | inr no_match ↦ subst (λ (i : ℕ). IsPlace (z ∷ zs) party i) (sym (at_later z zs no_match))
          (λ h. later z zs party _ no_match (rest.0 (omega arith)), λ h. ap (λ (b : Bool). cond b (Some z) (find (λ (pass : PartyPass). pass.party == party) zs)) no_match ∙ rest.1 (omega arith))
    ]
  where
    at_first : (z : PartyPass) (zs : List PartyPass) → (z.party == party) ≡ true → position_or_len (λ pass. pass.party == party) (z ∷ zs) ≡ 0
    at_first z zs hit = ap (λ (b : Bool). cond (not b) (1 + position_or_len (λ (pass : PartyPass). pass.party == party) zs) 0) hit

    at_later : (z : PartyPass) (zs : List PartyPass) → (z.party == party) ≡ false → position_or_len (λ pass. pass.party == party) (z ∷ zs) ≡ suc (position_or_len (λ pass. pass.party == party) zs)
    at_later z zs hit = ap (λ (b : Bool). cond (not b) (1 + position_or_len (λ (pass : PartyPass). pass.party == party) zs) 0) hit ∙ omega arith

pub place_of : (w : World) (party : ℕ) → MatchOption (position (λ pass. pass.party == party) w.passes) (pass_of w party ≡ None) (λ at. PassAt w party at)
place_of w party =
    let is = is_place w.passes party in
    let i = position_or_len (λ (pass : PartyPass). pass.party == party) w.passes in
    if_case (λ o. MatchOption o (pass_of w party ≡ None) (λ at. PassAt w party at)) (nat_lt i (length w.passes)) (Some i) None
    (λ inside. let within = ltb-true i (length w.passes) inside in let at = is.0 within in record { pass = at.pass; within = within; found = at.found; there = at.there; own = at.own; replaces = at.replaces; removes = at.removes })
    (λ outside. is.1 (ltb-false i (length w.passes) outside))
