-- What is asked of an entry's count, and a pass over a bucket's entries that asks it of each.
use Rattle.std.specs.Prelude.{◌≡◌, ℕ, ⊤, List, [], ◌∷◌, map, Option, Some, None}
use Rattle.text_forms.specs.Pass.{PassReply, added, full, died, gone, stays, Asked, Outcome, found, found_full, absent, outcome, kept}
use Rattle.counted_set.specs.Chain.{Linked}
use Rattle.counted_set.specs.declared.dynamic_set.counts.CountReply.{CountReply}
use Rattle.counted_set.specs.declared.dynamic_set.counts.CountReply.TheVariants.{Added, Dying, Full}
use Rattle.counted_set.specs.declared.dynamic_set.counts.Pass.{Pass}
use Rattle.counted_set.specs.declared.dynamic_set.counts.Pass.TheVariants as pass

-- what `add` and `dying` answer, as replies of a pass
abbrev pub reply_of : {S D F G : Type 0} → CountReply S D F G → PassReply S
reply_of (Added s) = added s
reply_of (Dying shown grant) = died
reply_of (Full shown grant) = full

-- what `dying` answers, as a reply of a pass: with what shows it that the entry is gone, without that it stays
abbrev pub reply_by : {S D : Type 0} → Option D → PassReply S
reply_by (Some shown) = gone
reply_by None = stays

-- P holds of what was added
abbrev pub IfAdded : {S : Type 0} → PassReply S → (S → Type 0) → Type 0
IfAdded (added s) P = P s
IfAdded full P = ⊤
IfAdded died P = ⊤
IfAdded gone P = ⊤
IfAdded stays P = ⊤

-- P holds of what shows that an entry has no share left
abbrev pub IfDying : {S D F G : Type 0} → CountReply S D F G → (D → Type 0) → Type 0
IfDying (Added s) P = ⊤
IfDying (Dying shown grant) P = P shown
IfDying (Full shown grant) P = ⊤

-- P holds of what shows that the limit was told
abbrev pub IfFull : {S D F G : Type 0} → CountReply S D F G → (F → Type 0) → Type 0
IfFull (Added s) P = ⊤
IfFull (Dying shown grant) P = ⊤
IfFull (Full shown grant) P = P shown

-- what shows something of an entry shows it of the first of these
abbrev pub ShowsFirst : {D : Type 0} → (Linked → D → Type 0) → D → List Linked → Type 0
ShowsFirst shows shown [] = ⊥
ShowsFirst shows shown (e ∷ es) = shows e shown

-- what a pass answers, as what it finds
abbrev pub found_by : {S G : Type 0} → Pass S G → Outcome S
found_by (pass.Found s) = found s
found_by (pass.Full grant) = found_full
found_by (pass.Absent grant) = absent

-- P holds of what was found
abbrev pub IfFound : {S : Type 0} → Outcome S → (S → Type 0) → Type 0
IfFound (found s) P = P s
IfFound found_full P = ⊤
IfFound absent P = ⊤

-- A relation says which replies about an entry take one state of the counts to another. What is added is a share of the entry that is asked about.
abbrev pub GivesShares : {C : Type 0} → (C → Linked → PassReply Linked → C → Type 0) → Type 0
GivesShares {C} gives = (c : C) (e : Linked) (r : PassReply Linked) (d : C) → gives c e r d → IfAdded r (λ share. share ≡ e)

module _ {C S : Type 0} (gives : C → Linked → PassReply S → C → Type 0) where
  -- calls about these entries, one after another, may give these replies, and turn c into d
  abbrev pub Replied : C → List Linked → List (PassReply S) → C → Type 0
  Replied c [] [] d = c ≡ d
  Replied c [] (r ∷ rs) d = ⊥
  Replied c (e ∷ es) [] d = ⊥
  Replied c (e ∷ es) (r ∷ rs) d = (m : C) × gives c e r m × Replied m es rs d

  -- A pass that wants a text, or none, over the entries es: it asks about each of them in order, as a pass asks, finds
  -- what the replies say, and leaves the entries that weren't answered as dying. One that wants none finds none.
  pub record IsPass (wanted : Option (List ℕ)) (c : C) (es : List Linked) (finds : Outcome S) (d : C) (after : List Linked) : Type 0 where
    pub replies : List (PassReply S)
    pub given : Replied c es replies d
    pub asked : Asked wanted (map (λ e. e.text) es) replies
    pub answers : finds ≡ outcome replies
    pub left : after ≡ kept es replies
