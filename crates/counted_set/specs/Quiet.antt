-- What asking entries in order meets. Only private contracts have these terms.
use Rattle.std.specs.Prelude.{◌≡◌, ◌≢◌, ℕ, ◌+◌, ◌<◌, ⊤, List, [], ◌∷◌, ◌++◌, length, Option, Some, None}
use Rattle.text_forms.specs.Pass.{PassReply, gone, stays}
use Rattle.counted_set.specs.Chain.{Linked}
use Rattle.counted_set.specs.declared.dynamic_set.quiet.Met.{Met}
use Rattle.counted_set.specs.declared.dynamic_set.quiet.Met.TheVariants.{Nothing, Dying, Alike}
use Rattle.node_chain.specs.Walked.{Walked, taken_out}

-- what is met is at this place
abbrev pub IsMetAt : {D : Type 0} → ℕ → Met D → Type 0
IsMetAt place Nothing = ⊤
IsMetAt place (Dying at shown) = at ≡ place
IsMetAt place (Alike at) = at ≡ place

-- what was met is taken out if it is dying
abbrev pub TakesOutDying : {D : Type 0} → Option (Met D) → Walked Linked → Walked Linked → Type 0
TakesOutDying None w v = v ≡ w
TakesOutDying (Some Nothing) w v = v ≡ w
TakesOutDying (Some (Dying at shown)) w v = v ≡ taken_out w w.left
TakesOutDying (Some (Alike at)) w v = v ≡ w

-- One relation says which replies take one state of the counts to another, and a second one what shows that an entry has no share left. A hash is
-- wanted, or none.
module _ {C S D : Type 0} (gives : C → Linked → PassReply S → C → Type 0) (shows : Linked → D → Type 0) (wanted : Option ℕ) where
  -- an entry that doesn't have the wanted hash is asked and gives this reply
  abbrev pub IsAsked : C → Linked → PassReply S → C → Type 0
  IsAsked c e reply d = (wanted ≢ Some e.hash) × gives c e reply d

  -- each of them is asked, in order, and none is dying
  abbrev pub AreQuiet : C → List Linked → C → Type 0
  AreQuiet c [] d = c ≡ d
  AreQuiet c (e ∷ es) d = (m : C) × IsAsked c e stays m × AreQuiet m es d

  -- the first of these entries is what is met, or there is none
  abbrev pub Ends : C → List Linked → Met D → C → Type 0
  Ends c es Nothing d = (es ≡ []) × (c ≡ d)
  Ends c [] (Dying at shown) d = ⊥
  Ends c (e ∷ es) (Dying at shown) d = IsAsked c e gone d × shows e shown
  Ends c [] (Alike at) d = ⊥
  Ends c (e ∷ es) (Alike at) d = (wanted ≡ Some e.hash) × (c ≡ d)

  -- the entries of a node from a place on are asked until one is met: those before it are quiet
  pub record Meets (place : ℕ) (c : C) (es : List Linked) (met : Met D) (d : C) : Type 0 where
    pub quiet : List Linked
    pub left : List Linked
    pub before : C
    pub split : es ≡ quiet ++ left
    pub asked : AreQuiet c quiet before
    pub ends : Ends before left met d
    pub at : IsMetAt (place + length quiet) met

  -- of the entries that are left, those of the first node are asked, and those that are quiet are passed
  pub record MeetsInNode (c : C) (w : Walked Linked) (met : Met D) (d : C) (u : Walked Linked) : Type 0 where
    pub place : ℕ
    pub node : List Linked
    pub behind : List Linked
    pub was : w.left ≡ node ++ behind
    pub some : 0 < length node
    pub meets : Meets place c node met d
    pub passed : u.passed ≡ w.passed ++ meets.quiet
    pub left : u.left ≡ meets.left ++ behind

  -- that, if an entry is left
  abbrev pub PassesQuiet : C → Walked Linked → Option (Met D) → C → Walked Linked → Type 0
  PassesQuiet c w None d u = (w.left ≡ []) × (u ≡ w) × (c ≡ d)
  PassesQuiet c w (Some met) d u = MeetsInNode c w met d u

  -- and what is then met is taken out if it is dying
  pub record PassesOthers (c : C) (w : Walked Linked) (d : C) (v : Walked Linked) : Type 0 where
    pub met : Option (Met D)
    pub before : Walked Linked
    pub quiet : PassesQuiet c w met d before
    pub out : TakesOutDying met before v
