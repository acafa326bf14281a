-- A pass over the entries from a place on.
use Rattle.std.specs.Prelude.{◌≡◌, ℕ, List, ◌++◌, Option, None}
use Rattle.text_forms.specs.Pass.{PassReply, Outcome, absent}
use Rattle.counted_set.specs.Chain.{Linked}
use Rattle.counted_set.specs.Counted.{IsPass}
use Rattle.counted_set.specs.declared.dynamic_set.counts.CountReply.{CountReply}
use Rattle.counted_set.specs.declared.dynamic_set.counts.CountReply.TheVariants.{Added, Dying, Full}
use Rattle.counted_set.specs.declared.dynamic_set.counts.Pass.TheVariants as pass
use Rattle.counted_set.specs.declared.dynamic_set.bucket.Next.{Next}
use Rattle.counted_set.specs.declared.dynamic_set.bucket.Next.TheVariants.{Answer, GoOn}
use Rattle.node_chain.specs.Walked.{Walked, passed_by, taken_out}

module _ {C S : Type 0} (gives : C → Linked → PassReply S → C → Type 0) where
  -- those that weren't answered as dying stay after those that were passed, wherever the place is then
  pub record IsPassLeft (wanted : Option (List ℕ)) (c : C) (w : Walked Linked) (finds : Outcome S) (d : C) (v : Walked Linked) : Type 0 where
    pub after : List Linked
    pub pass : IsPass gives wanted c w.left finds d after
    pub all : v.passed ++ v.left ≡ w.passed ++ after

  -- the next entry is passed, and those after it that are dying are taken out
  abbrev pub PrunesBehind : C → Walked Linked → C → Walked Linked → Type 0
  PrunesBehind c w d v = IsPassLeft None c (passed_by w w.left) absent d v

  -- What comes of this reply about the next entry, which is of the wanted text: if it is dying, it is taken out, and there is no answer
  -- yet. Any other reply is the answer.
  abbrev pub GoesOnAfter : {D F G : Type 0} → CountReply S D F G → C → Walked Linked → Next S G → C → Walked Linked → Type 0
  GoesOnAfter (Added s) c w (Answer (pass.Found t)) d v = (t ≡ s) × PrunesBehind c w d v
  GoesOnAfter (Full shown grant) c w (Answer (pass.Full back)) d v = PrunesBehind c w d v
  GoesOnAfter (Dying shown grant) c w (GoOn back) d v = (c ≡ d) × (v ≡ taken_out w w.left)
  GoesOnAfter reply c w next d v = ⊥
