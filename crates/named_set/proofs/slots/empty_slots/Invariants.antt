use Rattle.std.proofs.Common.{◌≡◌, ◌≤◌, ◌-◌, replicate, vec_len, vec_capacity}
use Rattle.named_set.specs.declared.slots.Slot.TheVariants.{Empty}
use Rattle.named_set.proofs.slots.empty_slots.Given as goal

abbrev pub invariant-loop-slots : goal.invariant-loop-slots
invariant-loop-slots l = (vec_len l.slots ≤ l.places) × (l.places ≤ vec_capacity l.slots) × (l.slots.items ≡ replicate (vec_len l.slots) Empty)

abbrev pub decreases-loop-slots : goal.decreases-loop-slots
decreases-loop-slots l = l.places - vec_len l.slots
