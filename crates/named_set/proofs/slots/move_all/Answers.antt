use Rattle.std.proofs.Common.{◌≡◌, ◌∙◌, ◌∷◌, ◌++◌, [], map, refl, ap, arith}
use Rattle.std.specs.List.Sorted.{IsPermutation}
use Rattle.std.proofs.lemmas.List.Sorted.{IsPermutation-append_left}
use Rattle.named_set.specs.Places.{cells_in}
use Rattle.named_set.specs.Slots.{cell_at}
use Rattle.named_set.specs.declared.slots.Slot.{Slot}
use Rattle.named_set.specs.declared.slots.Slot.TheVariants.{Full}
use Rattle.named_set.proofs.Finding.{add_second}
use Rattle.named_set.proofs.Indexing.{put_more}
use Rattle.named_set.proofs.Standing.{counts_last, moved_last, popped_free, popped_full, short_last, shorts_front}
use Rattle.named_set.proofs.slots.move_all.Goals as goal

pub overflow_add-moved : goal.overflow_add-moved
overflow_add-moved c =
    let more = put_more c.loop-slot.slots c.loop-slot.slots c.put_full.new.slots c.in-Full.short c.in-Full.owner refl c.in-Ok.ensures.put in
    omega (arith, c.loop-slot.invariant.count, more.fits)

pub push_reserved-requires : goal.push_reserved-requires
push_reserved-requires c =
    let before = c.loop-slot.before.items in
    let rest = c.pop.new.self.items in
    let x = c.in-Full.owner in
    let last : before ≡ rest ++ Full c.in-Full.short x ∷ [] = c.in-Some.ensures.items ∙ ap (λ (s : Slot). rest ++ s ∷ []) c.in-Full.is in
    let cells = popped_full before rest c.in-Full.short x last in
    let count = counts_last (cells_in (map cell_at before)) (cells_in (map cell_at rest)) x cells in
    omega (arith, count, c.loop-slot.invariant.room)

pub loop-slot-preserved-in-Ok : goal.loop-slot-preserved-in-Ok
loop-slot-preserved-in-Ok c =
    let before = c.loop-slot.before.items in
    let rest = c.pop.new.self.items in
    let short = c.in-Full.short in
    let x = c.in-Full.owner in
    let slots = c.loop-slot.slots in
    let new = c.put_full.new.slots in
    let spare = c.loop-slot.spare.items in
    let inv = c.loop-slot.invariant in
    let more = put_more slots slots new short x refl c.in-Ok.ensures.put in
    let last : before ≡ rest ++ Full short x ∷ [] = c.in-Some.ensures.items ∙ ap (λ (s : Slot). rest ++ s ∷ []) c.in-Full.is in
    let cells = popped_full before rest short x last in
    let count = counts_last (cells_in (map cell_at before)) (cells_in (map cell_at rest)) x cells in
    let moved = IsPermutation-append_left spare (x ∷ cells_in (map cell_at slots)) (cells_in (map cell_at new)) more.cells in
    record {
      room = omega (arith, count, inv.room);
      index = λ m index have. let was = inv.index m index have in (more.index m was.0 (short_last m before rest short x last was.1), shorts_front m before rest (Full short x) last was.1);
      cells = moved_last (cells_in (map cell_at c.args.before.items) ++ (cells_in (map cell_at c.args.slots.now) ++ c.args.spare.now.items))
          (cells_in (map cell_at before)) (cells_in (map cell_at rest)) x (cells_in (map cell_at slots) ++ spare) (cells_in (map cell_at new) ++ spare) cells inv.cells moved;
      count = omega (arith, inv.count, more.count);
    }

pub loop-slot-preserved-in-Err : goal.loop-slot-preserved-in-Err
loop-slot-preserved-in-Err c =
    let before = c.loop-slot.before.items in
    let rest = c.pop.new.self.items in
    let short = c.in-Full.short in
    let x = c.in-Full.owner in
    let slots = c.loop-slot.slots in
    let spare = c.loop-slot.spare.items in
    let inv = c.loop-slot.invariant in
    let told = c.push_reserved.ensures in
    let last : before ≡ rest ++ Full short x ∷ [] = c.in-Some.ensures.items ∙ ap (λ (s : Slot). rest ++ s ∷ []) c.in-Full.is in
    let cells = popped_full before rest short x last in
    let count = counts_last (cells_in (map cell_at before)) (cells_in (map cell_at rest)) x cells in
    let moved : IsPermutation (x ∷ (cells_in (map cell_at slots) ++ spare)) (cells_in (map cell_at c.put_full.new.slots) ++ c.push_reserved.new.self.items) =
    rw (told.items, c.in-Err.ensures.back, c.in-Err.ensures.same) (add_second (cells_in (map cell_at slots)) spare x) in
    record {
      room = omega (arith, count, inv.room, told.len, told.capacity);
      index = λ m index have. let was = inv.index m index have in rw (c.in-Err.ensures.same) (was.0, shorts_front m before rest (Full short x) last was.1);
      cells = moved_last (cells_in (map cell_at c.args.before.items) ++ (cells_in (map cell_at c.args.slots.now) ++ c.args.spare.now.items))
          (cells_in (map cell_at before)) (cells_in (map cell_at rest)) x (cells_in (map cell_at slots) ++ spare) (cells_in (map cell_at c.put_full.new.slots) ++ c.push_reserved.new.self.items) cells inv.cells moved;
      count = rw (c.in-Err.ensures.same) inv.count;
    }

pub loop-slot-preserved : goal.loop-slot-preserved
loop-slot-preserved c =
    let before = c.loop-slot.before.items in
    let rest = c.pop.new.self.items in
    let inv = c.loop-slot.invariant in
    let last : before ≡ rest ++ c.in-Some.slot ∷ [] = c.in-Some.ensures.items in
    let cells = popped_free before rest c.in-Some.slot c.in_default-slot.not-Full last in
    record {
      room = rw (← cells) inv.room;
      index = λ m index have. let was = inv.index m index have in (was.0, shorts_front m before rest c.in-Some.slot last was.1);
      cells = rw (← cells) inv.cells;
      count = inv.count;
    }

pub returns-clause-index : goal.returns-clause-index
returns-clause-index c = λ m index have. (c.loop-slot.invariant.index m index have).0
