use Rattle.std.proofs.Common.{◌≡◌, ℕ, suc, ◌+◌, ◌<◌, List, length, sym, ap, ◌∙◌, subst, arith, slice_index_or, slice_set}
use Rattle.std.specs.Prelude.{Option, None, Some}
use Rattle.counted_cell.specs.Text.{begun}
use Rattle.counted_cell.proofs.Begun.{begun-length, begun-next, begun-more, part-of}
use Rattle.counted_cell.proofs.text.copy.Goals as goal

pub write-requires : goal.write-requires
write-requires c =
    let all = c.requires.empty.0 in let at = c.args.from + c.loop-count.count in
    let is = c.loop-count.invariant.2 all c.requires.empty.1 c.requires.empty.2 in
    let long : length c.loop-count.places.slots ≡ length all = ap length is ∙ begun-length all at in
    let fits = c.requires.empty.2.0 in let more = c.loop-count-test.true in
    (c.loop-count.invariant.1, omega (arith, long, fits, more), subst (λ (l : List (Option ℕ)). slice_index_or l at None ≡ None) (sym is) (begun-next all at))

pub loop-count-preserved : goal.loop-count-preserved
loop-count-preserved c =
    let i = c.loop-count.count in let xs = c.args.bytes.now in let at = c.args.from + i in let so = c.write.ensures in let placed = so.0 ∙ c.loop-count.invariant.0 in
    let more : i < length xs = c.loop-count-test.true in (
      placed,
      c.requires.place ∙ sym placed,
      (λ all from-here part.
          so.1 ∙ ap (λ (l : List (Option ℕ)). slice_set l at (Some (slice_index_or xs i 0))) (c.loop-count.invariant.2 all from-here part)
          ∙ ap (λ n. slice_set (begun all at) at (Some n)) (part-of all xs c.args.from i part.1 more)
          ∙ begun-more all at 0 (let fits = part.0 in omega (arith, fits, more)) ∙ ap (begun all) {x = suc at} {y = c.args.from + (i + 1)} (omega arith)),
      omega (arith, more),
    )
