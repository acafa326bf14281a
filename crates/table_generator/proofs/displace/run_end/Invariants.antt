use Rattle.std.proofs.Common.{◌≡◌, ℕ, ◌-◌, ◌<◌, ◌≤◌, length, get_or}
use Rattle.text_forms.specs.declared.phf.Hashes.{Hashes}
use Rattle.table_generator.specs.Grouped.{pair_of}
use Rattle.table_generator.proofs.displace.run_end.Given as goal

abbrev pub invariant-loop-end : goal.invariant-loop-end
invariant-loop-end l = record {
  some : l.start < l.end;
  within : l.end ≤ length l.hashes;
  same : (j : ℕ) (d : Hashes) → l.start ≤ j → j < l.end → pair_of l.pairs (get_or l.hashes j d) ≡ pair_of l.pairs (get_or l.hashes l.start d);
}

abbrev pub decreases-loop-end : goal.decreases-loop-end
decreases-loop-end l = length l.hashes - l.end
