use Rattle.std.proofs.Common.{◌≡◌, ℕ, ◌<◌, true, length, get_or}
use Rattle.text_forms.specs.declared.phf.Hashes.{Hashes}
use Rattle.table_generator.specs.Places.{place_by, is_taken}
use Rattle.table_generator.proofs.search.mark.Given as goal

abbrev pub invariant-loop-member : goal.invariant-loop-member
invariant-loop-member l = record {
  length_same : length l.taken ≡ length l.initial.taken;
  kept : (place : ℕ) → is_taken l.initial.taken place ≡ true → is_taken l.taken place ≡ true;
  marked : (k : ℕ) (d : Hashes) → k < l.member-index → is_taken l.taken (place_by l.len l.pair (get_or l.members k d)) ≡ true;
}
