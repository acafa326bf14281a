use Rattle.std.proofs.Common.{◌≡◌, ◌≢◌, ℕ, ◌<◌, false, get_or}
use Rattle.text_forms.specs.declared.phf.Hashes.{Hashes}
use Rattle.table_generator.specs.Places.{place_by, is_taken}
use Rattle.table_generator.proofs.search.fits.Given as goal

abbrev pub invariant-loop-i : goal.invariant-loop-i
invariant-loop-i l = record {
  free : (k : ℕ) (d : Hashes) → k < l.i → is_taken l.taken (place_by l.len l.pair (get_or l.members k d)) ≡ false;
  differ : (a b : ℕ) (d : Hashes) → a < b → b < l.i → place_by l.len l.pair (get_or l.members a d) ≢ place_by l.len l.pair (get_or l.members b d);
}
