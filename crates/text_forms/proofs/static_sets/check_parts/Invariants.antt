use Rattle.std.proofs.Common.{◌≡◌, ℕ, ◌<◌}
use Rattle.text_forms.specs.Parts.{parts}
use Rattle.text_forms.specs.Tables.{place_in, text_at}
use Rattle.text_forms.proofs.static_sets.check_parts.Given as goal

abbrev pub invariant-loop-i : goal.invariant-loop-i
invariant-loop-i l =
    (k : ℕ) → k < l.i
    → place_in (parts l.fn.key l.fn.disps l.atoms l.fn.hashes) (text_at (parts l.fn.key l.fn.disps l.atoms l.fn.hashes) k) ≡ k
