-- The output of the steps behind the opening lines is the script's.
use Rattle.std.proofs.Common.{◌≡◌, ℕ, List, Option}
use Rattle.std.specs.Option.{unwrap_or}
use Rattle.std.specs.Prelude.{IfOk, Result, Ok, Err, String, string_bytes}
use Rattle.std.specs.Result.{result_or}
use Rattle.text_forms.specs.Bounds.{Bounds}
use Rattle.text_forms.specs.Layout.{usual_bits}
use Rattle.atomic_steps.specs.Runs.{Script}
use Rattle.text_forms.specs.Tables.{Tables}
use Rattle.replay_script.specs.Replay.{IsOutput, IsReplay}
use Rattle.replay_script.specs.Script.{script_lines, greatest, SpellsBuckets, SpellsLimits, SpellSteps, Takes}
use Rattle.replay_script.proofs.LineLemmas.{script_opens}

pub replay_opens : {Y E : Type 0} (t : Tables) (text body rest : List ℕ) (limits : Option Bounds) (bits : Option ℕ) (l : Bounds) (b : ℕ) (r : Result (String Y) E)
    → Takes SpellsLimits text limits body → Takes SpellsBuckets body bits rest → l ≡ unwrap_or limits greatest → b ≡ unwrap_or bits usual_bits
    → IfOk r (λ out. (steps : Script) × SpellSteps (script_lines rest) steps × IsOutput t l b steps (string_bytes out)) → IfOk r (λ out. IsReplay t text (string_bytes out))
replay_opens t text body rest limits bits l b (Ok out) opens follows is too ran = record {
  limits = l;
  bits = b;
  steps = ran.0;
  spelled = rw is (rw too (script_opens text body rest limits bits ran.0 opens follows ran.1));
  run = ran.2;
}
replay_opens t text body rest limits bits l b (Err fault) opens follows is too ran = tt

-- what is so at `Ok` stays so, whatever the error becomes
pub or_err : {T E F : Type 0} (P : T → Type 0) (r : Result T E) (fault : F) → IfOk r P → IfOk (result_or r (Err fault)) P
or_err P (Ok x) fault h = h
or_err P (Err e) fault h = tt
