use Rattle.std.proofs.Common.{arith, ◌≡◌}
use Rattle.replay_script.proofs.CutLemmas.{cut_once}
use Rattle.replay_script.proofs.line.party_of.Goals as goal
use Rattle.replay_script.proofs.line.party_of.Goals.{then-number-eq0-via-then-number-eq0, then-number-eq0-via-else-number-eq0+then-number}

pub returns-then-number-eq0 : goal.returns-then-number-eq0
returns-then-number-eq0 c = λ party words low high e.
    let same : party ≡ c.in_ok-number.number = (cut_once c.args.line.now party c.in_ok-number.number words c.in_ok-number.words.now (omega arith) c.in_ok-number.ensures.0 e c.in_ok-number.ensures.1).0 in
    absurd (elim c.then-number-eq0.branch [ then-number-eq0-via-then-number-eq0 w ↦ omega arith | then-number-eq0-via-else-number-eq0+then-number w ↦ omega arith ])
