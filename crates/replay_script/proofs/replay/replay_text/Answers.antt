use Rattle.std.proofs.Common.{rules, ◌+◌}
use Rattle.text_forms.specs.Tables.{empty_tables}
use Rattle.replay_script.specs.Script.{script_lines, StopsAfter}
use Rattle.replay_script.proofs.LineLemmas.{script_stops, line_counted}
use Rattle.replay_script.proofs.ReplayLemmas.{or_err, replay_opens}
use Rattle.replay_script.proofs.replay.replay_text.Goals as goal

pub returns-in_err-check_steps-clause-line : goal.returns-in_err-check_steps-clause-line
returns-in_err-check_steps-clause-line c = λ n is.
    let limits = c.limits_of-limits.result.0 in
    let buckets = c.buckets_of-buckets.result.0 in
    let body = c.limits_of-limits.result.1.now in
    let rest = c.buckets_of-buckets.result.1.now in
    let passed = c.from.result in
    let more = c.from-2.result in
    let stops : StopsAfter (script_lines rest) (passed + more) n = search rules in
    script_stops c.args.text.now body rest limits buckets passed more n c.limits_of-limits.ensures c.buckets_of-buckets.ensures
    (line_counted limits c.is_some.result passed c.is_some.ensures c.from.ensures) (line_counted buckets c.is_some-2.result more c.is_some-2.ensures c.from-2.ensures)
    stops

pub returns-clause-output : goal.returns-clause-output
returns-clause-output c =
    rw c.or.ensures (or_err _ c.output_of.result _
    (replay_opens empty_tables c.args.text.now c.limits_of-limits.result.1.now c.buckets_of-buckets.result.1.now c.limits_of-limits.result.0 c.buckets_of-buckets.result.0 _ _ c.output_of.result
    c.limits_of-limits.ensures c.buckets_of-buckets.ensures (search rules) (search rules) c.output_of.ensures.ok))
