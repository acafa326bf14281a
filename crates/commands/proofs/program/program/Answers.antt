use Rattle.std.proofs.Common.{subst}
use Rattle.commands.specs.Program.{IsOutputOf, Yields}
use Rattle.commands.proofs.ProgramLemmas.{made, text}
use Rattle.commands.proofs.program.program.Goals as goal

pub returns-clause-runs : goal.returns-clause-runs
returns-clause-runs g c =
    let of_reader = g.S.Source in
    let of_writer = g.K.Sink in
    let found = c.in-Some.command in
    let input = c.args.input.now in
    let output = c.args.output.now in
    let output' = c.carry_out-outcome.new.output in
    let outcome = c.carry_out-outcome.result in
    let status = c.status_of.result in
    let yields = c.carry_out-outcome.ensures.yields in
    record {
      utf8 = text of_reader of_writer (IsOutputOf found) input output output' outcome status c.status_of.ensures yields;
      made = λ command asked.
          let e = c.in-Some.ensures.asked command asked in
          made of_reader of_writer (IsOutputOf command) input output output' outcome status c.status_of.ensures
          (subst (λ it. Yields of_reader of_writer (IsOutputOf it) input output output' outcome) (cc e) yields);
      other = λ none. absurd (none found c.in-Some.ensures.asks);
    }
