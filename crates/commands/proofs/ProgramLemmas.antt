-- What the status of the program says of a command's output, from what the command's result says.
use Rattle.std.proofs.Common.{◌≡◌, ℕ, List, Result, Ok, Err, IfSome, IsUtf8, MatchResult, arith}
use Rattle.commands.specs.Program.{Makes, Yields}
use Rattle.text_streams.specs.declared.faults.AppFault.{AppFault}
use Rattle.text_streams.specs.declared.streams.Sink as sink
use Rattle.text_streams.specs.declared.streams.Source as source

module _ {S K T : Type 0} (of_reader : source.Ghosts S) (of_writer : sink.Ghosts K) where
  -- it says of the output what the result does
  pub made : (IsOutput : List ℕ → List ℕ → Type 0) (input : S) (output output' : K) (result : Result T AppFault) (status : ℕ) → MatchResult result (λ _. status ≡ 0) (λ _. status ≡ 1)
      → Yields of_reader of_writer IsOutput input output output' result → Makes of_reader of_writer IsOutput input output output' status
  made IsOutput input output output' (Ok done) status is yields = record { all = λ _. yields.all; beginning = λ one. absurd (omega (arith, is, one)); no_other = omega (arith, is) }
  made IsOutput input output output' (Err fault) status is yields = record { all = λ none. absurd (omega (arith, is, none)); beginning = λ _. yields.beginning; no_other = omega (arith, is) }

  -- where all went well, the input is a text
  pub text : (IsOutput : List ℕ → List ℕ → Type 0) (input : S) (output output' : K) (result : Result T AppFault) (status : ℕ) → MatchResult result (λ _. status ≡ 0) (λ _. status ≡ 1)
      → Yields of_reader of_writer IsOutput input output output' result → status ≡ 0 → IfSome (of_reader.remaining input) IsUtf8
  text IsOutput input output output' (Ok done) status is yields none = yields.utf8
  text IsOutput input output output' (Err fault) status is yields none = absurd (omega (arith, is, none))
