-- What the program writes and returns, by its arguments.
use Rattle.std.specs.Prelude.{◌≡◌, ℕ, ◌≤◌, List, Result, String, string_bytes, map, IfSome, OnOk, OnErr}
use Rattle.std.specs.Str.{IsUtf8}
use Rattle.string_cache.specs.Tables.{empty_tables}
use Rattle.replay_script.specs.Replay.{IsReplay}
use Rattle.commands.specs.Commands.{Asks}
use Rattle.commands.specs.CountLines.{AreCountLines}
use Rattle.commands.specs.TableCommands.{IsAnswer, IsTableOutput}
use Rattle.commands.specs.Told.{Begins, Writes}
use Rattle.commands.specs.WordLines.{AreWordLines}
use Rattle.commands.specs.declared.program.Command.{Command}
use Rattle.commands.specs.declared.program.Command.TheVariants.{Words, Count, Replay, Generate, Check}
use Rattle.text_streams.specs.declared.faults.AppFault.{AppFault}
use Rattle.text_streams.specs.declared.streams.Sink as sink
use Rattle.text_streams.specs.declared.streams.Source as source

-- the output of a command for a text
abbrev pub IsOutputOf : Command → List ℕ → List ℕ → Type 0
IsOutputOf Words = AreWordLines
IsOutputOf (Count n) = AreCountLines
IsOutputOf Replay = IsReplay empty_tables
IsOutputOf (Generate key bound) = IsTableOutput key bound
IsOutputOf Check = IsAnswer

module _ {S K : Type 0}
    (of_reader : source.Ghosts S)  -- of a reader: the bytes that it gives from here on, if they are known
    (of_writer : sink.Ghosts K) where  -- of a writer: the bytes that it holds, if they are known
  -- What a command's result says about the output that it is to make of the input: one was written, or after a fault at most a beginning of one.
  pub record Yields {T : Type 0} (IsOutput : List ℕ → List ℕ → Type 0) (input : S) (output output' : K) (result : Result T AppFault) : Type 0 where
    pub utf8 : OnOk result (IfSome (of_reader.remaining input) IsUtf8)
    pub all : OnOk result (IfSome (of_reader.remaining input) (λ bytes. Writes (IsOutput bytes) (of_writer.contents output) (of_writer.contents output')))
    pub beginning : OnErr result (IfSome (of_reader.remaining input) (λ bytes. Begins (IsOutput bytes) (of_writer.contents output) (of_writer.contents output')))

  -- What a command's status says about the output that it is to make of the input: 0, that one was written; 1, that at most a beginning of one was.
  -- There is no other status.
  pub record Makes (IsOutput : List ℕ → List ℕ → Type 0) (input : S) (output output' : K) (status : ℕ) : Type 0 where
    pub all : status ≡ 0 → IfSome (of_reader.remaining input) (λ bytes. Writes (IsOutput bytes) (of_writer.contents output) (of_writer.contents output'))
    pub beginning : status ≡ 1 → IfSome (of_reader.remaining input) (λ bytes. Begins (IsOutput bytes) (of_writer.contents output) (of_writer.contents output'))
    pub no_other : status ≤ 1

  -- The status is that of the command that the arguments ask for. It is 2 if they ask for none, and nothing was read or written.
  pub record Runs {Y : Type 0} (args : List (String Y)) (input input' : S) (output output' : K) (status : ℕ) : Type 0 where
    pub utf8 : status ≡ 0 → IfSome (of_reader.remaining input) IsUtf8
    pub made : (command : Command) → Asks (map string_bytes args) command → Makes (IsOutputOf command) input output output' status
    pub other : ((command : Command) → ¬ (Asks (map string_bytes args) command)) → (status ≡ 2) × (input' ≡ input) × (output' ≡ output)
