-- The bytes that were read are the text whose output is written.
use Rattle.std.proofs.Common.{◌≡◌, ℕ, List, Option, Result, true, false, Ok, Err, inr, rules}
use Rattle.std.specs.Prelude.{IfSome, IfErr, OnOk, OnErr}
use Rattle.std.specs.Str.{IsUtf8}
use Rattle.std.specs.Io.KnownBytes.{Appends, IsAtEnd}
use Rattle.commands.specs.Faults.{IsNotWrite}
use Rattle.commands.specs.Told.{Begins, Tells, Writes}
use Rattle.text_streams.specs.declared.faults.AppFault.{AppFault}
use Rattle.text_streams.specs.declared.faults.AppFault.TheVariants.{Write}
use Rattle.text_streams.specs.declared.streams.Sink as sink
use Rattle.text_streams.specs.declared.streams.Source as source
use Rattle.text_streams.specs.Streams.{AppendsBeginning}
use Rattle.text_streams.proofs.StreamLemmas.{told_of_given}

module _ (IsOutput : List ℕ → List ℕ → Type 0) (a : Option (List ℕ)) (given text output : List ℕ) (is : IfSome a (λ bytes. bytes ≡ given)) (same : text ≡ given) (made : IsOutput text output) where
  pub output_there : IfSome a (λ bytes. (output : List ℕ) × IsOutput bytes output)
  output_there = told_of_given (λ bytes. (output : List ℕ) × IsOutput bytes output) a given text is same (output, made)

  pub output_written : (old new : Option (List ℕ)) → Appends old new output → IfSome a (λ bytes. Writes (IsOutput bytes) old new)
  output_written old new appended = told_of_given (λ bytes. Writes (IsOutput bytes) old new) a given text is same (output, made, appended)

  pub output_begun : (old new : Option (List ℕ)) → AppendsBeginning old new output → IfSome a (λ bytes. Begins (IsOutput bytes) old new)
  output_begun old new begun = told_of_given (λ bytes. Begins (IsOutput bytes) old new) a given text is same (inr (output, made, begun))

-- where the output of all that was read is there, only the write can fail
pub output_told : {S K T : Type 0} {of_reader : source.Ghosts S} {of_writer : sink.Ghosts K}
    {IsOutput : List ℕ → List ℕ → Type 0} {MayCome : AppFault → Type 0} {reader reader' : S} {writer writer' : K} (result : Result T AppFault) (given text output : List ℕ)
    → (of_reader.has_ended reader' ≡ true) × IsAtEnd (of_reader.remaining reader') → IfSome (of_reader.remaining reader) IsUtf8 → (of_reader.has_failed reader' ≡ true → ⊥)
    → IfSome (of_reader.remaining reader) (λ bytes. bytes ≡ given) → text ≡ given → IsOutput text output → MayCome Write
    → OnOk result (Appends (of_writer.contents writer) (of_writer.contents writer') output) → OnOk result (of_writer.has_failed writer' ≡ false)
    → OnErr result (AppendsBeginning (of_writer.contents writer) (of_writer.contents writer') output) → IfErr result (λ fault. fault ≡ Write) → OnErr result (of_writer.has_failed writer' ≡ true)
    → Tells of_reader of_writer IsOutput IsNotWrite MayCome reader reader' writer writer' result
output_told {IsOutput = IsOutput} (Ok x) given text output ended utf8 unfailed is same made may ok sound err fault failed = record {
  ended = ended;
  utf8 = utf8;
  output = output_written IsOutput _ given text output is same made _ _ ok;
  beginning = tt;
  unwritten = tt;
  fault = tt;
  reading = tt;
  text = search rules;
  read = search rules;
  write = search rules;
}
output_told {IsOutput = IsOutput} (Err e) given text output ended utf8 unfailed is same made may ok sound err fault failed = record {
  ended = tt;
  utf8 = tt;
  output = tt;
  beginning = output_begun IsOutput _ given text output is same made _ _ err;
  unwritten = search rules;
  fault = search rules;
  reading = search rules;
  text = search rules;
  read = search rules;
  write = search rules;
}
