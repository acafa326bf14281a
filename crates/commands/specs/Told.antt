-- What a command that writes an output of the text it reads returns, by what its reader and its writer show before and after.
use Rattle.std.specs.Prelude.{◌≡◌, ◌↔◌, ◌⊎◌, ℕ, List, true, false, Option, Result, Err, IfSome, IfErr, OnOk, OnErr}
use Rattle.std.specs.Str.{IsUtf8}
use Rattle.std.specs.Io.KnownBytes.{Appends, IsAtEnd, Keeps}
use Rattle.text_streams.specs.declared.faults.AppFault.{AppFault}
use Rattle.text_streams.specs.declared.faults.AppFault.TheVariants.{Read, Write, Text}
use Rattle.text_streams.specs.declared.streams.Sink as sink
use Rattle.text_streams.specs.declared.streams.Source as source
use Rattle.text_streams.specs.Faults.{IsReadingFault}
use Rattle.text_streams.specs.Streams.{AppendsBeginning}

-- from old to new an output was written
abbrev pub Writes : (List ℕ → Type 0) → Option (List ℕ) → Option (List ℕ) → Type 0
Writes IsOutput old new = (output : List ℕ) × IsOutput output × Appends old new output

-- from old to new nothing was written, or a beginning of an output
abbrev pub Begins : (List ℕ → Type 0) → Option (List ℕ) → Option (List ℕ) → Type 0
Begins IsOutput old new = Keeps old new ⊎ ((output : List ℕ) × IsOutput output × AppendsBeginning old new output)

module _ {S K : Type 0}
    (of_reader : source.Ghosts S)  -- of a reader: the bytes that it gives from here on, if they are known, and whether it ended or failed
    (of_writer : sink.Ghosts K) where  -- of a writer: the bytes that it holds, if they are known, and whether it failed
  -- What is written and returned, by cases of the result, if an output of the text is to be written, faults of which `IsUnwritten` holds leave the
  -- writer as it was, and only those of which `MayCome` holds are returned.
  pub record Tells {T : Type 0} (IsOutput : List ℕ → List ℕ → Type 0) (IsUnwritten MayCome : AppFault → Type 0) (reader reader' : S) (writer writer' : K) (result : Result T AppFault) : Type 0 where
    -- The reader has ended, what it gave is a text, and exactly an output of it was written.
    pub ended : OnOk result ((of_reader.has_ended reader' ≡ true) × IsAtEnd (of_reader.remaining reader'))
    pub utf8 : OnOk result (IfSome (of_reader.remaining reader) IsUtf8)
    pub output : OnOk result (IfSome (of_reader.remaining reader) (λ bytes. Writes (IsOutput bytes) (of_writer.contents writer) (of_writer.contents writer')))
    -- After a fault at most a beginning of one was, and after some faults nothing.
    pub beginning : OnErr result (IfSome (of_reader.remaining reader) (λ bytes. Begins (IsOutput bytes) (of_writer.contents writer) (of_writer.contents writer')))
    pub unwritten : IfErr result (λ fault. IsUnwritten fault → Keeps (of_writer.contents writer) (of_writer.contents writer'))
    -- Which fault may be returned, and when.
    pub fault : IfErr result MayCome
    pub reading : IfErr result (λ fault. of_reader.has_ended reader' ≡ false → IsReadingFault fault)
    pub text : result ≡ Err Text → (of_reader.has_ended reader' ≡ true) × IfSome (of_reader.remaining reader) (λ bytes. ¬ (IsUtf8 bytes))
    pub read : (result ≡ Err Read) ↔ (of_reader.has_failed reader' ≡ true)
    pub write : (result ≡ Err Write) ↔ (of_writer.has_failed writer' ≡ true)
