-- The calls of a table that `run` takes, and its replies.
use Rattle.std.specs.Prelude.{◌≡◌, ℕ, ◌⊎◌, List, [], ◌∷◌, Result, Ok, Err, string_bytes}
use Rattle.text_forms.specs.Bounds.{Bounds}
use Rattle.text_forms.specs.declared.faults.Fault.{Fault}
use Rattle.interner_table.specs.declared.table.call.Call.{Call}
use Rattle.interner_table.specs.declared.table.call.Call.TheVariants as call
use Rattle.interner_table.specs.declared.table.call.TableReply.{TableReply}
use Rattle.interner_table.specs.declared.table.call.TableReply.TheVariants as reply
use Rattle.text_forms.specs.Map.{InternMap}
use Rattle.interner_table.specs.Table.{Interns, Clones, Gives, IsHeld}
use Rattle.text_forms.specs.Tables.{Tables}

-- a word or a refusal, as a reply
abbrev pub reply_of : Result ℕ Fault → TableReply
reply_of (Ok word) = reply.Word word
reply_of (Err fault) = reply.Refused fault

-- The word isn't held, and nothing changes.
abbrev pub IsNotHeld : Tables → InternMap → ℕ → TableReply → InternMap → Type 0
IsNotHeld t m word answer new = (¬ (IsHeld t m word)) × (answer ≡ reply.NotHeld) × (new ≡ m)

-- From m the call may get this reply and leave new.
abbrev pub Answers : Tables → Bounds → InternMap → Call → TableReply → InternMap → Type 0
Answers t limits m (call.Intern text) answer new = (result : Result ℕ Fault) × Interns t limits m (string_bytes text) result new × (answer ≡ reply_of result)
Answers t limits m (call.Clone word) answer new =
    ((result : Result ℕ Fault) × Clones t limits m word result new × (answer ≡ reply_of result)) ⊎ IsNotHeld t m word answer new
Answers t limits m (call.Give word) answer new =
    (Gives t limits m word new × (answer ≡ reply.Given)) ⊎ IsNotHeld t m word answer new

-- The calls, one after another, may get these replies and leave the map new.
abbrev pub AnswersAll : Tables → Bounds → InternMap → List Call → List TableReply → InternMap → Type 0
AnswersAll t limits m [] [] new = new ≡ m
AnswersAll t limits m [] (answer ∷ answers) new = ⊥
AnswersAll t limits m (c ∷ calls) [] new = ⊥
AnswersAll t limits m (c ∷ calls) (answer ∷ answers) new = (mid : InternMap) × Answers t limits m c answer mid × AnswersAll t limits mid calls answers new
