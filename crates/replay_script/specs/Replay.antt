-- The output of a script.
use Rattle.std.specs.Prelude.{◌≡◌, ℕ, ◌+◌, ◌/◌, ◌%◌, ◌^◌, ◌==◌, nat_lt, if◌then◌else◌, List, [], ◌∷◌, ◌++◌, length, codes, decimal}
use Rattle.std.specs.List.{flat_map}
use Rattle.text_forms.specs.Bounds.{Bounds}
use Rattle.atomic_steps.specs.declared.steps.StepReply.{StepReply}
use Rattle.atomic_steps.specs.declared.steps.StepReply.TheVariants as reply
use Rattle.text_forms.specs.Layout.{ticket_unit}
use Rattle.text_forms.specs.Tables.{Tables}
use Rattle.atomic_steps.specs.World.{WorldEntry, World}
use Rattle.atomic_steps.specs.Steps.{opening}
use Rattle.atomic_steps.specs.Runs.{Script}
use Rattle.atomic_steps.specs.Theorem.{HasRun}
use Rattle.replay_script.specs.Script.{script_lines, SpellScript}

-- the serial of a ticket, and 0 for any other word
abbrev pub serial_in : ℕ → ℕ
serial_in word = if word % 4 == 0 then word / ticket_unit else 0

-- the line of a reply
abbrev pub reply_line : StepReply → List ℕ
reply_line reply.No = codes "no\n"
reply_line reply.Taken = codes "taken\n"
reply_line (reply.Added ticket holders) = codes "added " ++ (decimal holders ++ codes "\n")
reply_line reply.Dying = codes "dying\n"
reply_line reply.Full = codes "full\n"
reply_line (reply.Linked entry ticket) = codes "linked e" ++ (decimal entry ++ (codes " serial " ++ (decimal (serial_in ticket) ++ codes "\n")))
reply_line reply.Spent = codes "spent\n"
reply_line reply.Memory = codes "memory\n"
reply_line (reply.Cloned holders) = codes "cloned " ++ (decimal holders ++ codes "\n")
reply_line (reply.Given left) = codes "given " ++ (decimal left ++ codes "\n")
reply_line reply.Unlinked = codes "unlinked\n"
reply_line reply.Kept = codes "kept\n"
reply_line reply.Freed = codes "freed\n"
reply_line reply.Left = codes "left\n"

-- the line of entry e, if somebody holds it
abbrev pub held_line : ℕ → ℕ → List ℕ
held_line e count = if nat_lt 0 count then codes "held e" ++ (decimal e ++ (codes " " ++ (decimal count ++ codes "\n"))) else []

-- the lines of the entries, the first of which is entry e
abbrev pub held_lines_from : ℕ → List WorldEntry → List ℕ
held_lines_from e [] = []
held_lines_from e (entry ∷ entries) = held_line e entry.count ++ held_lines_from (e + 1) entries

-- the lines of the replies, in order, and then those of the entries that are held
abbrev pub output_of : List StepReply → World → List ℕ
output_of replies world = flat_map reply_line replies ++ held_lines_from 1 world.entries

-- The steps were all made, and the lines of their replies appended.
pub record RunsOn (t : Tables) (old new : World) (steps : Script) (before after : List ℕ) : Type 0 where
  pub replies : List StepReply
  pub run : HasRun t old steps [] replies new
  pub all : length replies ≡ length steps
  pub is : after ≡ before ++ flat_map reply_line replies

-- The steps were all made, one after another, from a world of 2 ^ bits buckets in which nothing had happened yet, and this is the output.
pub record IsOutput (t : Tables) (limits : Bounds) (bits : ℕ) (steps : Script) (output : List ℕ) : Type 0 where
  pub replies : List StepReply
  pub world : World
  pub run : HasRun t (opening limits (2 ^ bits)) steps [] replies world
  pub all : length replies ≡ length steps
  pub is : output ≡ output_of replies world

-- The bytes are a script, and this is its output.
pub record IsReplay (t : Tables) (bytes output : List ℕ) : Type 0 where
  pub limits : Bounds
  pub bits : ℕ
  pub steps : Script
  pub spelled : SpellScript (script_lines bytes) limits bits steps
  pub run : IsOutput t limits bits steps output
