-- Runs of steps, and how a run is read as calls of the map.
use Rattle.std.specs.Prelude.{◌≡◌, ℕ, ◌&&◌, length, List, [], ◌∷◌, ◌++◌, Option, Ok, Err}
use Rattle.std.specs.List.{find}
use Rattle.std.specs.Option.{option_map, unwrap_or}
use Rattle.std.specs.Str.{bytes_eq}
use Rattle.text_forms.specs.Bounds.{Bounds}
use Rattle.text_forms.specs.declared.faults.Fault.TheVariants as fault
use Rattle.atomic_steps.specs.declared.steps.Step.{Step}
use Rattle.atomic_steps.specs.declared.steps.Step.TheVariants.{Add, Link, Clone, Give}
use Rattle.atomic_steps.specs.declared.steps.StepReply.{StepReply}
use Rattle.atomic_steps.specs.declared.steps.StepReply.TheVariants as reply
use Rattle.text_forms.specs.Tables.{Tables}
use Rattle.atomic_steps.specs.World.{WorldEntry, World, is_living}
use Rattle.atomic_steps.specs.Steps.{step, IsStep, pass_of, entry_at, last_of, ◌>>=◌}
use Rattle.text_forms.specs.Map.{InternMap, Holding, MapCall, MapReply, MayReply}
use Rattle.text_forms.specs.Map as map

-- ---- runs

-- A step of a party that was made, and the reply that was given.
pub record Event : Type 0 where
  pub party : ℕ
  pub does : Step
  pub reply : StepReply

-- These events lead from old to new: each reply and each new world is the table's.
abbrev pub Leads : Tables → World → List Event → World → Type 0
Leads t old [] new = new ≡ old
Leads t old (e ∷ events) new = (mid : World) × IsStep t old e.party e.does e.reply mid × Leads t mid events new

-- steps to make, each with its party
abbrev pub Script : Type 0
Script = List (ℕ × Step)

-- The steps that have a reply, each with its reply.
abbrev pub events_of : Script → List StepReply → List Event
events_of [] replies = []
events_of (s ∷ script) [] = []
events_of (s ∷ script) (r ∷ replies) = record { party = s.0; does = s.1; reply = r } ∷ events_of script replies

-- ---- reading a run as calls

-- for a text, the ticket and the holders of its living entry
unfoldable pub living_at : List WorldEntry → List ℕ → Option Holding
living_at entries text = option_map (λ entry. record { ticket = entry.ticket; holders = entry.count }) (find (λ entry. is_living entry && bytes_eq entry.text text) entries)

-- The map that a world shows: its living entries, and the last serials.
abbrev pub live_map : World → InternMap
live_map w = record { buckets = length w.lasts; held = living_at w.entries; last = last_of w }

-- The text that the party is to intern. (It has one at each step that is read this way.)
abbrev pub wanted_by : World → ℕ → List ℕ
wanted_by w party = unwrap_or (pass_of w party >>= λ pass. pass.wanted) []

-- The ticket of entry e. (There is one at each step that is read this way.)
abbrev pub ticket_at : World → ℕ → ℕ
ticket_at w e = unwrap_or (option_map (λ entry. entry.ticket) (entry_at w.entries e)) 0

-- A call of the map that a party made, and the reply to it.
pub record Made : Type 0 where
  pub by : ℕ
  pub call : MapCall
  pub reply : MapReply

abbrev pub made : ℕ → MapCall → MapReply → List Made
made party call reply = record { by = party; call = call; reply = reply } ∷ []

abbrev pub holding : ℕ → ℕ → MapReply
holding ticket holders = Ok (record { ticket = ticket; holders = holders })

-- The deciding steps, each as a call with its reply. No other step is a call.
abbrev pub call_of : World → ℕ → Step → StepReply → List Made
call_of w party (Add e) (reply.Added ticket holders) = made party (map.Intern (wanted_by w party)) (holding ticket holders)
call_of w party (Add e) reply.Full = made party (map.Intern (wanted_by w party)) (Err fault.FullCount)
call_of w party (Link room) (reply.Linked entry ticket) = made party (map.Intern (wanted_by w party)) (holding ticket 1)
call_of w party (Link room) reply.Spent = made party (map.Intern (wanted_by w party)) (Err fault.TicketsSpent)
call_of w party (Link room) reply.Memory = made party (map.Intern (wanted_by w party)) (Err fault.Memory)
call_of w party (Clone e) (reply.Cloned holders) = made party (map.Clone (ticket_at w e)) (holding (ticket_at w e) holders)
call_of w party (Clone e) reply.Full = made party (map.Clone (ticket_at w e)) (Err fault.FullCount)
call_of w party (Give e) (reply.Given left) = made party (map.Give (ticket_at w e)) (holding (ticket_at w e) left)
call_of w party s r = []

-- The calls that a run from w decided, in order.
abbrev pub history_of : Tables → World → List Event → List Made
history_of t w [] = []
history_of t w (e ∷ events) = call_of w e.party e.does e.reply ++ history_of t (step t w e.party e.does).1 events

-- From m the calls, one after another, may get these replies and leave new.
abbrev pub ReplaysHistory : Tables → Bounds → InternMap → List Made → InternMap → Type 0
ReplaysHistory t limits m [] new = new ≡ m
ReplaysHistory t limits m (made ∷ calls) new = (mid : InternMap) × MayReply t limits m made.call made.reply mid × ReplaysHistory t limits mid calls new
