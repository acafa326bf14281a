-- A pass over a bucket's list, read as steps: each is enabled, and the list that they leave is the one that the pass leaves.
use Rattle.std.specs.Prelude.{◌≡◌, ℕ, ◌<◌, ◌≤◌, ◌==◌, ⊤, Bool, true, false, List, [], ◌∷◌, ◌++◌, length, map, reverse, Option, Some, IsSome}
use Rattle.std.specs.List.{filter, enumerate_from}
use Rattle.text_forms.specs.Bounds.{Bounds}
use Rattle.text_forms.specs.Layout.{most_buckets}
use Rattle.atomic_steps.specs.declared.steps.Step.{Step}
use Rattle.atomic_steps.specs.declared.steps.Step.TheVariants.{Add, Link, Unlink, Leave}
use Rattle.atomic_steps.specs.declared.steps.StepReply.{StepReply}
use Rattle.atomic_steps.specs.declared.steps.StepReply.TheVariants as reply
use Rattle.text_forms.specs.Tables.{Tables}
use Rattle.atomic_steps.specs.World.{WorldEntry, World}
use Rattle.atomic_steps.specs.Steps.{step_if, IsStep, is_linked_in, opening}
use Rattle.atomic_steps.specs.Runs.{Event, Leads}
use Rattle.atomic_steps.specs.Theorem.{text_taken, bucket_taken}
use Rattle.text_forms.specs.Pass.{PassReply, added, full, died, gone, stays, Asked, Outcome, absent, outcome, kept}

-- An entry as its bucket's list has it: the part of it that stays the same.
pub record Item : Type 0 where
  pub number : ℕ
  pub ticket : ℕ
  pub text : List ℕ

abbrev pub item : ℕ × WorldEntry → Item
item numbered = record { number = numbered.0; ticket = numbered.1.ticket; text = numbered.1.text }

-- The bucket's list, newest first.
abbrev pub list_of : World → ℕ → List Item
list_of w bucket = reverse (map item (filter (λ numbered. is_linked_in bucket numbered.1) (enumerate_from 1 w.entries)))

-- ---- a pass, as the steps that it is

-- A step of a pass, and the replies to it after which the pass goes on.
pub record Planned : Type 0 where
  pub does : Step
  pub fits : StepReply → Bool

abbrev pub planned : Step → (StepReply → Bool) → Planned
planned does fits = record { does = does; fits = fits }

abbrev pub any_reply : StepReply → Bool
any_reply r = true

abbrev pub is_added : StepReply → Bool
is_added (reply.Added ticket holders) = true
is_added r = false

abbrev pub is_full : StepReply → Bool
is_full reply.Full = true
is_full r = false

abbrev pub is_dying : StepReply → Bool
is_dying reply.Dying = true
is_dying r = false

abbrev pub is_unlinked : StepReply → Bool
is_unlinked reply.Unlinked = true
is_unlinked r = false

abbrev pub is_kept : StepReply → Bool
is_kept reply.Kept = true
is_kept r = false

-- The steps of entry e, by what was answered about it. One that `add` found dying is unlinked next.
abbrev pub steps_of : {S : Type 0} → ℕ → PassReply S → List Planned
steps_of e (added share) = planned (Add e) is_added ∷ []
steps_of e full = planned (Add e) is_full ∷ []
steps_of e died = planned (Add e) is_dying ∷ planned (Unlink e) any_reply ∷ []
steps_of e gone = planned (Unlink e) is_unlinked ∷ []
steps_of e stays = planned (Unlink e) is_kept ∷ []

-- the steps of each entry, in order
abbrev pub steps_of_all : {S : Type 0} → List Item → List (PassReply S) → List Planned
steps_of_all [] replies = []
steps_of_all (e ∷ entries) [] = []
steps_of_all (e ∷ entries) (r ∷ replies) = steps_of e.number r ++ steps_of_all entries replies

-- How a pass ends: with Link if its text is absent, and always with Leave.
abbrev pub end_of : {S : Type 0} → Bool → Option (List ℕ) → Outcome S → List Planned
end_of room (Some text) absent = planned (Link room) any_reply ∷ planned Leave any_reply ∷ []
end_of room wanted other = planned Leave any_reply ∷ []

-- A pass for a text, or a sweep, over these entries with these replies, as steps.
abbrev pub plan_of : {S : Type 0} → Bool → Option (List ℕ) → List Item → List (PassReply S) → List Planned
plan_of room wanted entries replies = steps_of_all entries replies ++ end_of room wanted (outcome replies)

-- ---- runs in which a party makes such steps

-- the party's own steps
abbrev pub own : ℕ → List Event → List Event
own party events = filter (λ event. event.party == party) events

-- The steps were these, each replied to as planned.
abbrev pub AsPlanned : List Planned → List Event → Type 0
AsPlanned [] [] = ⊤
AsPlanned (next ∷ plan) (event ∷ events) = (event.does ≡ next.does) × (next.fits event.reply ≡ true) × AsPlanned plan events
AsPlanned plan events = ⊥

-- the new entry that a reply reports, linked with the text that is wanted
abbrev pub linked_by : Option (List ℕ) → StepReply → List Item
linked_by (Some text) (reply.Linked number ticket) = record { number = number; ticket = ticket; text = text } ∷ []
linked_by wanted r = []

-- the new entries that these steps linked, newest first
abbrev pub new_by : Option (List ℕ) → List Event → List Item
new_by wanted [] = []
new_by wanted (event ∷ events) = new_by wanted events ++ linked_by wanted event.reply

-- A party that has just taken the bucket goes over its list as a pass with these replies does, with others' steps in between.
pub record GoesAsPass {S : Type 0} (t : Tables) (taken : World) (party bucket : ℕ) (wanted : Option (List ℕ)) (replies : List (PassReply S)) (room : Bool) : Type 0 where
  -- Once the first steps of the plan were made, and replied to as planned, the next one is enabled.
  pub enabled : (events : List Event) (w : World) (before after : List Planned) (next : Planned) → Leads t taken events w
      → plan_of room wanted (list_of taken bucket) replies ≡ before ++ next ∷ after → AsPlanned before (own party events) → IsSome (step_if t w party next.does)
  -- Right after the last one, which is Leave, the bucket's list is the one that the pass leaves: what it kept, in order, and in front of it the new
  -- entry, if one was linked.
  pub left : (events : List Event) (last : Event) (w : World) → Leads t taken (events ++ last ∷ []) w → last.party ≡ party
      → AsPlanned (plan_of room wanted (list_of taken bucket) replies) (own party events ++ last ∷ [])
      → list_of w bucket ≡ new_by wanted (own party events ++ last ∷ []) ++ kept (list_of taken bucket) replies

-- A party that has just taken a bucket, to intern or to sweep, may read any pass over its list, with any replies, as steps.
abbrev pub PassIsSteps : Type 0 → Type 0
PassIsSteps S = (t : Tables) (limits : Bounds) (buckets : ℕ) (before : List Event) (w taken : World) (party bucket : ℕ) (take : Step) → 0 < buckets → buckets ≤ most_buckets
    → Leads t (opening limits buckets) before w → IsStep t w party take reply.Taken taken → bucket_taken t (length w.lasts) take ≡ Some bucket
    → (replies : List (PassReply S)) → Asked (text_taken take) (map (λ item. item.text) (list_of taken bucket)) replies
    → (room : Bool) → GoesAsPass t taken party bucket (text_taken take) replies room
