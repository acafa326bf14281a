-- What holds of every run from the opening world. A run is a list of events, with the replies that were really given,
-- and the world that it led to.
use Rattle.std.specs.Prelude.{◌≡◌, ◌≢◌, ℕ, ◌<◌, ◌≤◌, ◌==◌, ◌⊎◌, ◌↔◌, true, false, if◌then◌else◌, List, [], ◌∷◌, ◌++◌, length, Option, None, Some, slice_get}
use Rattle.std.specs.List.{filter, AllByRecursion}
use Rattle.std.specs.String.{string_bytes}
use Rattle.text_forms.specs.Bounds.{Bounds}
use Rattle.text_forms.specs.Layout.{most_buckets}
use Rattle.atomic_steps.specs.declared.steps.world_entry.Place.TheVariants as place
use Rattle.atomic_steps.specs.declared.steps.Step.{Step}
use Rattle.atomic_steps.specs.declared.steps.Step.TheVariants.{TakeIntern, TakeSweep, Add, Link, Clone, Give, Unlink, Free, Leave}
use Rattle.atomic_steps.specs.declared.steps.StepReply.{StepReply}
use Rattle.atomic_steps.specs.declared.steps.StepReply.TheVariants as reply
use Rattle.text_forms.specs.Tables.{Tables, bucket_of}
use Rattle.text_forms.specs.Times.{times}
use Rattle.atomic_steps.specs.World.{WorldEntry, World, is_linked, is_living}
use Rattle.atomic_steps.specs.Steps.{step, entry_at, is_linked_in, opening}
use Rattle.text_forms.specs.Map.{MapCall, empty_map}
use Rattle.text_forms.specs.Map as map
use Rattle.atomic_steps.specs.Runs.{Event, Leads, Script, events_of, Made, call_of, history_of, live_map, ReplaysHistory}

abbrev pub event : ℕ → Step → StepReply → Event
event party does given = record { party = party; does = does; reply = given }

-- The run went from w through this part of its events to v.
pub record Part (t : Tables) (old : World) (events : List Event) (w : World) (part : List Event) (v : World) : Type 0 where
  pub before : List Event
  pub after : List Event
  pub is : events ≡ before ++ part ++ after
  pub came : Leads t old before w
  pub leads : Leads t w part v

-- ---- an entry is freed by the party that unlinked it, without a holder, and only once

pub record FreesSoundly (w : World) (party e : ℕ) (later : List Event) : Type 0 where
  pub entry : WorldEntry
  pub is : entry_at w.entries e ≡ Some entry
  pub own : entry.place ≡ place.UnlinkedBy party
  pub not_held : times entry.ticket w.bag ≡ 0
  pub once : AllByRecursion (λ event. event.does ≡ Free e → event.reply ≢ reply.Freed) later

-- ---- a pass interns its text once; each party's calls are in its own order

-- The party hasn't left in these events.
abbrev pub Stays : ℕ → List Event → Type 0
Stays party events = AllByRecursion (λ event. event.party ≡ party → event.reply ≢ reply.Left) events

abbrev pub texts_in : MapCall → List (List ℕ)
texts_in (map.Intern text) = text ∷ []
texts_in (map.Clone ticket) = []
texts_in (map.Give ticket) = []

-- The texts that the party interned, in order.
abbrev pub interned_by : ℕ → List Made → List (List ℕ)
interned_by party [] = []
interned_by party (made ∷ calls) = (if made.by == party then texts_in made.call else []) ++ interned_by party calls

-- the party's calls, in the order of the history
abbrev pub made_by : ℕ → List Made → List Made
made_by party calls = filter (λ made. made.by == party) calls

-- What the party's own steps decided, in the order of the steps.
abbrev pub own_calls : Tables → ℕ → World → List Event → List Made
own_calls t party w [] = []
own_calls t party w (e ∷ events) =
    (if e.party == party then call_of w e.party e.does e.reply else []) ++ own_calls t party (step t w e.party e.does).1 events

-- ---- what is at zero when a party takes its bucket is unlinked before that party leaves

-- the text that a step takes a bucket for
abbrev pub text_taken : Step → Option (List ℕ)
text_taken (TakeIntern text) = Some (string_bytes text)
text_taken (TakeSweep bucket) = None
text_taken (Add e) = None
text_taken (Link room) = None
text_taken (Clone e) = None
text_taken (Give e) = None
text_taken (Unlink e) = None
text_taken (Free e) = None
text_taken Leave = None

-- the bucket that a step takes, of this number of them
abbrev pub bucket_taken : Tables → ℕ → Step → Option ℕ
bucket_taken t buckets (TakeIntern text) = Some (bucket_of t buckets (string_bytes text))
bucket_taken t buckets (TakeSweep bucket) = Some bucket
bucket_taken t buckets (Add e) = None
bucket_taken t buckets (Link room) = None
bucket_taken t buckets (Clone e) = None
bucket_taken t buckets (Give e) = None
bucket_taken t buckets (Unlink e) = None
bucket_taken t buckets (Free e) = None
bucket_taken t buckets Leave = None

-- Each entry that was linked in the bucket without a holder is there later, and isn't linked.
abbrev pub ZerosGo : World → World → ℕ → Type 0
ZerosGo taken left bucket = (e : ℕ) (before : WorldEntry) → entry_at taken.entries e ≡ Some before → is_linked_in bucket before ≡ true → before.count ≡ 0
    → (after : WorldEntry) × (entry_at left.entries e ≡ Some after) × (is_linked after.place ≡ false)

-- ---- one party that sweeps all buckets leaves exactly the entries with a holder linked

-- Each step is the party's own, and none is a Give.
abbrev pub IsAlone : ℕ → List Event → Type 0
IsAlone party events = AllByRecursion (λ event. (event.party ≡ party) × ((e : ℕ) → event.does ≢ Give e)) events

-- Somewhere in these events the party takes the bucket to sweep it, and later leaves.
abbrev pub Sweeps : ℕ → List Event → ℕ → Type 0
Sweeps party events bucket = (before : List Event) × (middle : List Event) × (after : List Event)
    × (events ≡ before ++ event party (TakeSweep bucket) reply.Taken ∷ middle ++ event party Leave reply.Left ∷ after)

abbrev pub OnlyHeldLinked : World → Type 0
OnlyHeldLinked w = (e : ℕ) (entry : WorldEntry) → entry_at w.entries e ≡ Some entry → (is_linked entry.place ≡ true) ↔ (0 < times entry.ticket w.bag)

-- ---- all together

-- the theorem, clause by clause: what holds of a run from the opening world to the world that is left
pub record IsSoundRun (t : Tables) (old : World) (events : List Event) (new : World) : Type 0 where
  -- Each reply and each new world is the table's.
  pub steps : Leads t old events new
  -- The calls that the replies are read as are those of one map, from the empty map to what the last world shows.
  pub one_map : ReplaysHistory t old.limits (empty_map (length old.lasts)) (history_of t old events) (live_map new)
  -- No two entries that were ever linked have the same ticket, and no two living ones the same text.
  pub distinct_tickets : (j k : ℕ) (x y : WorldEntry) → entry_at new.entries j ≡ Some x → entry_at new.entries k ≡ Some y → x.ticket ≡ y.ticket → j ≡ k
  pub distinct_texts : (j k : ℕ) (x y : WorldEntry) → entry_at new.entries j ≡ Some x → entry_at new.entries k ≡ Some y → is_living x ≡ true → is_living y ≡ true → x.text ≡ y.text → j ≡ k
  -- Counts are places in the bag. An entry is freed by the party that unlinked it, without a holder, and at one place of the run.
  pub counts : (e : ℕ) (entry : WorldEntry) → entry_at new.entries e ≡ Some entry → entry.count ≡ times entry.ticket new.bag
  pub frees : (w v : World) (party e : ℕ) (later : List Event) → Part t old events w (event party (Free e) reply.Freed ∷ later) v → FreesSoundly w party e later
  pub freed_once : (i j p q e : ℕ) → slice_get events i ≡ Some (event p (Free e) reply.Freed) → slice_get events j ≡ Some (event q (Free e) reply.Freed) → i ≡ j
  -- Each party's calls are in its own order, and a pass interns its text exactly once by the time it has left, and before that at most once.
  pub in_order : (party : ℕ) → made_by party (history_of t old events) ≡ own_calls t party old events
  pub interns : (w v : World) (party : ℕ) (take : Step) (since : List Event) (text : List ℕ)
      → Part t old events w (event party take reply.Taken ∷ since) v → text_taken take ≡ Some text → Stays party since
      → let texts = interned_by party (history_of t w (event party take reply.Taken ∷ since)) in (texts ≡ []) ⊎ (texts ≡ text ∷ [])
  pub interned : (w v : World) (party : ℕ) (take : Step) (middle : List Event) (text : List ℕ)
      → let pass = event party take reply.Taken ∷ middle ++ event party Leave reply.Left ∷ [] in
      Part t old events w pass v → text_taken take ≡ Some text → Stays party middle → interned_by party (history_of t w pass) ≡ text ∷ []
  -- Entries at zero go with their bucket's next pass.
  pub zeros_go : (w v : World) (party : ℕ) (take : Step) (middle : List Event) (bucket : ℕ)
      → Part t old events w (event party take reply.Taken ∷ middle ++ event party Leave reply.Left ∷ []) v → bucket_taken t (length w.lasts) take ≡ Some bucket → ZerosGo w v bucket
  -- A lone sweep of all buckets leaves exactly the entries with a holder.
  pub swept : (w v : World) (party : ℕ) (part : List Event) → Part t old events w part v → IsAlone party part
      → ((bucket : ℕ) → bucket < length w.lasts → Sweeps party part bucket) → OnlyHeldLinked v

-- From old, as many steps of the script were made as replies were appended, and new is the world that is left.
pub record HasRun (t : Tables) (old : World) (script : Script) (before after : List StepReply) (new : World) : Type 0 where
  pub appended : List StepReply
  pub is : after ≡ before ++ appended
  pub one_each : length appended ≤ length script
  pub leads : Leads t old (events_of script appended) new
  -- If old is the opening world, or one that steps led to from there: every interleaving is one map's.
  pub sound : (limits : Bounds) (buckets : ℕ) (earlier : List Event) → 0 < buckets → buckets ≤ most_buckets → Leads t (opening limits buckets) earlier old
      → IsSoundRun t (opening limits buckets) (earlier ++ events_of script appended) new
