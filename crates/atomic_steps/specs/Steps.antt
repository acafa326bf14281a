-- The table of steps: the reply and the new world if a step is enabled. Otherwise the reply is No.
use Rattle.std.specs.Prelude.{◌≡◌, ℕ, ◌+◌, ◌-◌, ◌==◌, nat_lt, Bool, false, not, ◌&&◌, ◌||◌, if◌then◌else◌, List, [], ◌∷◌, ◌++◌, length, replicate, Option, None, Some, is_none, slice_get, slice_set, slice_index, zero, suc}
use Rattle.std.specs.List.{find, list_any, list_all, enumerate_from}
use Rattle.std.specs.Option.{unwrap_or, option_map_or}
use Rattle.std.specs.Str.{bytes_eq}
use Rattle.std.specs.String.{string_bytes}
use Rattle.text_forms.specs.Bounds.{Bounds}
use Rattle.atomic_steps.specs.declared.steps.world_entry.Place.TheVariants as place
use Rattle.atomic_steps.specs.declared.steps.Step.{Step}
use Rattle.atomic_steps.specs.declared.steps.Step.TheVariants.{TakeIntern, TakeSweep, Add, Link, Clone, Give, Unlink, Free, Leave}
use Rattle.atomic_steps.specs.declared.steps.StepReply.{StepReply}
use Rattle.atomic_steps.specs.declared.steps.StepReply.TheVariants as reply
use Rattle.text_forms.specs.Tables.{Tables, bucket_of, is_dynamic}
use Rattle.text_forms.specs.Word.{ticket_of}
use Rattle.atomic_steps.specs.World.{WorldEntry, PartyPass, World, is_linked, is_unlinked_by}

infixl 10 ◌>>=◌
-- f of what there is, if there is something
abbrev pub ◌>>=◌ : {A B : Type 0} → Option A → (A → Option B) → Option B
None >>= f = None
(Some x) >>= f = f x

-- x if the test holds
abbrev pub only_if : {A : Type 0} → Bool → A → Option A
only_if test x = if test then Some x else None

-- ---- what a world shows

-- what the party does, if it isn't idle
abbrev pub pass_of : World → ℕ → Option PartyPass
pass_of w party = find (λ pass. pass.party == party) w.passes

-- no party holds the bucket
abbrev pub is_free : World → ℕ → Bool
is_free w bucket = list_all (λ pass. not (pass.bucket == bucket)) w.passes

-- entries are numbered from 1
abbrev pub entry_at : List WorldEntry → ℕ → Option WorldEntry
entry_at entries zero = None
entry_at entries (suc k) = slice_get entries k

-- the number is in the list
abbrev pub has : List ℕ → ℕ → Bool
has xs x = list_any (λ y. y == x) xs

-- the last serial that the bucket gave
abbrev pub last_of : World → ℕ → ℕ
last_of w bucket = slice_index w.lasts bucket

-- the entry is in this bucket's list
abbrev pub is_linked_in : ℕ → WorldEntry → Bool
is_linked_in bucket entry = is_linked entry.place && entry.bucket == bucket

-- whether the pass is to intern this text, and hasn't decided
abbrev pub wants : PartyPass → List ℕ → Bool
wants pass text = option_map_or (λ wanted. bytes_eq wanted text) pass.wanted false

-- ---- changes

-- entry e becomes x
abbrev pub with_entry : World → ℕ → WorldEntry → World
with_entry w zero x = w
with_entry w (suc k) x = record w { entries = slice_set w.entries k x }

-- the party's pass becomes this one
abbrev pub replaced : List PartyPass → PartyPass → List PartyPass
replaced [] new = []
replaced (pass ∷ passes) new = if pass.party == new.party then new ∷ passes else pass ∷ replaced passes new

-- the passes without the party's
abbrev pub without_party : List PartyPass → ℕ → List PartyPass
without_party [] party = []
without_party (pass ∷ passes) party = if pass.party == party then passes else pass ∷ without_party passes party

abbrev pub with_pass : World → PartyPass → World
with_pass w pass = record w { passes = replaced w.passes pass }

-- the list with one x more: before the first, or at the end if it has none
abbrev pub with_one : ℕ → List ℕ → List ℕ
with_one x [] = x ∷ []
with_one x (y ∷ ys) = if y == x then x ∷ y ∷ ys else y ∷ with_one x ys

-- the list without the first x in it
abbrev pub without_one : ℕ → List ℕ → List ℕ
without_one x [] = []
without_one x (y ∷ ys) = if y == x then ys else y ∷ without_one x ys

-- the ticket is held once more
abbrev pub with_ticket : World → ℕ → World
with_ticket w ticket = record w { bag = with_one ticket w.bag }

-- the pass found entry e dying
abbrev pub finds_dying : PartyPass → ℕ → PartyPass
finds_dying pass e = record pass { dying = pass.dying ++ e ∷ [] }

-- the pass looked at entry e
abbrev pub looks_at : PartyPass → ℕ → PartyPass
looks_at pass e = record pass { looked = pass.looked ++ e ∷ [] }

-- the pass has decided: it wants no text any more
abbrev pub decides : PartyPass → PartyPass
decides pass = record pass { wanted = None }

-- ---- the rows of the table

-- A party takes a bucket: it is in a new pass, for a text or a sweep.
unfoldable pub take_bucket : World → ℕ → ℕ → Option (List ℕ) → StepReply × World
take_bucket w party bucket wanted =
    (reply.Taken, record w { passes = w.passes ++ record { party = party; bucket = bucket; wanted = wanted; dying = []; looked = [] } ∷ [] })

-- At zero the entry is found dying. Below the limit it gets one more holder; at the limit it is full. Both decide.
unfoldable pub add : World → PartyPass → ℕ → WorldEntry → StepReply × World
add w pass e entry =
    if entry.count == 0 then (reply.Dying, with_pass w (finds_dying pass e))
    else if nat_lt entry.count w.limits.holders then (
      reply.Added entry.ticket (entry.count + 1),
      with_ticket (with_pass (with_entry w e (record entry { count = entry.count + 1 })) (decides (looks_at pass e))) entry.ticket,
    )
    else (reply.Full, with_pass w (decides (looks_at pass e)))

-- If the entry is linked with the text, its number is one that was found dying.
abbrev pub dying_if_linked : List ℕ → List ℕ → ℕ × WorldEntry → Bool
dying_if_linked dying text e = not (is_linked e.1.place && bytes_eq e.1.text text) || has dying e.0

-- Each linked entry of the text was found dying in this pass.
abbrev pub all_found_dying : World → PartyPass → List ℕ → Bool
all_found_dying w pass text = list_all (dying_if_linked pass.dying text) (enumerate_from 1 w.entries)

-- A new entry with the bucket's next serial and one holder, if a serial is left and there is room. It decides, also
--
-- if it refuses.
unfoldable pub link : World → PartyPass → Bool → List ℕ → StepReply × World
link w pass room text =
    let serial = last_of w pass.bucket + 1 in
    let ticket = ticket_of serial pass.bucket in
    let e = length w.entries + 1 in
    let entry : WorldEntry = record { text = text; bucket = pass.bucket; ticket = ticket; count = 1; place = place.Linked } in
    if nat_lt (last_of w pass.bucket) w.limits.serials then
    if room then (
      reply.Linked e ticket,
      record {
        limits = w.limits;
        lasts = slice_set w.lasts pass.bucket serial;
        entries = w.entries ++ entry ∷ [];
        passes = replaced w.passes (decides (looks_at pass e));
        bag = with_one ticket w.bag;
      },
    )
    else (reply.Memory, with_pass w (decides pass))
    else (reply.Spent, with_pass w (decides pass))

-- one more holder, below the limit
unfoldable pub clone : World → ℕ → WorldEntry → StepReply × World
clone w e entry =
    if nat_lt entry.count w.limits.holders then
    (reply.Cloned (entry.count + 1), with_ticket (with_entry w e (record entry { count = entry.count + 1 })) entry.ticket)
    else (reply.Full, w)

-- one holder fewer
unfoldable pub give : World → ℕ → WorldEntry → StepReply × World
give w e entry =
    let left = with_entry w e (record entry { count = entry.count - 1 }) in
    (reply.Given (entry.count - 1), record left { bag = without_one entry.ticket w.bag })

-- At zero the entry leaves the list. Otherwise it stays, and was looked at.
unfoldable pub unlink : World → PartyPass → ℕ → WorldEntry → StepReply × World
unlink w pass e entry =
    if entry.count == 0 then (reply.Unlinked, with_entry w e (record entry { place = place.UnlinkedBy pass.party }))
    else (reply.Kept, with_pass w (looks_at pass e))

-- If the entry is linked in the bucket, its number is one that was looked at.
abbrev pub looked_at_if_linked : ℕ → List ℕ → ℕ × WorldEntry → Bool
looked_at_if_linked bucket looked e = not (is_linked_in bucket e.1) || has looked e.0

-- Each linked entry of the bucket was looked at or linked in this pass.
abbrev pub all_looked_at : World → PartyPass → Bool
all_looked_at w pass = list_all (looked_at_if_linked pass.bucket pass.looked) (enumerate_from 1 w.entries)

-- ---- when each step is enabled

abbrev pub take_intern_if : Tables → World → ℕ → List ℕ → Option (StepReply × World)
take_intern_if t w party text =
    let bucket = bucket_of t (length w.lasts) text in
    only_if (is_none (pass_of w party) && is_dynamic t text && is_free w bucket) (take_bucket w party bucket (Some text))

-- A step's reply and the new world; None if it isn't enabled.
abbrev pub step_if : Tables → World → ℕ → Step → Option (StepReply × World)
step_if t w party (TakeIntern text) = take_intern_if t w party (string_bytes text)
step_if t w party (TakeSweep bucket) =
    only_if (is_none (pass_of w party) && nat_lt bucket (length w.lasts) && is_free w bucket) (take_bucket w party bucket None)
step_if t w party (Add e) = do
  pass ← pass_of w party
  entry ← entry_at w.entries e
  only_if (is_linked_in pass.bucket entry && wants pass entry.text) (add w pass e entry)
step_if t w party (Link room) = do
  pass ← pass_of w party
  text ← pass.wanted
  only_if (all_found_dying w pass text) (link w pass room text)
step_if t w party (Clone e) = do
  entry ← entry_at w.entries e
  only_if (has w.bag entry.ticket) (clone w e entry)
step_if t w party (Give e) = do
  entry ← entry_at w.entries e
  only_if (has w.bag entry.ticket) (give w e entry)
step_if t w party (Unlink e) = do
  pass ← pass_of w party
  entry ← entry_at w.entries e
  only_if (is_linked_in pass.bucket entry) (unlink w pass e entry)
step_if t w party (Free e) = do
  entry ← entry_at w.entries e
  only_if (is_unlinked_by party entry.place) (reply.Freed, with_entry w e (record entry { place = place.Freed }))
step_if t w party Leave = do
  pass ← pass_of w party
  only_if (is_none pass.wanted && all_looked_at w pass) (reply.Left, record w { passes = without_party w.passes party })

-- The reply to a step, and the world after it.
abbrev pub step : Tables → World → ℕ → Step → StepReply × World
step t w party s = unwrap_or (step_if t w party s) (reply.No, w)

-- From old, the step gives this reply and this new world.
abbrev pub IsStep : Tables → World → ℕ → Step → StepReply → World → Type 0
IsStep t old party s r new = step t old party s ≡ (r, new)

-- this number of buckets, nothing linked, nothing held, all parties idle
unfoldable pub opening : Bounds → ℕ → World
opening limits buckets = record { limits = limits; lasts = replicate buckets 0; entries = []; passes = []; bag = [] }
