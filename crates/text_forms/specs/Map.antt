-- The map that interning is: from dynamic texts to a ticket and a number of holders, with each bucket's last serial.
-- It has no locks, links, dying entries or counts: those are the code's.
use Rattle.std.specs.Prelude.{◌≡◌, ℕ, ◌+◌, ◌-◌, ◌<◌, ◌≤◌, ◌⊎◌, List, Option, None, Some, Result, Ok, Err, ◌==◌, if◌then◌else◌}
use Rattle.std.specs.Map.{update}
use Rattle.std.specs.Str.{bytes_eq}
use Rattle.text_forms.specs.Bounds.{Bounds}
use Rattle.text_forms.specs.declared.faults.Fault.{Fault}
use Rattle.text_forms.specs.declared.faults.Fault.TheVariants as fault
use Rattle.text_forms.specs.Tables.{Tables, bucket_of}
use Rattle.text_forms.specs.Word.{ticket_of}

-- a ticket, and how many hold it
pub record Holding : Type 0 where
  pub ticket : ℕ
  pub holders : ℕ

-- the map: how many buckets there are, what is held of each dynamic text, and each bucket's last serial
pub record InternMap : Type 0 where
  pub buckets : ℕ  -- how many buckets there are
  pub held : List ℕ → Option Holding  -- of a text, if someone holds it
  pub last : ℕ → ℕ  -- the last serial that a bucket gave, at first 0

-- nothing is held, and no serial was given
abbrev pub empty_map : ℕ → InternMap
empty_map buckets = record { buckets = buckets; held = λ text. None; last = λ bucket. 0 }

-- the map with this holding for the text
abbrev pub with_held : InternMap → List ℕ → Option Holding → InternMap
with_held m text holding = record { buckets = m.buckets; held = update bytes_eq m.held text holding; last = m.last }

-- the map with this as the bucket's last serial
abbrev pub with_last : InternMap → ℕ → ℕ → InternMap
with_last m bucket serial = record { buckets = m.buckets; held = m.held; last = λ other. if other == bucket then serial else m.last other }

-- the map holds the ticket, of this text
pub record IsHeldTicket (m : InternMap) (ticket : ℕ) : Type 0 where
  pub text : List ℕ
  pub holders : ℕ
  pub held : m.held text ≡ Some (record { ticket = ticket; holders = holders })

-- this many hold the ticket
abbrev pub HasHolders : InternMap → ℕ → ℕ → Type 0
HasHolders m ticket holders = (text : List ℕ) × (m.held text ≡ Some (record { ticket = ticket; holders = holders }))

-- a call of the map: to intern a dynamic text, and to clone or give back a ticket that is held
pub data MapCall : Type 0 where
  Intern : (text : List ℕ) → MapCall  -- of a dynamic text
  Clone : (ticket : ℕ) → MapCall  -- of a ticket that is held
  Give : (ticket : ℕ) → MapCall  -- of a ticket that is held

-- what a call replies: the ticket with its holders after the call, or a refusal
abbrev pub MapReply : Type 0
MapReply = Result Holding Fault

abbrev pub one_more : Holding → Holding
one_more had = record { ticket = had.ticket; holders = had.holders + 1 }

abbrev pub one_less : Holding → Holding
one_less had = record { ticket = had.ticket; holders = had.holders - 1 }

-- what a text has after a holder gave it up: nothing if nobody holds it any more
abbrev pub unless_given_up : Holding → Option Holding
unless_given_up left = if left.holders == 0 then None else Some left

-- A text that is held gets one holder more, or is full exactly if its holders are at the limit.
abbrev pub MayAdd : Bounds → InternMap → List ℕ → Holding → MapReply → InternMap → Type 0
MayAdd limits m text had reply new =
    ((had.holders < limits.holders) × (reply ≡ Ok (one_more had)) × (new ≡ with_held m text (Some (one_more had))))
    ⊎ ((limits.holders ≤ had.holders) × (reply ≡ Err fault.FullCount) × (new ≡ m))

-- A text that isn't held gets its bucket's next ticket and one holder, or there is no memory; the bucket's tickets are spent exactly if its last
-- serial is at the limit.
abbrev pub MayLink : Tables → Bounds → InternMap → List ℕ → MapReply → InternMap → Type 0
MayLink t limits m text reply new =
    let bucket = bucket_of t m.buckets text in
    let serial = m.last bucket + 1 in
    let first : Holding = record { ticket = ticket_of serial bucket; holders = 1 } in
    ((m.last bucket < limits.serials) × (reply ≡ Ok first) × (new ≡ with_last (with_held m text (Some first)) bucket serial))
    ⊎ ((m.last bucket < limits.serials) × (reply ≡ Err fault.Memory) × (new ≡ m))
    ⊎ ((limits.serials ≤ m.last bucket) × (reply ≡ Err fault.TicketsSpent) × (new ≡ m))

-- interning, by what is held of the text
abbrev pub MayIntern : Tables → Bounds → InternMap → List ℕ → Option Holding → MapReply → InternMap → Type 0
MayIntern t limits m text None reply new = MayLink t limits m text reply new
MayIntern t limits m text (Some had) reply new = MayAdd limits m text had reply new

-- From m the call may get this reply and leave new. A refusal leaves m.
abbrev pub MayReply : Tables → Bounds → InternMap → MapCall → MapReply → InternMap → Type 0
MayReply t limits m (Intern text) reply new = MayIntern t limits m text (m.held text) reply new
MayReply t limits m (Clone ticket) reply new =
    (k : IsHeldTicket m ticket) × MayAdd limits m k.text (record { ticket = ticket; holders = k.holders }) reply new
MayReply t limits m (Give ticket) reply new =
    (k : IsHeldTicket m ticket) × (let left = one_less (record { ticket = ticket; holders = k.holders }) in
    (reply ≡ Ok left) × (new ≡ with_held m k.text (unless_given_up left)))
