-- The world that steps act on.
use Rattle.std.specs.Prelude.{ℕ, ◌==◌, ◌&&◌, nat_lt, Bool, true, false, List, Option}
use Rattle.text_forms.specs.Bounds.{Bounds}
use Rattle.atomic_steps.specs.declared.steps.world_entry.Place.{Place}
use Rattle.atomic_steps.specs.declared.steps.world_entry.Place.TheVariants as place

-- A text that was linked. Its place is Linked, UnlinkedBy a party, or Freed.
pub record WorldEntry : Type 0 where
  pub text : List ℕ
  pub bucket : ℕ
  pub ticket : ℕ
  pub count : ℕ
  pub place : Place

-- What a party that isn't idle does: it holds a bucket.
pub record PartyPass : Type 0 where
  pub party : ℕ
  pub bucket : ℕ
  pub wanted : Option (List ℕ)  -- the text to intern, until that is decided. None from the start in a sweep
  pub dying : List ℕ  -- the entries that it found dying
  pub looked : List ℕ  -- the entries that it looked at or linked

-- the limits, each bucket's last serial, all entries that were ever linked, the passes of parties that aren't idle, and the bag of held tickets
pub record World : Type 0 where
  pub limits : Bounds
  pub lasts : List ℕ  -- each bucket's last serial: there are as many buckets
  pub entries : List WorldEntry  -- all that were ever linked, in order: entry 1 first
  pub passes : List PartyPass  -- of all parties that aren't idle
  pub bag : List ℕ  -- the held tickets, each as often as it is held

-- the entry is in its bucket's list
abbrev pub is_linked : Place → Bool
is_linked place.Linked = true
is_linked (place.UnlinkedBy party) = false
is_linked place.Freed = false

-- the entry is found, and has a holder
abbrev pub is_living : WorldEntry → Bool
is_living entry = is_linked entry.place && nat_lt 0 entry.count

-- this party took the entry out of its bucket's list, and hasn't freed it
abbrev pub is_unlinked_by : ℕ → Place → Bool
is_unlinked_by party place.Linked = false
is_unlinked_by party (place.UnlinkedBy other) = other == party
is_unlinked_by party place.Freed = false
