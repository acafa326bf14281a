-- Terms of the private contracts of steps: what holds of every world that steps lead to.
use Rattle.std.specs.Prelude.{◌≡◌, ◌≢◌, ℕ, ◌<◌, ◌≤◌, true, List, [], ◌∷◌, length, Some, slice_get, slice_index, suc}
use Rattle.std.specs.List.{AllByRecursion}
use Rattle.text_forms.specs.Layout.{most_buckets}
use Rattle.text_forms.specs.Tables.{Tables, bucket_of}
use Rattle.text_forms.specs.Times.{times}
use Rattle.text_forms.specs.Word.{ticket_of}
use Rattle.atomic_steps.specs.World.{WorldEntry, PartyPass, World, is_linked, is_living}
use Rattle.atomic_steps.specs.Steps.{has}

-- x is at place k
abbrev pub At : {X : Type 0} → List X → ℕ → X → Type 0
At xs k x = slice_get xs k ≡ Some x

-- The entry has a ticket of its bucket, with a serial that the bucket gave.
abbrev pub IsNumbered : List ℕ → WorldEntry → Type 0
IsNumbered lasts x = (serial : ℕ) × (x.ticket ≡ ticket_of serial x.bucket) × (serial ≤ slice_index lasts x.bucket) × (x.bucket < length lasts)

pub record SoundTable (entries : List WorldEntry) (lasts bag : List ℕ) : Type 0 where
  pub some : 0 < length lasts
  pub few : length lasts ≤ most_buckets
  pub numbered : (k : ℕ) (x : WorldEntry) → At entries k x → IsNumbered lasts x
  -- no ticket is given twice
  pub apart : (j k : ℕ) (x y : WorldEntry) → At entries j x → At entries k y → x.ticket ≡ y.ticket → j ≡ k
  -- a text has one living entry
  pub one : (j k : ℕ) (x y : WorldEntry) → At entries j x → At entries k y → is_living x ≡ true → is_living y ≡ true → x.text ≡ y.text → j ≡ k
  -- the bag has each entry's ticket as often as the entry's count says, and no other
  pub counted : (k : ℕ) (x : WorldEntry) → At entries k x → x.count ≡ times x.ticket bag
  pub bagged : (ticket : ℕ) → ((k : ℕ) (x : WorldEntry) → At entries k x → x.ticket ≢ ticket) → times ticket bag ≡ 0
  -- what has a holder is linked
  pub linked : (k : ℕ) (x : WorldEntry) → At entries k x → 0 < x.count → is_linked x.place ≡ true

-- The number is that of an entry without a holder.
abbrev pub IsDead : List WorldEntry → ℕ → Type 0
IsDead entries e = (k : ℕ) × (x : WorldEntry) × (e ≡ suc k) × At entries k x × (x.count ≡ 0)

pub record SoundPass (t : Tables) (buckets : ℕ) (entries : List WorldEntry) (pass : PartyPass) : Type 0 where
  pub below : pass.bucket < buckets
  pub right : (text : List ℕ) → pass.wanted ≡ Some text → pass.bucket ≡ bucket_of t buckets text
  -- what it found dying is at zero for good
  pub dead : (e : ℕ) → has pass.dying e ≡ true → IsDead entries e

pub record Sound (t : Tables) (w : World) : Type 0 where
  pub table : SoundTable w.entries w.lasts w.bag
  pub each : AllByRecursion (SoundPass t (length w.lasts) w.entries) w.passes

-- No two passes have the same party or the same bucket.
abbrev pub DiffersFrom : PartyPass → PartyPass → Type 0
DiffersFrom p o = (o.party ≢ p.party) × (o.bucket ≢ p.bucket)

abbrev pub Apart : List PartyPass → Type 0
Apart [] = Unit {0}
Apart (p ∷ ps) = AllByRecursion (DiffersFrom p) ps × Apart ps

-- all of it; also, an entry is in its text's bucket
pub record SoundWorld (t : Tables) (w : World) : Type 0 where
  pub sound : Sound t w
  pub apart : Apart w.passes
  pub placed : (k : ℕ) (x : WorldEntry) → At w.entries k x → x.bucket ≡ bucket_of t (length w.lasts) x.text
