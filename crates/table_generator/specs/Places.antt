-- Places of texts, and which of them are free while displacements are searched for. `AreApart` and `AreDisplacementsOf` are part of what `generate`
-- promises; the rest are terms of the search.
use Rattle.std.specs.Prelude.{◌≡◌, ◌≢◌, ℕ, ◌+◌, ◌*◌, ◌%◌, ◌^◌, ◌<◌, Bool, true, false, List, length, slice_index_or}
use Rattle.std.specs.List.{All, Any, AllPairs}
use Rattle.text_forms.specs.declared.phf.Hashes.{Hashes}
use Rattle.text_forms.specs.Phf.{place_of}
use Rattle.table_generator.specs.declared.search.Tried.{Tried}

-- under these displacements the texts have different places among `len`
abbrev pub AreApart : List (ℕ × ℕ) → ℕ → List Hashes → Type 0
AreApart disps len = AllPairs (λ x y. place_of x disps len ≢ place_of y disps len)

-- this many pairs of displacements, each below the bound, give the texts different places
pub record AreDisplacementsOf (pairs bound : ℕ) (hashes : List Hashes) (disps : List (ℕ × ℕ)) : Type 0 where
  pub count : length disps ≡ pairs
  pub bounded : All (λ pair. (pair.0 < bound) × (pair.1 < bound)) disps
  pub apart : AreApart disps (length hashes) hashes

-- ---- one pair of displacements

-- the place of a text with these hashes under a pair of displacements
abbrev pub place_by : ℕ → ℕ × ℕ → Hashes → ℕ
place_by len pair h = (pair.1 + h.f1 * pair.0 + h.f2) % 2 ^ 32 % len

-- the place is taken
abbrev pub is_taken : List Bool → ℕ → Bool
is_taken taken place = slice_index_or taken place false

-- one of the texts has the place
abbrev pub IsPlaceOf : ℕ → ℕ × ℕ → ℕ → List Hashes → Type 0
IsPlaceOf len pair place members = Any (λ h. place_by len pair h ≡ place) members

-- the pair gives the texts different places that are free
pub record Fits (taken : List Bool) (members : List Hashes) (pair : ℕ × ℕ) : Type 0 where
  pub free : (i : ℕ) (d : Hashes) → i < length members → is_taken taken (place_by (length taken) pair (slice_index_or members i d)) ≡ false
  pub differ : AllPairs (λ x y. place_by (length taken) pair x ≢ place_by (length taken) pair y) members

-- the pair is one of those to be tried, and fits
abbrev pub FitsAmong : List Bool → List Hashes → Tried → ℕ × ℕ → Type 0
FitsAmong taken members tried pair = (pair.0 < tried.first) × (pair.1 < tried.second) × Fits taken members pair

-- none of the pairs to be tried fits
abbrev pub NoneFits : List Bool → List Hashes → Tried → Type 0
NoneFits taken members tried = (d1 d2 : ℕ) → d1 < tried.first → d2 < tried.second → Fits taken members (d1, d2) → ⊥

-- the texts' places are taken, and what was taken still is
pub record Marks (members : List Hashes) (pair : ℕ × ℕ) (old new : List Bool) : Type 0 where
  pub length_same : length new ≡ length old
  pub kept : (place : ℕ) → is_taken old place ≡ true → is_taken new place ≡ true
  pub marked : (i : ℕ) (d : Hashes) → i < length members → is_taken new (place_by (length old) pair (slice_index_or members i d)) ≡ true
