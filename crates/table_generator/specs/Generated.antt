-- What tables of a list of texts are, and what making them may return.
use Rattle.std.specs.Prelude.{◌≡◌, ◌↔◌, ◌⊎◌, ℕ, ◌+◌, ◌/◌, ◌<◌, ◌≤◌, List, [], ◌∷◌, length, map, slice_index_or, string_bytes, Result, Err, IfOk}
use Rattle.std.specs.List.{All, Contains}
use Rattle.std.specs.List.Sorted.{IsPermutation}
use denote.Ref.{Bor}
use Rattle.text_forms.specs.Tables as core
use Rattle.text_forms.specs.Phf.{hashes_of}
use Rattle.table_generator.specs.declared.tables.Tables.{Tables}
use Rattle.table_generator.specs.declared.tables.GenFault.{GenFault}
use Rattle.table_generator.specs.declared.tables.GenFault.TheVariants as fault
use Rattle.table_generator.specs.Places.{AreApart}
use Rattle.table_generator.specs.TableText.{table_text, SpellsPerfectTables}

-- the texts behind the references
abbrev pub texts_of : List (Bor (List ℕ)) → List (List ℕ)
texts_of list = map (λ text. text.now) list

-- what clauses see of tables that were made
abbrev pub tables_of : Tables → core.Tables
tables_of t = record { key = t.key; disps = t.disps.items; atoms = map string_bytes t.atoms.items; hashes = t.hashes.items }

-- the number of pairs of displacements that n texts get: one for every five of them, and one more if some are left over
abbrev pub pairs_for : ℕ → ℕ
pairs_for n = (n + 4) / 5

-- Tables of the texts under the key: each text once and no other, each displacement below the bound, the entry hash of each
-- text, and each text at its place.
pub record IsTablesOf (texts : List (List ℕ)) (key bound : ℕ) (t : core.Tables) : Type 0 where
  pub key_is : t.key ≡ key
  pub listed : IsPermutation texts t.atoms
  pub displaced : length t.disps ≡ pairs_for (length texts)
  pub bounded : All (λ pair. (pair.0 < bound) × (pair.1 < bound)) t.disps
  pub hashed : t.hashes ≡ map (core.entry_hash t) t.atoms
  pub perfect : core.IsPerfectTable t

-- a text has a line feed
abbrev pub HasFeed : List (List ℕ) → Type 0
HasFeed texts = (i : ℕ) × (i < length texts) × Contains (slice_index_or texts i []) 10

-- two texts are equal
abbrev pub HasDouble : List (List ℕ) → Type 0
HasDouble texts = (i : ℕ) × (j : ℕ) × (i < j) × (j < length texts) × (slice_index_or texts i [] ≡ slice_index_or texts j [])

-- a text before the one at the index is equal to it
abbrev pub HasEarlier : List (List ℕ) → ℕ → Type 0
HasEarlier texts index = (i : ℕ) × (i < index) × (slice_index_or texts i [] ≡ slice_index_or texts index [])

-- no two displacements below the bound, as the only pair, give the texts different places
abbrev pub IsUnplaceable : List (List ℕ) → ℕ → ℕ → Type 0
IsUnplaceable texts key bound =
    (d1 d2 : ℕ) → d1 < bound → d2 < bound
    → AreApart ((d1, d2) ∷ []) (length texts) (map (λ text. hashes_of text key) texts) → ⊥

-- The fault says whether two texts are equal: it is `Doubled` if two are, and `Memory` if none are.
abbrev pub TellsDouble : List (List ℕ) → GenFault → Type 0
TellsDouble texts found = ((found ≡ fault.Doubled) × HasDouble texts) ⊎ ((found ≡ fault.Memory) × ¬ (HasDouble texts))

-- What making tables of the texts returns.
pub record TellsTables (texts : List (List ℕ)) (key bound : ℕ) (result : Result Tables GenFault) : Type 0 where
  pub ok : IfOk result (λ t. IsTablesOf texts key bound (tables_of t))
  -- What they print is the printed form of perfect tables.
  pub printed : IfOk result (λ t. SpellsPerfectTables (table_text (tables_of t)))
  -- Three faults are exact, in this order, and so take precedence over any other.
  pub empty : (result ≡ Err fault.EmptyList) ↔ (texts ≡ [])
  pub feed : (result ≡ Err fault.LineFeed) ↔ HasFeed texts
  pub doubled : (result ≡ Err fault.Doubled) ↔ (¬ (HasFeed texts) × HasDouble texts)
  -- Up to five texts, which have one pair, are refused only if there are no tables.
  pub unplaced : result ≡ Err fault.NotPlaced → length texts ≤ 5 → IsUnplaceable texts key bound
