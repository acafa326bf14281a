-- Words of private contracts of the search: the order in which texts are settled.
use Rattle.std.specs.Prelude.{◌≡◌, ◌≢◌, ℕ, ◌+◌, ◌*◌, ◌%◌, ◌<◌, ◌≤◌, List, length, slice_index_or}
use Rattle.text_forms.specs.declared.phf.Hashes.{Hashes}

-- the pair of displacements that a text belongs to
abbrev pub pair_of : ℕ → Hashes → ℕ
pair_of pairs h = h.g % pairs

-- texts of one pair are side by side
abbrev pub AreGrouped : ℕ → List Hashes → Type 0
AreGrouped pairs hashes =
    (i j k : ℕ) (d : Hashes) → i ≤ j → j ≤ k → k < length hashes
    → pair_of pairs (slice_index_or hashes i d) ≡ pair_of pairs (slice_index_or hashes k d)
    → pair_of pairs (slice_index_or hashes j d) ≡ pair_of pairs (slice_index_or hashes i d)

-- the run of texts of one pair that begins at start ends at end
pub record IsRunEnd (pairs : ℕ) (hashes : List Hashes) (start end : ℕ) : Type 0 where
  pub some : start < end
  pub within : end ≤ length hashes
  pub same : (j : ℕ) (d : Hashes) → start ≤ j → j < end → pair_of pairs (slice_index_or hashes j d) ≡ pair_of pairs (slice_index_or hashes start d)
  pub stops : (d : Hashes) → end < length hashes → pair_of pairs (slice_index_or hashes end d) ≢ pair_of pairs (slice_index_or hashes start d)

-- The rank of a text among those that are settled in turn, by how many texts belong to a pair other than its own: it falls as the number of texts of
-- the pair grows, and no two pairs share a rank.
abbrev pub rank_of : List ℕ → Hashes → ℕ
rank_of others h = slice_index_or others (pair_of (length others) h) 0 * length others + pair_of (length others) h
