-- Words of private contracts of the search: tables of texts under displacements that place them.
use Rattle.std.specs.Prelude.{◌≡◌, ℕ, ◌^◌, ◌<◌, List, map}
use Rattle.std.specs.List.{All}
use Rattle.std.specs.List.Sorted.{IsPermutation}
use Rattle.text_forms.specs.Tables as core

-- the tables of these texts under the key and the displacements
pub record Assembles (key : ℕ) (disps : List (ℕ × ℕ)) (texts : List (List ℕ)) (t : core.Tables) : Type 0 where
  pub key_is : t.key ≡ key
  pub disps_are : t.disps ≡ disps
  pub listed : IsPermutation texts t.atoms
  pub hashed : t.hashes ≡ map (core.entry_hash t) t.atoms
  pub small : All (λ hash. hash < 2 ^ 64) t.hashes
  pub perfect : core.IsPerfectTable t
