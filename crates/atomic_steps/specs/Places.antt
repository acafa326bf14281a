-- Terms of the private contracts of steps: where the code finds a party's pass and an entry, and what stands for the bag.
use Rattle.std.specs.Prelude.{◌≡◌, ◌<◌, ℕ, suc, List, [], ◌∷◌, ◌++◌, length, replicate, Some, slice_get, slice_set}
use Rattle.std.specs.List.{remove}
use Rattle.atomic_steps.specs.World.{WorldEntry, PartyPass, World}
use Rattle.atomic_steps.specs.Steps.{pass_of, replaced, without_party}

pub record PassAt (w : World) (party at : ℕ) : Type 0 where
  pub pass : PartyPass
  pub within : at < length w.passes
  pub found : pass_of w party ≡ Some pass
  pub there : slice_get w.passes at ≡ Some pass
  pub own : pass.party ≡ party
  pub replaces : (new : PartyPass) → new.party ≡ pass.party → replaced w.passes new ≡ slice_set w.passes at new
  pub removes : without_party w.passes party ≡ remove w.passes at

pub record EntryAt (w : World) (number k : ℕ) : Type 0 where
  pub entry : WorldEntry
  pub numbered : number ≡ suc k
  pub within : k < length w.entries
  pub there : slice_get w.entries k ≡ Some entry

-- each entry's ticket, as often as the entry's count says
abbrev pub held_places : List WorldEntry → List ℕ
held_places [] = []
held_places (entry ∷ entries) = replicate entry.count entry.ticket ++ held_places entries
