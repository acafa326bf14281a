-- Terms of the private contracts of steps: the numbers of each bucket's entries.
use Rattle.std.specs.Prelude.{◌≡◌, ℕ, ◌^◌, ◌<◌, Bool, true, suc, List, length}
use Rattle.std.specs.Option.{option_map_or}
use Rattle.atomic_steps.specs.World.{WorldEntry, PartyPass, World, is_linked}
use Rattle.atomic_steps.specs.Steps.{entry_at, has}
use Rattle.atomic_steps.specs.Sound.{At}

-- the entry with that number passes the test, or there is none
abbrev pub passes_at : (ℕ × WorldEntry → Bool) → List WorldEntry → ℕ → Bool
passes_at test entries number = option_map_or (λ entry. test (number, entry)) (entry_at entries number) true

-- Each linked entry's number is in its bucket's list.
abbrev pub AreListed : List WorldEntry → List (List ℕ) → Type 0
AreListed entries lists = (k : ℕ) (x : WorldEntry) (numbers : List ℕ) → At entries k x → is_linked x.place ≡ true → At lists x.bucket numbers → has numbers (suc k) ≡ true

-- each party that isn't idle holds one of the world's buckets
abbrev pub AreWithin : World → Type 0
AreWithin w = (at : ℕ) (pass : PartyPass) → At w.passes at pass → pass.bucket < length w.lasts

-- there are 2 ^ bits buckets, with a list for each
pub record AreListsKept (bits : ℕ) (entries : List WorldEntry) (lasts : List ℕ) (linked : List (List ℕ)) : Type 0 where
  pub buckets : length lasts ≡ 2 ^ bits
  pub lists : length linked ≡ 2 ^ bits
  pub listed : AreListed entries linked
