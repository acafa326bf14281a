-- Where there are 2 ^ bits buckets: how many that is, and the bucket of a hash.
use Rattle.std.proofs.Common.{◌≡◌, sym, subst, ℕ, ◌%◌, ◌^◌, ◌<◌, ◌≤◌, arith}
use Rattle.std.proofs.lemmas.Nat.{mod_below, pow_pos}
use Rattle.std.proofs.Math.Nat.{pow-le-pow_right}
use Rattle.text_forms.specs.Layout.{most_bits, most_buckets}

pub number_range : (bits : ℕ) → bits ≤ most_bits → (1 ≤ 2 ^ bits) × (2 ^ bits ≤ most_buckets)
number_range bits few = (pow_pos bits, pow-le-pow_right {n = 2} (omega arith) {i = bits} {j = most_bits} few)

-- the bucket of a hash is one of them
pub bucket-within : (hash bits buckets : ℕ) → buckets ≡ 2 ^ bits → hash % buckets < buckets
bucket-within hash bits buckets is = mod_below hash buckets (subst (λ (n : ℕ). 0 < n) (sym is) (pow_pos bits))

-- and one that tickets tell apart
pub bucket-below : (hash bits buckets : ℕ) → buckets ≡ 2 ^ bits → buckets ≤ most_buckets → hash % buckets < most_buckets
bucket-below hash bits buckets is few = let own = bucket-within hash bits buckets is in omega (arith, own, few)
