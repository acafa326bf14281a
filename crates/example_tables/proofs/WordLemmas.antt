-- Words tell which texts are one.
use Rattle.std.proofs.Common.{◌≡◌, ◌≢◌, ◌↔◌, ℕ, List, Bool, IsTrue, nat_eq, rules}

-- of two words, each that of its text
pub two_tell : (one two : ℕ) (first second : List ℕ) → (two ≡ one) ↔ (second ≡ first) → IsTrue (nat_eq one two) ↔ (first ≡ second)
two_tell one two first second apart = search (rules, apart)

module _ (one two three : ℕ) (first second third : List ℕ) (apart : (two ≡ one) ↔ (second ≡ first)) (also : (three ≡ two) ↔ (third ≡ second)) (same : Bool) where
  -- of three words, where the first two are equal
  pub third_tells : one ≡ two → same ≡ nat_eq two three → IsTrue same ↔ ((first ≡ second) × (second ≡ third))
  third_tells equal is = search (rules, apart, also)

  -- and where they differ
  pub third_is_idle : one ≢ two → same ≡ nat_eq one two → IsTrue same ↔ ((first ≡ second) × (second ≡ third))
  third_is_idle differ is = search (rules, apart)
