-- The texts of the pairs: their bytes, summed in order, and that no two are one.
use Rattle.std.proofs.Common.{◌≡◌, ◌∙◌, ap, sym, refl, arith, ℕ, suc, zero, ◌+◌, ◌*◌, ◌^◌, ◌<◌, ◌≤◌, List, [], ◌∷◌, length, Some, false}
use Rattle.std.specs.Prelude.{slice_get, String, string_bytes}
use Rattle.std.specs.List.{sum_by, IsDistinct, AllByRecursion}
use Rattle.std.specs.Map.{keys_of}
use Rattle.std.specs.Str.{bytes_eq}
use Rattle.std.specs.String.{string_eq}
use Rattle.std.proofs.lemmas.List.Sums.{sum_by-cons}
use Rattle.indexmap.specs.Layout.{set_value_at}
use Rattle.text_forms.specs.Map.{Holding}
use Rattle.interner_table.specs.Kept.{Pair, pairs_of}

-- a text that a String copies is no longer than one can be
pub text-fits : {Z : Type 0} (key : String Z) (text : List ℕ) → string_bytes key ≡ text → length text < 2 ^ 64
text-fits key text is =
    let len = key.bytes.ok.0 in let most = key.bytes.ok.1 in let small = key.bytes.small in let same = ap length is in omega (arith, len, most, small, same)

-- texts below 2^64 bytes have at most that many together, each
pub bytes-fit : (pairs : List Pair) → ((at : ℕ) (pair : Pair) → slice_get pairs at ≡ Some pair → length pair.0 < 2 ^ 64) → sum_by (λ (pair : Pair). length pair.0) pairs ≤ length pairs * 2 ^ 64
bytes-fit [] short = omega arith
bytes-fit (x ∷ xs) short =
    let more = bytes-fit xs (λ at. short (suc at)) in
    let own = short 0 x refl in
    let sum = sum_by-cons (λ (pair : Pair). length pair.0) x xs in
    omega (arith, more, own, sum)

-- below 2^63 texts have fewer than 2^127 bytes
pub bytes-few : (pairs : List Pair) → ((at : ℕ) (pair : Pair) → slice_get pairs at ≡ Some pair → length pair.0 < 2 ^ 64) → length pairs < 2 ^ 63 → sum_by (λ (pair : Pair). length pair.0) pairs < 2 ^ 127
bytes-few pairs short few = let fit = bytes-fit pairs short in omega (arith, fit, few)

module _ {Y : Type 0} where
  -- a write of a value leaves the texts
  pub bytes-set : (es : List (String Y × Holding)) (at : ℕ) (w : Holding) → sum_by (λ (pair : Pair). length pair.0) (pairs_of (set_value_at es at w)) ≡ sum_by (λ (pair : Pair). length pair.0) (pairs_of es)
  bytes-set [] at w = refl
  bytes-set (e ∷ es) zero w = refl
  bytes-set (e ∷ es) (suc at) w =
      sum_by-cons (λ (pair : Pair). length pair.0) (string_bytes e.0, e.1) (pairs_of (set_value_at es at w))
      ∙ ap (λ (n : ℕ). length (string_bytes e.0) + n) (bytes-set es at w)
      ∙ sym (sum_by-cons (λ (pair : Pair). length pair.0) (string_bytes e.0, e.1) (pairs_of es))

  apart-texts : (key : String Y) (es : List (String Y × Holding)) → AllByRecursion (λ other. string_eq key other ≡ false) (keys_of es) → AllByRecursion (λ other. bytes_eq (string_bytes key) other ≡ false) (keys_of (pairs_of es))
  apart-texts key [] a = tt
  apart-texts key (e ∷ es) a = (a.0, apart-texts key es a.1)

  pub distinct-texts : (es : List (String Y × Holding)) → IsDistinct string_eq (keys_of es) → IsDistinct bytes_eq (keys_of (pairs_of es))
  unfolding IsDistinct
  distinct-texts [] d = tt
  distinct-texts (e ∷ es) d = (apart-texts e.0 es d.0, distinct-texts es d.1)
