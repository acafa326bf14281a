-- The number that bytes spell: one more byte below, zeros above, and eight bytes read at once.
use Rattle.std.proofs.Common.{◌≡◌, ℕ, zero, suc, ◌+◌, ◌*◌, ◌^◌, List, [], ◌∷◌, ◌++◌, length, refl, arith}
use Rattle.std.proofs.Math.ListN.{replicate}
use Rattle.std.specs.Prelude.{sum_by}
use Rattle.std.specs.List.{enumerate_from}
use Rattle.std.specs.Int.{w64, from_le_bytes}
use Rattle.std.proofs.lemmas.List.Sums.{sum_by-cons}
use Rattle.std.proofs.lemmas.Nat.{pow-add}
use Rattle.text_forms.specs.Word.{bytes_value}

abbrev worth : ℕ × ℕ → ℕ
worth place = place.1 * 256 ^ place.0

pub scaled : (b n : ℕ) → b * 256 ^ (n + 1) ≡ 256 * (b * 256 ^ n)
scaled b n = rw (pow-add 256 n 1) (omega arith)

-- each place one higher makes the sum 256 times as large
shifted : (n : ℕ) (bytes : List ℕ) → sum_by worth (enumerate_from (n + 1) bytes) ≡ 256 * sum_by worth (enumerate_from n bytes)
shifted n [] = refl
shifted n (b ∷ bytes) =
    let above = sum_by-cons worth (n + 1, b) (enumerate_from (n + 1 + 1) bytes) in
    let below = sum_by-cons worth (n, b) (enumerate_from (n + 1) bytes) in
    let rest = shifted (n + 1) bytes in
    let top = scaled b n in
    omega arith

pub bytes_value-cons : (b : ℕ) (bytes : List ℕ) → bytes_value (b ∷ bytes) ≡ b + 256 * bytes_value bytes
bytes_value-cons b bytes =
    let split = sum_by-cons worth (0, b) (enumerate_from 1 bytes) in
    let rest = shifted 0 bytes in
    omega arith

pub bytes_value-zeros : (n : ℕ) → bytes_value (replicate n 0) ≡ 0
bytes_value-zeros zero = refl
bytes_value-zeros (suc n) = omega (arith, bytes_value-cons 0 (replicate n 0), bytes_value-zeros n)

pub bytes_value-append_zeros : (bytes : List ℕ) (n : ℕ) → bytes_value (bytes ++ replicate n 0) ≡ bytes_value bytes
bytes_value-append_zeros [] n = bytes_value-zeros n
bytes_value-append_zeros (b ∷ bytes) n = omega (arith, bytes_value-cons b bytes, bytes_value-cons b (bytes ++ replicate n 0), bytes_value-append_zeros bytes n)

pub from_le_bytes-bytes_value : (bytes : List ℕ) → length bytes ≡ 8 → from_le_bytes w64 bytes ≡ bytes_value bytes
from_le_bytes-bytes_value [] l = absurd (omega arith)
from_le_bytes-bytes_value (a ∷ []) l = absurd (omega arith)
from_le_bytes-bytes_value (a ∷ b ∷ []) l = absurd (omega arith)
from_le_bytes-bytes_value (a ∷ b ∷ c ∷ []) l = absurd (omega arith)
from_le_bytes-bytes_value (a ∷ b ∷ c ∷ d ∷ []) l = absurd (omega arith)
from_le_bytes-bytes_value (a ∷ b ∷ c ∷ d ∷ e ∷ []) l = absurd (omega arith)
from_le_bytes-bytes_value (a ∷ b ∷ c ∷ d ∷ e ∷ f ∷ []) l = absurd (omega arith)
from_le_bytes-bytes_value (a ∷ b ∷ c ∷ d ∷ e ∷ f ∷ g ∷ []) l = absurd (omega arith)
from_le_bytes-bytes_value (a ∷ b ∷ c ∷ d ∷ e ∷ f ∷ g ∷ h ∷ []) l = omega arith
from_le_bytes-bytes_value (a ∷ b ∷ c ∷ d ∷ e ∷ f ∷ g ∷ h ∷ x ∷ bytes) l = absurd (omega arith)
