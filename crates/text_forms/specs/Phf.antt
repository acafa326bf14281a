-- SipHash (Aumasson and Bernstein, 2012) as a fold over a text's 64-bit words, and the place that the hashes give a text in static tables (hash,
-- displace and compress: Belazzougui, Botelho and Dietzfelbinger, 2009).
use Rattle.std.specs.Prelude.{ℕ, zero, suc, ◌+◌, ◌*◌, ◌/◌, ◌%◌, ◌^◌, List, [], ◌∷◌, ◌++◌, length, drop, map, fold, bit_xor, slice_index_or}
use Rattle.std.specs.Int.{w64, rotate_left}
use Rattle.std.specs.Simd.{first_chunks}
use Rattle.text_forms.specs.declared.phf.Sip.{Sip}
use Rattle.text_forms.specs.declared.phf.Hashes.{Hashes}
use Rattle.text_forms.specs.Word.{bytes_value}

-- a sum that wraps at 64 bits
abbrev pub wrapping_add : ℕ → ℕ → ℕ
wrapping_add x y = (x + y) % 2 ^ 64

-- the words of a text of n bytes: each full group of eight bytes, and then the n % 8 bytes that are left, with n % 256 in
-- the top byte
abbrev pub words_of : List ℕ → List ℕ
words_of bytes =
    map bytes_value (first_chunks 8 (length bytes / 8) bytes)
    ++ (bytes_value (drop (length bytes / 8 * 8) bytes) + length bytes % 256 * 2 ^ 56) ∷ []

-- the state before the text, under the keys k0 and k1
unfoldable pub start : ℕ → ℕ → Sip
start k0 k1 = record {
  v0 = bit_xor k0 0x736f_6d65_7073_6575;
  v1 = bit_xor k1 0x646f_7261_6e64_6f6d;
  v2 = bit_xor k0 0x6c79_6765_6e65_7261;
  v3 = bit_xor k1 0x7465_6462_7974_6573;
}

-- one round: twice, each of two words is added to its neighbour, rotated, and the sum xored into it
unfoldable pub round : Sip → Sip
round s =
    let a0 = wrapping_add s.v0 s.v1 in
    let a1 = bit_xor (rotate_left w64 s.v1 13) a0 in
    let a2 = wrapping_add s.v2 s.v3 in
    let a3 = bit_xor (rotate_left w64 s.v3 16) a2 in
    let b0 = wrapping_add (rotate_left w64 a0 32) a3 in
    let b3 = bit_xor (rotate_left w64 a3 21) b0 in
    let b2 = wrapping_add a2 a1 in
    let b1 = bit_xor (rotate_left w64 a1 17) b2 in
    record { v0 = b0; v1 = b1; v2 = rotate_left w64 b2 32; v3 = b3 }

-- n rounds, one after another
unfoldable pub rounds : ℕ → Sip → Sip
rounds zero s = s
rounds (suc n) s = round (rounds n s)

-- a word xored into one word of the state
unfoldable pub xor_v0 : Sip → ℕ → Sip
xor_v0 s m = record s { v0 = bit_xor s.v0 m }

-- the same, into the second word of the state
unfoldable pub xor_v1 : Sip → ℕ → Sip
xor_v1 s m = record s { v1 = bit_xor s.v1 m }

-- the same, into the third
unfoldable pub xor_v2 : Sip → ℕ → Sip
xor_v2 s m = record s { v2 = bit_xor s.v2 m }

-- the same, into the fourth
unfoldable pub xor_v3 : Sip → ℕ → Sip
xor_v3 s m = record s { v3 = bit_xor s.v3 m }

-- one word of the text, taken in by c rounds
unfoldable pub absorb : ℕ → Sip → ℕ → Sip
absorb c s m = xor_v0 (rounds c (xor_v3 s m)) m

-- the state after all words of the text
abbrev pub absorb_all : ℕ → Sip → List ℕ → Sip
absorb_all c s bytes = fold (absorb c) s (words_of bytes)

-- the 64 bits that a state gives
unfoldable pub xor_of : Sip → ℕ
xor_of s = bit_xor (bit_xor (bit_xor s.v0 s.v1) s.v2) s.v3

-- SipHash-2-4 with 64 bits
unfoldable pub sip24_of : List ℕ → ℕ → ℕ → ℕ
sip24_of bytes k0 k1 = xor_of (rounds 4 (xor_v2 (absorb_all 2 (start k0 k1) bytes) 0xff))

-- the 64 bits that SipHash-1-3 gives after this state
unfoldable pub sip13_of : Sip → ℕ
sip13_of s = xor_of (rounds 3 (xor_v2 s 0xff))

-- SipHash-1-3 with 128 bits, under the keys 0 and key: the state of the first half, and that of the second
unfoldable pub first_half : List ℕ → ℕ → Sip
first_half bytes key = rounds 3 (xor_v2 (absorb_all 1 (xor_v1 (start 0 key) 0xee) bytes) 0xee)

-- the state of the second half of these 128 bits
unfoldable pub second_half : List ℕ → ℕ → Sip
second_half bytes key = rounds 3 (xor_v1 (first_half bytes key) 0xdd)

-- the hashes of a text: the high and the low 32 bits of the first half, and the low 32 bits of the second
unfoldable pub hashes_of : List ℕ → ℕ → Hashes
hashes_of bytes key = record {
  g = xor_of (first_half bytes key) / 2 ^ 32;
  f1 = xor_of (first_half bytes key) % 2 ^ 32;
  f2 = xor_of (second_half bytes key) % 2 ^ 32;
}

-- the hash of an entry
abbrev pub hash_of_hashes : Hashes → ℕ
hash_of_hashes h = h.g * 2 ^ 32 + h.f1

-- the place among len texts: g, modulo the number of pairs, picks a pair (d1, d2), and the place is (d2 + f1 * d1 + f2) modulo 2 ^ 32, modulo len
abbrev pub place_of : Hashes → List (ℕ × ℕ) → ℕ → ℕ
place_of h disps len =
    let pair = slice_index_or disps (h.g % length disps) (0, 0) in
    (pair.1 + h.f1 * pair.0 + h.f2) % 2 ^ 32 % len
