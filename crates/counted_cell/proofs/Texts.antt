-- A text in its bytes, alone or before a limit.
use Rattle.std.proofs.Common.{◌≡◌, ℕ, ◌+◌, ◌*◌, ◌/◌, ◌^◌, ◌<◌, ◌≤◌, ◌==◌, Bool, cond, List, ◌++◌, map, length, replicate, take, drop, sym, ap, ◌∙◌, arith}
use Rattle.std.specs.Prelude.{Option, None, Some}
use Rattle.std.specs.Int.{w64, to_le_bytes, from_le_bytes}
use Rattle.std.specs.Int.Bits.{bit_or}
use Rattle.std.proofs.Math.Seq.{take-append_seam, drop-append_seam, take-length}
use Rattle.std.proofs.lemmas.List.{length-append, length-take-le, length-drop, take-map, drop-map}
use Rattle.std.proofs.lemmas.Bool.{ne_eqb}
use Rattle.std.proofs.lemmas.Nat.{from_le_bytes-to_le_bytes_8, le_or_l, le_or_r}
use Rattle.counted_cell.specs.Text.{begun, somes, ArePart, most_shares, limit_size, length_in, text_in, limit_in}
use Rattle.counted_cell.specs.declared.text.Text.{Text}
use Rattle.counted_cell.proofs.Begun.{begun-none, begun-all, somes-map, map-length}

-- places that are all empty are those of any bytes of which none is there yet
pub empty-of : (all : List ℕ) (cs : List (Option ℕ)) (n : ℕ) → cs ≡ replicate n None → length all ≡ n → cs ≡ begun all 0
empty-of all cs n is long = is ∙ ap (λ k. replicate k None) (sym long) ∙ sym (begun-none all)

pub front : (xs ys : List ℕ) → ArePart (xs ++ ys) 0 xs
front xs ys = let long = length-append xs ys in (omega (arith, long), take-append_seam xs ys)

pub back : (xs ys : List ℕ) → ArePart (xs ++ ys) (length xs) ys
back xs ys = let long = length-append xs ys in (omega (arith, long), ap (take (length ys)) (drop-append_seam xs ys) ∙ take-length ys)

pub whole : (xs : List ℕ) → ArePart xs 0 xs
whole xs = (omega arith, take-length xs)

-- all bytes are there
pub full : (xs : List ℕ) (cs : List (Option ℕ)) (n : ℕ) → cs ≡ begun xs n → n ≡ length xs → cs ≡ map Some xs
full xs cs n is end = is ∙ ap (begun xs) end ∙ begun-all xs

-- a limit of its own takes the bytes of a number
pub size-of-limit : (limit : ℕ) → (limit ≡ most_shares → ⊥) → limit_size limit ≡ length (to_le_bytes w64 limit)
size-of-limit limit other = ap (λ (b : Bool). cond b 0 8) (ne_eqb limit most_shares other)

-- what a `Text` keeps of its bytes
abbrev pub IsRow : ℕ → List (Option ℕ) → Type 0
IsRow sized cs = (cs ≡ map Some (somes cs)) × (length (somes cs) ≡ length_in sized + sized / 2 ^ 63 * 8) × (limit_size (limit_in sized (somes cs)) ≡ sized / 2 ^ 63 * 8)

module _ (cs : List (Option ℕ)) (all : List ℕ) (are : cs ≡ map Some all) where
  there : somes cs ≡ all
  there = ap somes are ∙ somes-map all

  row : cs ≡ map Some (somes cs)
  row = are ∙ ap (map Some) (sym there)

module _ (cs : List (Option ℕ)) (xs : List ℕ) (few : length xs < 2 ^ 63) (are : cs ≡ map Some xs) where
  no-mark : length xs / 2 ^ 63 ≡ 0
  no-mark = omega (arith, few)

  own-length : length_in (length xs) ≡ length xs
  own-length = omega (arith, few)

  pub alone-limit : limit_in (length xs) (somes cs) ≡ most_shares
  alone-limit = ap (λ (q : ℕ). cond (q == 0) most_shares (from_le_bytes w64 (take 8 (drop (length_in (length xs)) (somes cs))))) no-mark

  pub alone-text : text_in (length xs) (somes cs) ≡ xs
  alone-text = ap (take (length_in (length xs))) (there cs xs are) ∙ ap (λ n. take n xs) own-length ∙ take-length xs

  pub alone-row : IsRow (length xs) cs
  alone-row = let long = ap length (there cs xs are) in let mark = no-mark in let own = own-length in
      (row cs xs are, omega (arith, long, mark, own), ap limit_size alone-limit ∙ (omega (arith, mark)))

module _ (cs : List (Option ℕ)) (xs : List ℕ) (limit : ℕ) (few : length xs < 2 ^ 63) (small : limit < 2 ^ 64) (other : limit ≡ most_shares → ⊥) (are : cs ≡ map Some (xs ++ to_le_bytes w64 limit)) where
  abbrev pub sized : ℕ
  sized = length xs + 2 ^ 63

  mark : sized / 2 ^ 63 ≡ 1
  mark = omega (arith, few)

  before-mark : length_in sized ≡ length xs
  before-mark = omega (arith, few)

  pub limited-limit : limit_in sized (somes cs) ≡ limit
  limited-limit = ap (λ (q : ℕ). cond (q == 0) most_shares (from_le_bytes w64 (take 8 (drop (length_in sized) (somes cs))))) mark
      ∙ ap (λ n. from_le_bytes w64 (take 8 (drop n (somes cs)))) before-mark ∙ ap (λ l. from_le_bytes w64 (take 8 (drop (length xs) l))) (there cs (xs ++ to_le_bytes w64 limit) are)
      ∙ ap (λ l. from_le_bytes w64 (take 8 l)) (drop-append_seam xs (to_le_bytes w64 limit)) ∙ from_le_bytes-to_le_bytes_8 limit small

  pub limited-text : text_in sized (somes cs) ≡ xs
  limited-text = ap (take (length_in sized)) (there cs (xs ++ to_le_bytes w64 limit) are) ∙ ap (λ n. take n (xs ++ to_le_bytes w64 limit)) before-mark ∙ take-append_seam xs (to_le_bytes w64 limit)

  pub limited-row : IsRow sized cs
  limited-row =
      let long : length (somes cs) ≡ length xs + 8 = ap length (there cs (xs ++ to_le_bytes w64 limit) are) ∙ length-append xs (to_le_bytes w64 limit) in
      let m = mark in let t = before-mark in
      (row cs (xs ++ to_le_bytes w64 limit) are, omega (arith, long, m, t), ap limit_size limited-limit ∙ ap (λ (b : Bool). cond b 0 8) (ne_eqb limit most_shares other) ∙ (omega (arith, m)))

-- what lies in some places of a row
pub part : (cs : List (Option ℕ)) (from n : ℕ) → cs ≡ map Some (somes cs) → take n (drop from cs) ≡ map Some (take n (drop from (somes cs)))
part cs from n is = ap (λ (l : List (Option ℕ)). take n (drop from l)) is ∙ ap (take n) (drop-map Some from (somes cs)) ∙ take-map Some n (drop from (somes cs))

-- and what is lent of them
pub lent : (cs : List (Option ℕ)) (from n : ℕ) (ys : List ℕ) → cs ≡ map Some (somes cs) → take n (drop from cs) ≡ map Some ys → ys ≡ take n (drop from (somes cs))
lent cs from n ys is at = sym (somes-map ys) ∙ ap somes (sym at ∙ part cs from n is) ∙ somes-map (take n (drop from (somes cs)))

module _ (t : Text) where
  pub all-length : length t.places.slots ≡ length_in t.sized + t.sized / 2 ^ 63 * 8
  all-length = ap length t.row ∙ map-length (somes t.places.slots) ∙ t.long

  pub text-length : length (text_in t.sized (somes t.places.slots)) ≡ length_in t.sized
  text-length = let long = t.long in length-take-le (length_in t.sized) (somes t.places.slots) (omega (arith, long))

  pub limit-length : 2 ^ 63 ≤ t.sized → length (take 8 (drop (length_in t.sized) (somes t.places.slots))) ≡ 8
  limit-length own =
      let long = t.long in let less = length-drop (length_in t.sized) (somes t.places.slots) in length-take-le 8 (drop (length_in t.sized) (somes t.places.slots)) (omega (arith, long, less, own))

  pub own-limit : 2 ^ 63 ≤ t.sized → limit_in t.sized (somes t.places.slots) ≡ from_le_bytes w64 (take 8 (drop (length_in t.sized) (somes t.places.slots)))
  own-limit own = ap (λ (b : Bool). cond b most_shares (from_le_bytes w64 (take 8 (drop (length_in t.sized) (somes t.places.slots))))) (ne_eqb (t.sized / 2 ^ 63) 0 (λ none. omega (arith, own, none)))

  pub far_below : (shares : ℕ) → bit_or shares t.sized < 2 ^ 62 → shares < limit_in t.sized (somes t.places.slots)
  far_below shares few =
      let one = le_or_l shares t.sized in let two = le_or_r shares t.sized in let none : t.sized / 2 ^ 63 ≡ 0 = omega (arith, few, two) in
      let limit = ap (λ (q : ℕ). cond (q == 0) most_shares (from_le_bytes w64 (take 8 (drop (length_in t.sized) (somes t.places.slots))))) none in
      omega (arith, few, one, limit)
