-- What a text has to be to spell a number.
use Rattle.std.proofs.Common.{◌≡◌, ◌≢◌, ℕ, ◌^◌, ◌<◌, ◌≤◌, List, ◌++◌, length, get_or, Result, Ok, Err, sym, refl, ap, ◌∙◌, arith, suc, zero, decimal, MatchOption}
use Rattle.std.specs.Result.{result_ok, OkIff}
use Rattle.std.proofs.lemmas.List.{append_cancel_left}
use Rattle.std.specs.Str.Parse.{AllDigits, ParsesUnsigned, digits_value}
use Rattle.std.proofs.lemmas.Fmt.{decimal_is_IsNumeral, decimal_nonempty, decimal_digit, first_decimal, decimal-digits_value, decimal_injective, parse-decimal}
use Rattle.std.proofs.lemmas.Str.Parse.{IsNumeralModel, numerals_by_value, tells_digits, digit_at, parse_plain}

digits_model : IsNumeralModel (AllDigits 10) (digits_value 10)
digits_model = numerals_by_value _ tells_digits

-- the bytes of a number are digits
pub decimal_byte : (n : ℕ) → n < 2 ^ 64 → (i : ℕ) → i < length (decimal n) → (48 ≤ get_or (decimal n) i 0) × (get_or (decimal n) i 0 ≤ 57)
decimal_byte n small i h = let d = digit_at (decimal n) i (decimal_is_IsNumeral n small).0.1 h in (omega arith, omega arith)

-- a sign isn't the first of them
pub decimal_no_sign : (n : ℕ) → n < 2 ^ 64 → get_or (decimal n) 0 0 ≢ 43
decimal_no_sign n small e = absurd (omega (arith, (decimal_byte n small 0 (decimal_nonempty n small)).0))

-- and a zero is alone
pub decimal_lone_zero : (n : ℕ) → n < 2 ^ 64 → get_or (decimal n) 0 0 ≡ 48 → length (decimal n) ≡ 1
decimal_lone_zero zero small e = ap length (decimal_digit 0 (omega arith))
decimal_lone_zero (suc n) small e = absurd (omega (arith, first_decimal (suc n) (omega arith) small))

pub no_number-sign : (bs : List ℕ) → get_or bs 0 0 ≡ 43 → (n : ℕ) → n < 2 ^ 64 → bs ≢ decimal n
no_number-sign bs plus n small e = decimal_no_sign n small (ap (λ v. get_or v 0 0) (sym e) ∙ plus)

pub no_number-zero : (bs : List ℕ) → get_or bs 0 0 ≡ 48 → length bs ≢ 1 → (n : ℕ) → n < 2 ^ 64 → bs ≢ decimal n
no_number-zero bs lead more n small e = more (ap length e ∙ decimal_lone_zero n small (ap (λ v. get_or v 0 0) (sym e) ∙ lead))

-- what `parse` reads, where no sign and no zero too many stands in front
pub number_parsed : {E : Type 0} (bs : List ℕ) (r : Result ℕ E) → ParsesUnsigned 64 10 bs r → get_or bs 0 0 ≢ 43 → (get_or bs 0 0 ≡ 48 → length bs ≤ 1)
    → MatchOption (result_ok r) ((n : ℕ) → n < 2 ^ 64 → bs ≢ decimal n) (λ n. bs ≡ decimal n)
number_parsed {E} bs (Ok n) h plus lead =
    let read : (AllDigits 10 bs × (0 < length bs) × (digits_value 10 bs < 2 ^ 64)) × (n ≡ digits_value 10 bs) = parse_plain digits_model {E = E} 64 bs (Ok n) h plus in
    sym (ap decimal read.1 ∙ decimal-digits_value digits_model bs read.0.0 read.0.1 (λ e. let l = lead e in omega (arith, l, read.0.1)) read.0.2)
number_parsed {E} bs (Err x) h plus lead = λ n small e. fails (Err x) refl (parse-decimal {E = E} 64 n bs (Err x) small small e h)
  where
    fails : {n : ℕ} (r : Result ℕ E) → r ≡ Err x → r ≡ Ok n → ⊥
    fails r a b = cc

-- behind the same words stands one number
pub number_unique : (bs words : List ℕ) (m n : ℕ) → m < 2 ^ 64 → n < 2 ^ 64 → bs ≡ words ++ decimal m → bs ≡ words ++ decimal n → m ≡ n
number_unique bs words m n p q d e = decimal_injective m n p q (append_cancel_left words (decimal m) (decimal n) (sym d ∙ e))

-- and it is below a limit, or none that is
pub number_below : {E : Type 0} (bs words : List ℕ) (k limit : ℕ) → k < 2 ^ 64 → limit ≤ 2 ^ 64 → bs ≡ words ++ decimal k → (r : Result ℕ E) → OkIff r (k < limit) k
    → MatchOption (result_ok r) ((n : ℕ) → n < limit → bs ≢ words ++ decimal n) (λ n. bs ≡ words ++ decimal n)
number_below bs words k limit fits top e (Ok n) h = e ∙ ap (λ v. words ++ decimal v) (sym h.1)
number_below bs words k limit fits top e (Err x) h = λ n below d. h (let same = number_unique bs words n k (omega arith) fits d e in omega arith)
