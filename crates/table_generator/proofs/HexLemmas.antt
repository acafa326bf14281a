-- Sixteen hexadecimal digits: what is printed of a number, and what is read of one.
use Rattle.std.proofs.Common.{◌≡◌, ℕ, ◌+◌, ◌*◌, ◌-◌, ◌/◌, ◌%◌, ◌^◌, ◌<◌, ◌≤◌, ◌⊎◌, inl, inr, zero, suc, true, false, Bool, List, [], ◌∷◌, ◌++◌, length, get_or, replicate, sym, refl, ap, ◌∙◌, arith, subst, eq-eqb, length-append, append_assoc}
use mathlib.Core.Logic.{⊎_elim}
use Rattle.std.specs.Fmt.{digits, digits_onto, digit_glyph, format_spec, padded_integral, char_count}
use Rattle.std.specs.Prelude.{if◌then◌else◌, ◌==◌, nat_lt}
use Rattle.std.proofs.lemmas.Bool.{cases_eq, cases_lt, le-ltb, lt-ltb}
use Rattle.std.proofs.lemmas.List.{length-replicate, append-nil, get_or_append_left, get_or_push, same_from_push}
use Rattle.std.proofs.Math.Dec.{eqb-suc-zero}
use Rattle.std.proofs.Math.Nat.{pow-le-pow_right, pow-suc}
use Rattle.text_forms.proofs.Cuts.{Lacks}
use Rattle.table_generator.specs.TableText.{hex_digit, hex_digits}

pub hex_count : (c n : ℕ) → length (hex_digits c n) ≡ c
unfolding hex_digits
hex_count zero n = refl
hex_count (suc c) n = length-append (hex_digits c (n / 16)) (hex_digit (n % 16) ∷ []) ∙ omega (arith, hex_count c (n / 16))

hex_zero : (c : ℕ) → hex_digits c 0 ≡ replicate c 48
unfolding hex_digits
hex_zero zero = refl
hex_zero (suc c) = ap (λ (ds : List ℕ). ds ++ (48 ∷ [])) (hex_zero c) ∙ replicate_push c
  where
    replicate_push : (c : ℕ) → replicate {A = ℕ} c 48 ++ (48 ∷ []) ≡ replicate (suc c) 48
    replicate_push zero = refl
    replicate_push (suc c) = ap (λ (ds : List ℕ). 48 ∷ ds) (replicate_push c)

onto_if : (k n : ℕ) (acc : List ℕ) (b : Bool) → (n / 16 == 0) ≡ b
    → digits_onto (suc k) 16 false n acc ≡ (if b then digit_glyph false (n % 16) ∷ acc else digits_onto k 16 false (n / 16) (digit_glyph false (n % 16) ∷ acc))
onto_if k n acc b e = ap (λ v. if v then digit_glyph false (n % 16) ∷ acc else digits_onto k 16 false (n / 16) (digit_glyph false (n % 16) ∷ acc)) e

not_zero : (m : ℕ) → (m ≡ 0 → ⊥) → (m == 0) ≡ false
not_zero zero some = absurd (some refl)
not_zero (suc m) some = eqb-suc-zero m

-- zeros and then the digits are the hexadecimal digits
padded_digits : (c k n : ℕ) (acc : List ℕ) → c < k → n < 16 ^ suc c → (z : ℕ) × (hex_digits (suc c) n ++ acc ≡ replicate z 48 ++ digits_onto k 16 false n acc)
unfolding hex_digits
padded_digits c zero n acc low small = absurd (omega (arith, low))
padded_digits c (suc k) n acc low small = ⊎_elim
    (λ none. (
      c,
      last_digit c n acc ∙ ap (λ m. hex_digits c m ++ (hex_digit (n % 16) ∷ acc)) none ∙ ap (λ (ds : List ℕ). ds ++ (hex_digit (n % 16) ∷ acc)) (hex_zero c)
          ∙ ap (λ (ds : List ℕ). replicate c 48 ++ ds) (sym (onto_if k n acc true (eq-eqb (n / 16) 0 none))),
    ))
    (λ some. more c (λ c' low' small'. padded_digits c' k (n / 16) (hex_digit (n % 16) ∷ acc) low' small') low small some)
    (cases_eq (n / 16) 0)
  where
    last_digit : (c n : ℕ) (acc : List ℕ) → hex_digits (suc c) n ++ acc ≡ hex_digits c (n / 16) ++ (hex_digit (n % 16) ∷ acc)
    last_digit c n acc = append_assoc (hex_digits c (n / 16)) (hex_digit (n % 16) ∷ []) acc

    more : (c : ℕ) → ((c' : ℕ) → c' < k → n / 16 < 16 ^ suc c' → (z : ℕ) × (hex_digits (suc c') (n / 16) ++ (hex_digit (n % 16) ∷ acc) ≡ replicate z 48 ++ digits_onto k 16 false (n / 16) (hex_digit (n % 16) ∷ acc)))
        → c < suc k → n < 16 ^ suc c → (n / 16 ≡ 0 → ⊥) → (z : ℕ) × (hex_digits (suc c) n ++ acc ≡ replicate z 48 ++ digits_onto (suc k) 16 false n acc)
    more zero next low small some = absurd (some (omega (arith, small, pow-suc 16 0)))
    more (suc c) next low small some =
        let front = next c (omega (arith, low)) (omega (arith, small, pow-suc 16 (suc c))) in
        (front.0, last_digit (suc c) n acc ∙ front.1 ∙ ap (λ (ds : List ℕ). replicate front.0 48 ++ ds) (sym (onto_if k n acc false (not_zero (n / 16) some))))

-- every power is computed
small_number : (n : ℕ) → n < 2 ^ 64 → n < 16 ^ suc 15
small_number n h = h

zeros_before : (n : ℕ) → n < 2 ^ 64 → (z : ℕ) × (hex_digits 16 n ≡ replicate z 48 ++ digits 16 false n)
unfolding digits
zeros_before n small = let all = padded_digits 15 64 n [] (omega arith) (small_number n small) in (all.0, sym (append-nil (hex_digits 16 n)) ∙ all.1)

padded_to_16 : (ds : List ℕ) → padded_integral (format_spec 32 0 4 16 (2 ^ 64 - 1)) false [] ds ≡ replicate (16 - length ds) 48 ++ ds
unfolding padded_integral char_count
padded_to_16 ds =
    let none : 16 - length ds - 0 - 0 ≡ 16 - length ds = omega arith in
    rw (none, append-nil)

-- what `{:016x}` writes of a number
pub hex_printed : (n : ℕ) → n < 2 ^ 64 → padded_integral (format_spec 32 0 4 16 (2 ^ 64 - 1)) false [] (digits 16 false n) ≡ hex_digits 16 n
hex_printed n small =
    let ds = digits 16 false n in
    let zeros = zeros_before n small in
    let count : 16 ≡ zeros.0 + length ds = sym (hex_count 16 n) ∙ ap length zeros.1 ∙ length-append (replicate zeros.0 48) ds ∙ ap (λ m. m + length ds) (length-replicate {A = ℕ} zeros.0 48) in
    let same : 16 - length ds ≡ zeros.0 = omega (arith, count) in
    padded_to_16 ds ∙ ap (λ m. replicate {A = ℕ} m 48 ++ ds) same ∙ sym zeros.1

-- ---- what is read

-- one digit more
pub hex_more : (c n d : ℕ) (ds : List ℕ) → d < 16 → ds ≡ hex_digits c n → ds ++ (hex_digit d ∷ []) ≡ hex_digits (c + 1) (n * 16 + d)
unfolding hex_digits
hex_more c n d ds small is = let more : c + 1 ≡ suc c = omega arith in ap (λ v. v ++ (hex_digit d ∷ [])) is ∙ next c n d small ∙ ap (λ m. hex_digits m (n * 16 + d)) (sym more)
  where
    next : (c n d : ℕ) → d < 16 → hex_digits c n ++ (hex_digit d ∷ []) ≡ hex_digits (suc c) (n * 16 + d)
    next c n d small =
        let high : n ≡ (n * 16 + d) / 16 = omega (arith, small) in
        let low : d ≡ (n * 16 + d) % 16 = omega (arith, small) in
        ap (λ m. hex_digits c m ++ (hex_digit d ∷ [])) high ∙ ap (λ m. hex_digits c ((n * 16 + d) / 16) ++ (hex_digit m ∷ [])) low

pub hex_bound : (c n d : ℕ) → d < 16 → n < 16 ^ c → n * 16 + d < 16 ^ (c + 1)
hex_bound c n d small below = let more : c + 1 ≡ suc c = omega arith in subst (λ m. n * 16 + d < 16 ^ m) (sym more) (omega (arith, pow-suc 16 c, small, below))

pub hex_fits : (c n d : ℕ) → c < 16 → d < 16 → n < 16 ^ c → n * 16 + d < 2 ^ 64
hex_fits c n d few small below = let most : 16 ^ c ≤ 16 ^ 15 = pow-le-pow_right {n = 16} (omega arith) {i = c} {j = 15} (omega (arith, few)) in omega (arith, most, below, small)

-- each is a digit
pub hex_at : (c n i : ℕ) → i < c → (d : ℕ) × (d < 16) × (get_or (hex_digits c n) i 0 ≡ hex_digit d)
unfolding hex_digits
hex_at zero n i h = absurd (omega (arith, h))
hex_at (suc c) n i h = ⊎_elim
    (λ front. let before = hex_at c (n / 16) i front in (before.0, before.1, get_or_append_left (hex_digits c (n / 16)) (hex_digit (n % 16) ∷ []) 0 i (omega (arith, front, hex_count c (n / 16))) ∙ before.2))
    (λ last. (n % 16, omega arith, get_or_push (hex_digits c (n / 16)) (hex_digit (n % 16)) 0 i (sym (at_end last))))
    (cases_lt i c)
  where
    at_end : c ≤ i → i ≡ length (hex_digits c (n / 16))
    at_end last = let count = hex_count c (n / 16) in omega (arith, last, h, count)

hex_digit_above : (d : ℕ) → 48 ≤ hex_digit d
hex_digit_above d = go (nat_lt d 10)
  where
    go : (b : Bool) → 48 ≤ (if b then 48 + d else 87 + d)
    go true = omega arith
    go false = omega arith

pub hex_lacks : (byte c n : ℕ) → byte < 48 → Lacks byte (hex_digits c n)
hex_lacks byte c n low i h same =
    let digit = hex_at c n i (omega (arith, h, hex_count c n)) in
    let above = hex_digit_above digit.0 in
    absurd (omega (arith, low, above, digit.2, same))

-- no digits
pub hex_none : (n : ℕ) → hex_digits 0 n ≡ []
unfolding hex_digits
hex_none n = refl

-- the digits tell the number
hex_value : (d : ℕ) → ((d < 10) × (hex_digit d ≡ 48 + d)) ⊎ ((10 ≤ d) × (hex_digit d ≡ 87 + d))
hex_value d = ⊎_elim
    (λ low. inl (low, ap (λ b. if b then 48 + d else 87 + d) (lt-ltb d 10 low)))
    (λ high. inr (high, ap (λ b. if b then 48 + d else 87 + d) (le-ltb d 10 high)))
    (cases_lt d 10)

digit_apart : (a b : ℕ) → a < 16 → b < 16 → hex_digit a ≡ hex_digit b → a ≡ b
digit_apart a b p q e = ⊎_elim
    (λ x. ⊎_elim (λ y. omega (arith, x.1, y.1, e)) (λ y. absurd (omega (arith, x, y, e))) (hex_value b))
    (λ x. ⊎_elim (λ y. absurd (omega (arith, x, y, e))) (λ y. omega (arith, x.1, y.1, e)) (hex_value b))
    (hex_value a)

hex_apart : (c m n : ℕ) → m < 16 ^ c → n < 16 ^ c → hex_digits c m ≡ hex_digits c n → m ≡ n
unfolding hex_digits
hex_apart zero m n p q e = omega (arith, p, q)
hex_apart (suc c) m n p q e =
    let same = same_from_push (hex_digits c (m / 16)) (hex_digits c (n / 16)) (hex_digit (m % 16)) (hex_digit (n % 16)) e in
    let high : m / 16 ≡ n / 16 = hex_apart c (m / 16) (n / 16) (omega (arith, p, pow-suc 16 c)) (omega (arith, q, pow-suc 16 c)) same.0 in
    let low : m % 16 ≡ n % 16 = digit_apart (m % 16) (n % 16) (omega arith) (omega arith) same.1 in
    omega (arith, high, low)

pub hex_injective : (m n : ℕ) → m < 2 ^ 64 → n < 2 ^ 64 → hex_digits 16 m ≡ hex_digits 16 n → m ≡ n
hex_injective m n p q e = hex_apart 16 m n p q e
