-- The words of a text: its chunks, and its last word.
use Rattle.std.proofs.Common.{◌≡◌, ℕ, zero, suc, ◌+◌, ◌-◌, ◌*◌, ◌/◌, ◌^◌, ◌<◌, ◌≤◌, List, [], ◌∷◌, ◌++◌, length, take, drop, get_or, refl, sym, ap, ◌∙◌, arith, fold, map, length-append, length-drop, length-take, add-one}
use Rattle.std.proofs.Math.ListN.{replicate, set, length-set}
use Rattle.std.proofs.lemmas.List.{drop-replicate, get_or-append_right, get_or-replicate}
use Rattle.std.proofs.lemmas.List.Folds.{fold-map}
use Rattle.std.proofs.lemmas.List.Sums.{fold_more}
use Rattle.std.specs.Int.{w64, from_le_bytes}
use Rattle.std.proofs.Math.Nat.{div-div-eq-div-mul}
use Rattle.std.proofs.lemmas.Nat.{pow-add}
use Rattle.std.specs.Simd.{first_chunks}
use Rattle.text_forms.specs.Word.{bytes_value}
use Rattle.text_forms.proofs.words.BytesValue.{bytes_value-cons, bytes_value-append_zeros, from_le_bytes-bytes_value, scaled}

-- each chunk has eight bytes
pub chunk_length : (k : ℕ) (xs : List ℕ) (i : ℕ) (d : List ℕ) → k * 8 ≤ length xs → i < k → length (get_or (first_chunks 8 k xs) i d) ≡ 8
chunk_length zero xs i d fits below = absurd (omega arith)
chunk_length (suc k) xs zero d fits below = omega (arith, length-take 8 xs)
chunk_length (suc k) xs (suc i) d fits below = chunk_length k (drop 8 xs) i d (omega (arith, length-drop 8 xs)) (omega arith)

-- one more word
pub word_more : {S : Type 0} (f : S → ℕ → S) (s t : S) (words : List (List ℕ)) (i : ℕ) (d : List ℕ) (word : ℕ)
    → s ≡ fold f t (map bytes_value (take i words)) → i < length words → word ≡ bytes_value (get_or words i d)
    → f s word ≡ fold f t (map bytes_value (take (i + 1) words))
word_more f s t words i d word so_far below is =
    (λ j. f ((so_far ∙ fold-map f bytes_value t (take i words)) j) (is j))
    ∙ sym (fold_more (λ u x. f u (bytes_value x)) t words i d below)
    ∙ sym (fold-map f bytes_value t (take (i + 1) words))

pub fold-append_one : {S : Type 0} (f : S → ℕ → S) (t : S) (xs : List ℕ) (x : ℕ) → fold f t (xs ++ x ∷ []) ≡ f (fold f t xs) x
fold-append_one f t [] x = refl
fold-append_one f t (y ∷ xs) x = fold-append_one f (f t y) xs x

-- a byte written over a zero
bytes_value-set : (xs : List ℕ) (i v : ℕ) → i < length xs → get_or xs i 0 ≡ 0 → bytes_value (set xs i v) ≡ bytes_value xs + v * 256 ^ i
bytes_value-set [] i v below zeroed = absurd (omega arith)
bytes_value-set (x ∷ xs) zero v below zeroed = omega (arith, bytes_value-cons v xs, bytes_value-cons x xs)
bytes_value-set (x ∷ xs) (suc i) v below zeroed =
    let rest = bytes_value-set xs i v (omega arith) zeroed in
    let power : v * 256 ^ suc i ≡ 256 * (v * 256 ^ i) = ap (λ n. v * 256 ^ n) (sym (add-one i)) ∙ scaled v i in
    omega (arith, bytes_value-cons x xs, bytes_value-cons x (set xs i v))

-- the last word: the rest, zeros, and the length in the top byte
pub last_word : (front rest : List ℕ) (k v : ℕ) → front ≡ rest → k ≡ length rest → length rest < 8
    → from_le_bytes w64 (set (front ++ drop k (replicate 8 0)) 7 v) ≡ bytes_value rest + v * 2 ^ 56
last_word front rest k v same gone short =
    let zeros : drop k (replicate {A = ℕ} 8 0) ≡ replicate (8 - k) 0 = drop-replicate k 8 0 in
    let bytes = front ++ drop k (replicate {A = ℕ} 8 0) in
    let is : bytes ≡ rest ++ replicate (8 - k) 0 = (λ j. same j ++ zeros j) in
    let size : length bytes ≡ 8 = simp (same, length-append, length-drop) (omega arith) in
    let top : get_or bytes 7 0 ≡ 0 = ap (λ xs. get_or xs 7 0) is ∙ get_or-append_right rest (replicate (8 - k) 0) k 7 0 (sym gone) (omega arith) ∙ get_or-replicate (8 - k) (7 - k) 0 0 (omega arith) in
    let read = from_le_bytes-bytes_value (set bytes 7 v) (length-set bytes 7 v ∙ size) in
    let written = bytes_value-set bytes 7 v (omega arith) top in
    let value : bytes_value bytes ≡ bytes_value rest = ap bytes_value is ∙ bytes_value-append_zeros rest (8 - k) in
    omega arith

-- so many bytes are eight times as many bits
pow_bytes : (k : ℕ) → 2 ^ (8 * k) ≡ 256 ^ k
pow_bytes zero = refl
pow_bytes (suc k) =
    let more : 8 * suc k ≡ 8 * k + 8 = omega arith in
    let split : 2 ^ (8 * k + 8) ≡ 2 ^ (8 * k) * 2 ^ 8 = pow-add 2 (8 * k) 8 in
    let whole : 256 ^ (k + 1) ≡ 256 ^ k * 256 ^ 1 = pow-add 256 k 1 in
    let so_far = pow_bytes k in
    ap (λ n. 2 ^ n) more ∙ split ∙ omega arith ∙ sym whole ∙ ap (λ n. 256 ^ n) (add-one k)

-- the low bytes are divided away
bytes_value-drop : (k : ℕ) (xs : List ℕ) → k ≤ length xs → ((i : ℕ) → get_or xs i 0 < 256) → bytes_value xs / 256 ^ k ≡ bytes_value (drop k xs)
bytes_value-drop zero xs fits low = omega arith
bytes_value-drop (suc k) [] fits low = absurd (omega arith)
bytes_value-drop (suc k) (x ∷ xs) fits low =
    let head = bytes_value-cons x xs in
    let below : x < 256 = low 0 in
    let one : bytes_value (x ∷ xs) / 256 ≡ bytes_value xs = omega arith in
    let rest : bytes_value xs / 256 ^ k ≡ bytes_value (drop k xs) = bytes_value-drop k xs (omega arith) (λ i. low (suc i)) in
    let order : suc k ≡ 1 + k = omega arith in
    let power : 256 ^ suc k ≡ 256 ^ 1 * 256 ^ k = ap (λ n. 256 ^ n) order ∙ pow-add 256 1 k in
    ap (λ n. bytes_value (x ∷ xs) / n) power ∙ sym (div-div-eq-div-mul (bytes_value (x ∷ xs)) 256 (256 ^ k)) ∙ ap (λ n. n / 256 ^ k) one ∙ rest

-- eight bytes without those that are gone
pub tail_value : (bytes : List ℕ) (gone : ℕ) → length bytes ≡ 8 → 1 ≤ gone → gone ≤ 8 → ((i : ℕ) → get_or bytes i 0 < 256) → from_le_bytes w64 bytes / 2 ^ (8 * gone - 8) / 256 ≡ bytes_value (drop gone bytes)
tail_value bytes zero size least most low = absurd (omega arith)
tail_value bytes (suc k) size least most low =
    let by : 8 * suc k - 8 ≡ 8 * k = omega arith in
    let read = from_le_bytes-bytes_value bytes size in
    let power : 256 ^ (k + 1) ≡ 256 ^ k * 256 ^ 1 = pow-add 256 k 1 in
    (λ j. read j / 2 ^ by j / 256) ∙ ap (λ n. bytes_value bytes / n / 256) (pow_bytes k) ∙ div-div-eq-div-mul (bytes_value bytes) (256 ^ k) 256
    ∙ ap (λ n. bytes_value bytes / n) (sym power ∙ ap (λ n. 256 ^ n) (add-one k)) ∙ bytes_value-drop (suc k) bytes (omega arith) low
