-- From the search to the tables of a list, or to none.
use Rattle.std.proofs.Common.{◌≡◌, ◌≢◌, ℕ, ◌+◌, ◌*◌, ◌%◌, ◌^◌, ◌<◌, ◌≤◌, ◌⊎◌, min, zero, suc, List, [], ◌∷◌, length, map, get_or, sym, refl, ap, ◌∙◌, arith, subst}
use mathlib.Core.Logic.{⊎_elim}
use Rattle.std.specs.List.{All, AllPairs, Contains}
use Rattle.std.specs.List.Sorted.{IsPermutation}
use Rattle.std.proofs.lemmas.List.{get_or-map, get_or_default, length-map}
use Rattle.std.proofs.lemmas.List.Sorted.{All-permutation, IsPermutation-map, IsPermutation-trans, length_permutation}
use Rattle.std.proofs.lemmas.Map.Made.{AllPairs-from_IsDistinct}
use Rattle.std.proofs.lemmas.Nat.{mod_below, mul-mod_second}
use Rattle.std.proofs.lemmas.Nat.Gcd.{dvd_of_mod-eq-zero}
use Rattle.std.proofs.Math.Nat.{add-mod, mod-mod, mod-mod_of_dvd, mod-le, mod-one}
use Rattle.text_forms.specs.declared.phf.Hashes.{Hashes}
use Rattle.text_forms.specs.Phf.{hashes_of, place_of}
use Rattle.text_forms.specs.Tables as core
use Rattle.table_generator.specs.Assembled.{Assembles}
use Rattle.table_generator.specs.Generated.{HasFeed, IsTablesOf, IsUnplaceable, pairs_for}
use Rattle.table_generator.specs.Places.{AreApart, place_by}
use Rattle.table_generator.specs.TableText.{table_text, HasNoFeed, SpellsPerfectTables}
use Rattle.table_generator.proofs.Placing.{differ_permuted, eqb_decides, map_map, map_same, pairs_map}

-- tables of the texts in some order are tables of the texts
pub tables_made : (texts ordered : List (List ℕ)) (key bound tried : ℕ) (disps : List (ℕ × ℕ)) (t : core.Tables) → IsPermutation texts ordered → Assembles key disps ordered t
    → length disps ≡ pairs_for (length texts) → tried ≤ bound → All (λ pair. (pair.0 < tried) × (pair.1 < tried)) disps → IsTablesOf texts key bound t
tables_made texts ordered key bound tried disps t order made count most small = record {
  key_is = made.key_is;
  listed = IsPermutation-trans texts ordered t.atoms order made.listed;
  displaced = ap length made.disps_are ∙ count;
  bounded = subst (All (λ pair. (pair.0 < bound) × (pair.1 < bound))) (sym made.disps_are) (λ k d h. let low = small k d h in (omega (arith, low.0, most), omega (arith, low.1, most)));
  hashed = made.hashed;
  perfect = made.perfect;
}

-- ---- displacements that need not be tried

-- where the number of up to five texts isn't 3 or 5 it divides 2^32, and a rest modulo it is below the lesser of it and the bound
pub rest_reached : (n bound tried : ℕ) → 1 ≤ n → n ≢ 3 → n ≢ 5 → n ≤ 5 → tried ≡ min bound n → (2 ^ 32 % n ≡ 0) × ((d : ℕ) → d < bound → d % n < tried)
rest_reached n bound tried some three five few is = (divides n some three five few, λ d h. let low = mod-le d n in let high = mod_below d n some in omega (arith, is, low, high, h))
  where
    divides : (n : ℕ) → 1 ≤ n → n ≢ 3 → n ≢ 5 → n ≤ 5 → 2 ^ 32 % n ≡ 0
    divides zero some three five few = absurd (omega (arith, some))
    divides (suc zero) some three five few = refl
    divides (suc (suc zero)) some three five few = refl
    divides (suc (suc (suc zero))) some three five few = absurd (three refl)
    divides (suc (suc (suc (suc zero)))) some three five few = refl
    divides (suc (suc (suc (suc (suc zero))))) some three five few = absurd (five refl)
    divides (suc (suc (suc (suc (suc (suc n)))))) some three five few = absurd (omega (arith, few))

same_sums : (n a b c d : ℕ) → a % n ≡ b % n → c % n ≡ d % n → (a + c) % n ≡ (b + d) % n
same_sums n a b c d p q = add-mod a c n ∙ ap (λ x. (x + c % n) % n) p ∙ ap (λ x. (b % n + x) % n) q ∙ sym (add-mod b d n)

-- a displacement and its rest modulo the number of texts give one place, where that divides 2^32
place_rest : (n d1 d2 : ℕ) (h : Hashes) → 2 ^ 32 % n ≡ 0 → place_by n (d1, d2) h ≡ place_by n (d1 % n, d2 % n) h
place_rest n d1 d2 h divides =
    let whole : (a : ℕ) → a % 2 ^ 32 % n ≡ a % n = λ a. mod-mod_of_dvd n a (dvd_of_mod-eq-zero n divides) in
    let product : (h.f1 * d1) % n ≡ (h.f1 * (d1 % n)) % n = sym (mul-mod_second h.f1 d1 n) in
    let first : (d2 + h.f1 * d1) % n ≡ (d2 % n + h.f1 * (d1 % n)) % n = same_sums n d2 (d2 % n) (h.f1 * d1) (h.f1 * (d1 % n)) (sym (mod-mod d2 n)) product in
    whole (d2 + h.f1 * d1 + h.f2) ∙ same_sums n (d2 + h.f1 * d1) (d2 % n + h.f1 * (d1 % n)) h.f2 h.f2 first refl ∙ sym (whole (d2 % n + h.f1 * (d1 % n) + h.f2))

-- with one pair of displacements each text is placed by it
one_place : (n d1 d2 : ℕ) (h : Hashes) → place_of h ((d1, d2) ∷ []) n ≡ place_by n (d1, d2) h
one_place n d1 d2 h = ap at (mod-one h.g)
  where
    at : ℕ → ℕ
    at k = let pair : ℕ × ℕ = get_or {A = ℕ × ℕ} ((d1, d2) ∷ []) k (0, 0) in (pair.1 + h.f1 * pair.0 + h.f2) % 2 ^ 32 % n

apart_rest : (n d1 d2 : ℕ) (hashes : List Hashes) → 2 ^ 32 % n ≡ 0 → AreApart ((d1, d2) ∷ []) n hashes → AreApart ((d1 % n, d2 % n) ∷ []) n hashes
apart_rest n d1 d2 hashes divides apart i j d low h same =
    let rest : (x : Hashes) → place_of x ((d1, d2) ∷ []) n ≡ place_of x ((d1 % n, d2 % n) ∷ []) n =
    λ x. one_place n d1 d2 x ∙ place_rest n d1 d2 x divides ∙ sym (one_place n (d1 % n) (d2 % n) x) in
    apart i j d low h (rest (get_or hashes i d) ∙ same ∙ sym (rest (get_or hashes j d)))

-- ---- the order of the texts doesn't matter

apart_permuted : (disps : List (ℕ × ℕ)) (n : ℕ) (xs ys : List Hashes) → IsPermutation xs ys → AreApart disps n xs → AreApart disps n ys
apart_permuted disps n xs ys moved apart i j d low h =
    let place : Hashes → ℕ = λ x. place_of x disps n in
    let differ : AllPairs (λ x y. x ≢ y) (map place ys) =
    AllPairs-from_IsDistinct eqb_decides (map place ys) (differ_permuted (map place xs) (map place ys) (IsPermutation-map place xs ys moved) (pairs_map (λ x y. x ≢ y) place xs apart)) in
    let many = length-map ys place in
    λ same. differ i j (place d) low (omega (arith, h, many)) (get_or-map place ys i d (place d) (omega arith) ∙ same ∙ sym (get_or-map place ys j d (place d) h))

-- ---- no tables

pub none_placeable : {X : Type 0} (text : X → List ℕ) (hashes : X → Hashes) (items : List X) (texts : List (List ℕ)) (key bound tried : ℕ)
    → IsPermutation texts (map text items) → All (λ x. hashes x ≡ hashes_of (text x) key) items
    → (tried ≡ bound) ⊎ ((2 ^ 32 % length texts ≡ 0) × ((d : ℕ) → d < bound → d % length texts < tried))
    → ((d1 d2 : ℕ) → d1 < tried → d2 < tried → AreApart ((d1, d2) ∷ []) (length (map hashes items)) (map hashes items) → ⊥)
    → IsUnplaceable texts key bound
none_placeable text hashes items texts key bound tried order hashed reached none d1 d2 p q apart =
    let n = length texts in
    let by_text : List ℕ → Hashes = λ t. hashes_of t key in
    let read : map by_text (map text items) ≡ map hashes items = map_map by_text text items ∙ sym (map_same hashes (λ x. by_text (text x)) items hashed) in
    let many : length (map hashes items) ≡ n = length-map items hashes ∙ sym (length-map items text) ∙ length_permutation texts (map text items) order in
    let moved : IsPermutation (map by_text texts) (map hashes items) = subst (IsPermutation (map by_text texts)) read (IsPermutation-map by_text texts (map text items) order) in
    let refused : (e1 e2 : ℕ) → e1 < tried → e2 < tried → AreApart ((e1, e2) ∷ []) n (map hashes items) → ⊥ =
    λ e1 e2 r s a. none e1 e2 r s (subst (λ m. AreApart ((e1, e2) ∷ []) m (map hashes items)) (sym many) a) in
    ⊎_elim
    (λ all. refused d1 d2 (omega (arith, p, all)) (omega (arith, q, all)) (apart_permuted ((d1, d2) ∷ []) n (map by_text texts) (map hashes items) moved apart))
    (λ rest. refused (d1 % n) (d2 % n) (rest.1 d1 p) (rest.1 d2 q) (apart_rest n d1 d2 (map hashes items) rest.0 (apart_permuted ((d1, d2) ∷ []) n (map by_text texts) (map hashes items) moved apart)))
    reached

-- ---- what tables print

no_feed_listed : (texts : List (List ℕ)) → (HasFeed texts → ⊥) → All HasNoFeed texts
no_feed_listed texts none k d h i e below same =
    let text = get_or texts k d in
    none (k, h, subst (λ t. Contains t 10) (get_or_default texts k d [] h) (contains_at text i e below same))
  where
    contains_at : (text : List ℕ) (i e : ℕ) → i < length text → get_or text i e ≡ 10 → Contains text 10
    contains_at text i e below same = (i, below, get_or_default text i 10 e below ∙ same)

pub printed_tables : (texts : List (List ℕ)) (key bound : ℕ) (t : core.Tables) → (HasFeed texts → ⊥) → key < 2 ^ 64 → bound < 2 ^ 32 → IsTablesOf texts key bound t → All (λ hash. hash < 2 ^ 64) t.hashes
    → SpellsPerfectTables (table_text t)
printed_tables texts key bound t none small_key small_bound made small = (
  t,
  (
    record {
      key = omega (arith, made.key_is, small_key);
      displaced = made.perfect.usable.displaced;
      displacements = λ k d h. let low = made.bounded k d h in (omega (arith, low.0, small_bound), omega (arith, low.1, small_bound));
      listed = made.perfect.usable.listed;
      texts = All-permutation HasNoFeed texts t.atoms made.listed (no_feed_listed texts none);
      hashed = made.perfect.usable.hashed;
      hashes = small;
    },
    refl,
  ),
  made.perfect,
)
