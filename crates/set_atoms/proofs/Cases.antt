-- Texts put into a case.
use Rattle.std.proofs.Common.{◌≡◌, ℕ, ◌<◌, ◌≤◌, List, [], ◌∷◌, map, get_or, true, Result, Ok, Err, IfOk, All, sym, ◌∙◌, subst, arith, ⊎_elim}
use Rattle.std.proofs.lemmas.Bool.{and_parts, cases_lt}
use Rattle.std.proofs.lemmas.List.{append-nil, get_or_default, map-append}
use Rattle.std.proofs.lemmas.List.Folds.{map_fixed}
use Rattle.std.proofs.lemmas.Simd.{map-map}
use Rattle.std.proofs.lemmas.Str.{IsUtf8-append, IsUtf8-encode, IsUtf8-from_ascii, IsUtf8-nil, encode_ascii, inside_one}
use Rattle.std.proofs.lemmas.Str.Ascii.{IsAscii-cons, IsAscii-nil, lowercase-lowercase, lowercase_ascii, lowercase_is, uppercase-uppercase, uppercase_ascii, uppercase_is}
use Rattle.std.specs.Char.{IsScalar, encode_utf8, to_ascii_lowercase, to_ascii_uppercase}
use Rattle.std.specs.Str.{IsUtf8, all_scalars, encode_utf8_all}
use Rattle.text_forms.specs.declared.faults.Fault.{Fault}
use Rattle.set_atoms.specs.Case.{in_case}
use Rattle.set_atoms.specs.declared.atom.case.Case.{Case}
use Rattle.set_atoms.specs.declared.atom.case.Case.TheVariants.{Upper, Lower}

-- a function of bytes that changes ASCII bytes alone, to ASCII bytes, leaves a text as UTF-8
module _ (f : ℕ → ℕ) (low : (b : ℕ) → b < 128 → f b < 128) (high : (b : ℕ) → 128 ≤ b → f b ≡ b) where
  one : (c : ℕ) → c < 128 → IsUtf8 (map f (encode_utf8 c))
  one c below = subst (λ bs. IsUtf8 (map f bs)) (sym (encode_ascii c below)) (IsUtf8-from_ascii (f c ∷ []) (IsAscii-cons (f c) [] (low c below) IsAscii-nil))

  wide : (c : ℕ) → 128 ≤ c → All (λ b. f b ≡ b) (encode_utf8 c)
  wide c above k d below =
      let bs : List ℕ = encode_utf8 c in
      let same : get_or bs k d ≡ get_or bs k 0 = get_or_default bs k d 0 below in
      let big : ¬ (get_or bs k d < 128) = λ small. let is : c ≡ get_or bs k 0 = inside_one c [] bs k (sym (append-nil bs)) below (omega (arith, same, small)) in omega (arith, is, same, small, above) in
      high (get_or bs k d) (omega (arith, big))

  character : (c : ℕ) → IsScalar c → IsUtf8 (map f (encode_utf8 c))
  character c scalar = ⊎_elim (one c) (λ above. subst IsUtf8 (sym (map_fixed f (encode_utf8 c) (wide c above))) (IsUtf8-encode c scalar)) (cases_lt c 128)

  characters : (cs : List ℕ) → all_scalars cs ≡ true → IsUtf8 (map f (encode_utf8_all cs))
  characters [] scalars = IsUtf8-nil
  characters (c ∷ cs) scalars =
      let both = and_parts _ _ scalars in
      subst IsUtf8 (sym (map-append f (encode_utf8 c) (encode_utf8_all cs))) (IsUtf8-append _ _ (character c both.0) (characters cs both.1))

  changed : (bs : List ℕ) → IsUtf8 bs → IsUtf8 (map f bs)
  changed bs utf8 = subst (λ bs. IsUtf8 (map f bs)) utf8.1.1 (characters utf8.0 utf8.1.0)

-- a text stays UTF-8
pub in_case_utf8 : (to : Case) (text found : List ℕ) → found ≡ in_case to text → IsUtf8 text → IsUtf8 found
in_case_utf8 Upper text found is utf8 = subst IsUtf8 (sym is) (changed to_ascii_uppercase uppercase_ascii (λ b above. (uppercase_is b).2 (omega (arith, above))) text utf8)
in_case_utf8 Lower text found is utf8 = subst IsUtf8 (sym is) (changed to_ascii_lowercase lowercase_ascii (λ b above. (lowercase_is b).2 (omega (arith, above))) text utf8)

map_twice : (f : ℕ → ℕ) → ((b : ℕ) → f (f b) ≡ f b) → (text : List ℕ) → map f (map f text) ≡ map f text
map_twice f once text = map-map f f text ∙ (λ i. map (λ b. once b i) text)

-- a text in a case stays as it is
in_case_twice : (to : Case) (text : List ℕ) → in_case to (in_case to text) ≡ in_case to text
in_case_twice Upper text = map_twice to_ascii_uppercase uppercase-uppercase text
in_case_twice Lower text = map_twice to_ascii_lowercase lowercase-lowercase text

-- what has its text in a case has it so again
pub again_where_ok : {A : Type 0} (text_of : A → List ℕ) (to : Case) (text : List ℕ) (r : Result A Fault) → IfOk r (λ atom. text_of atom ≡ in_case to text)
    → IfOk r (λ atom. in_case to (text_of atom) ≡ text_of atom)
again_where_ok text_of to text (Ok atom) is = subst (λ found. in_case to found ≡ found) (sym is) (in_case_twice to text)
again_where_ok text_of to text (Err fault) is = tt
