-- Texts in a list of texts where they lie.
use Rattle.std.proofs.Common.{◌≡◌, ℕ, ◌<◌, zero, suc, eq-eqb, Bool, true, false, List, [], ◌∷◌, length, get_or, take, sym, refl, ap, ◌∙◌, arith}
use Rattle.std.proofs.lemmas.Bool.{false≢true}
use Rattle.std.proofs.lemmas.List.{get_or-take, get_or-map}
use denote.Ref.{Bor}
use Rattle.std.specs.Str.{bytes_eq}
use Rattle.std.specs.Cmp.Lexicographic.{bytes_decides}
use Rattle.std.specs.List.{Contains, list_any}
use Rattle.std.specs.Prelude.{◌||◌}
use lib.Dec.{eqb}
use Rattle.table_generator.specs.Generated.{texts_of}

-- the text at a place of a list of texts where they lie
pub text_of : (list : List (Bor (List ℕ))) (i : ℕ) (d : Bor (List ℕ)) → i < length list → get_or (texts_of list) i [] ≡ (get_or list i d).now
text_of list i d below = get_or-map (λ (text : Bor (List ℕ)). text.now) list i d [] below

module _ (xs : List (Bor (List ℕ))) (i j : ℕ) (d e : Bor (List ℕ)) (low : j < i) (here : i < length xs) where
  earlier_text : (get_or (take i xs) j d).now ≡ get_or (texts_of xs) j []
  earlier_text = ap (λ (text : Bor (List ℕ)). text.now) (get_or-take i xs j d low) ∙ sym (text_of xs j d (omega (arith, low, here)))

  pub texts_same : bytes_eq (get_or (take i xs) j d).now (get_or xs i e).now ≡ true → get_or (texts_of xs) j [] ≡ get_or (texts_of xs) i []
  texts_same b = sym earlier_text ∙ (bytes_decides (get_or (take i xs) j d).now (get_or xs i e).now).0 b ∙ sym (text_of xs i e here)

  pub texts_differ : bytes_eq (get_or (take i xs) j d).now (get_or xs i e).now ≡ false → get_or (texts_of xs) j [] ≡ get_or (texts_of xs) i [] → ⊥
  texts_differ b same = false≢true (sym b ∙ (bytes_decides (get_or (take i xs) j d).now (get_or xs i e).now).1 (earlier_text ∙ same ∙ text_of xs i e here))

-- a byte that stands in a text is found
pub any_from_contains : (byte : ℕ) (xs : List ℕ) → Contains xs byte → list_any (λ y. eqb y byte) xs ≡ true
any_from_contains byte [] h = absurd (omega (arith, h.1))
any_from_contains byte (x ∷ xs) (zero, below, there) = let same : eqb x byte ≡ true = eq-eqb x byte there in rw same refl
any_from_contains byte (x ∷ xs) (suc k, below, there) = or_true (eqb x byte) (list_any (λ y. eqb y byte) xs) (any_from_contains byte xs (k, omega (arith, below), there))
  where
    or_true : (a b : Bool) → b ≡ true → (a || b) ≡ true
    or_true true b e = refl
    or_true false b e = e
