-- Where a text is cut at a byte, it is cut in one way.
use Rattle.std.proofs.Common.{◌≡◌, ◌≢◌, ℕ, ◌<◌, List, [], ◌∷◌, ◌++◌, length, get_or, sym, refl, ap, ◌∙◌, arith, suc, zero, drop, length-append}
use Rattle.std.specs.Prelude.{None, Some}
use Rattle.std.specs.Str.Pattern.{FindsChar, SplitsAroundMatch}
use Rattle.std.proofs.lemmas.Str.Pattern.{split_parts, NoCharPasses-char}
use denote.Ref.{Bor}

module _ (byte : ℕ) where
  -- the byte isn't in the text
  abbrev pub Lacks : List ℕ → Type 0
  Lacks bs = (i : ℕ) → i < length bs → get_or bs i 0 ≢ byte

  -- the first place of the byte parts the text
  pub first_byte : (a b xs ys : List ℕ) → Lacks a → Lacks b → a ++ (byte ∷ xs) ≡ b ++ (byte ∷ ys) → (a ≡ b) × (xs ≡ ys)
  first_byte [] [] xs ys p q e = (refl, ap (drop 1) e)
  first_byte [] (y ∷ b) xs ys p q e = absurd (q 0 (omega arith) (sym (ap (λ v. get_or v 0 0) e)))
  first_byte (x ∷ a) [] xs ys p q e = absurd (p 0 (omega arith) (ap (λ v. get_or v 0 0) e))
  first_byte (x ∷ a) (y ∷ b) xs ys p q e =
      let more = first_byte a b xs ys (λ i h. p (suc i) (omega arith)) (λ i h. q (suc i) (omega arith)) (ap (drop 1) e) in
      let head : x ≡ y = ap (λ v. get_or v 0 0) e in
      (ap (λ v. v ∷ a) head ∙ ap (λ v. y ∷ v) more.0, more.1)

  -- a text that lacks the byte isn't cut
  pub no_cut : (bs a xs : List ℕ) → Lacks bs → bs ≢ a ++ (byte ∷ xs)
  no_cut bs a xs none e = none (length a) (omega (arith, ap length e, length-append a (byte ∷ xs))) (ap (λ v. get_or v (length a) 0) e ∙ at_byte a)
    where
      at_byte : (a : List ℕ) → get_or (a ++ (byte ∷ xs)) (length a) 0 ≡ byte
      at_byte [] = refl
      at_byte (x ∷ a) = at_byte a

  -- what stands before the byte, where the text lacks it there
  pub cut_before : (bs a xs b ys : List ℕ) → Lacks a → Lacks b → bs ≡ a ++ (byte ∷ xs) → bs ≡ b ++ (byte ∷ ys) → (a ≡ b) × (xs ≡ ys)
  cut_before bs a xs b ys p q d e = first_byte a b xs ys p q (sym d ∙ e)

  pub lacks_cons : (b : ℕ) (bs : List ℕ) → b ≢ byte → Lacks bs → Lacks (b ∷ bs)
  lacks_cons b bs other rest zero h = other
  lacks_cons b bs other rest (suc i) h = rest i (omega (arith, h))

  pub lacks_append : (a b : List ℕ) → Lacks a → Lacks b → Lacks (a ++ b)
  lacks_append [] b p q i h = q i h
  lacks_append (x ∷ a) b p q zero h = p 0 (omega arith)
  lacks_append (x ∷ a) b p q (suc i) h = lacks_append a b (λ j l. p (suc j) (omega (arith, l))) q i (omega (arith, h))

  -- what `split_once` answers
  pub not_found : (bs : List ℕ) → byte < 128 → FindsChar byte bs None → Lacks bs
  not_found bs ascii none i h = NoCharPasses-char byte bs i none ascii h

  pub found_first : (bs : List ℕ) (a b : Bor (List ℕ)) → byte < 128 → SplitsAroundMatch (FindsChar byte) bs a.now b.now → Lacks a.now × (bs ≡ a.now ++ (byte ∷ b.now))
  found_first bs a b ascii cut = let parts = split_parts byte bs (Some (a, b)) cut ascii in (parts.1, parts.0)
