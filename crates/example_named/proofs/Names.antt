-- A map by words, and what it has for texts.
use Rattle.std.proofs.Common.{◌≡◌, ◌≢◌, ◌==◌, ℕ, Bool, true, false, cond, List, [], ◌∷◌, Option, Some, None, IsSome, refl, sym, ap, subst, ◌∙◌}
use borrow.Author.Tests.{eqb-true}
use Rattle.std.specs.List.{All}
use Rattle.std.specs.Map.{keys_of, lookup_key}
use Rattle.std.specs.HashMap.{HashMap, PutsEntry, keys}
use Rattle.std.proofs.lemmas.List.Elements.{All-cons, All-head, All-tail}
use Rattle.std.proofs.lemmas.Map.Made.{lookup_key_passes}
use Rattle.std.proofs.lemmas.Map.Views.{All-map-IsPermutation}
use Rattle.named_set.specs.Words.{HeldWord, AreOneToOne}
use Rattle.example_named.specs.Symbols.{Declared, HasOnly, IsFound, IsUndeclared, number_at}

-- what each key has, the key that is found has
found_has : {K X : Type 0} (P : K → Type 0) (test : K → Bool) (es : List (K × X)) (k : K) → All P (keys_of es) → lookup_key test es ≡ Some k → P k
found_has P test [] k all found = absurd (cc found)
found_has P test (e ∷ es) k all found = by (test e.0) (found_has P test es k (All-tail P e.0 (keys_of es) all)) found
  where
    by : (b : Bool) → (lookup_key test es ≡ Some k → P k) → cond b (Some e.0) (lookup_key test es) ≡ Some k → P k
    by true go is = let same : e.0 ≡ k = cc is in subst P same (All-head P e.0 (keys_of es) all)
    by false go is = go is

-- a word that is found has the text of a name
pub found_is_declared : (declared : Declared) (name key : HeldWord) → lookup_key (λ (k : HeldWord). name.word == k.word) declared ≡ Some key → AreOneToOne key.word name.word key.text name.text → IsUndeclared declared name.text → ⊥
found_is_declared declared name key found agree none =
    let passes : (name.word == key.word) ≡ true = lookup_key_passes (λ (k : HeldWord). name.word == k.word) declared key found in
    found_has (λ (k : HeldWord). k.text ≢ name.text) (λ (k : HeldWord). name.word == k.word) declared key none found (agree.0 (sym (eqb-true name.word key.word passes)))

-- no name has a text that none had, but that of the name which was put there
pub still_undeclared : {S : Type 0} (m n : HashMap HeldWord ℕ S) (name : HeldWord) (number : ℕ) (old : Option ℕ) (text : List ℕ) → PutsEntry (λ (a b : HeldWord). a.word == b.word) m n name number old → (IsSome old → keys n ≡ keys m)
    → text ≢ name.text → IsUndeclared m.entries text → IsUndeclared n.entries text
still_undeclared m n name number None text puts stay other none =
    All-map-IsPermutation (λ (e : HeldWord × ℕ). e.0) (λ (k : HeldWord). k.text ≢ text) ((name, number) ∷ m.entries) n.entries puts
    (All-cons (λ (k : HeldWord). k.text ≢ text) name (keys_of m.entries) (λ same. other (sym same)) none)
still_undeclared m n name number (Some before) text puts stay other none = subst (λ (ks : List HeldWord). All (λ (k : HeldWord). k.text ≢ text) ks) (sym (stay refl)) none

-- what is found beside the only name
pub beside : (declared : Declared) (name asked : HeldWord) (number : Option ℕ) → AreOneToOne name.word asked.word name.text asked.text → number_at declared name.word ≡ number → HasOnly declared name.word → IsFound name.text number asked.text (number_at declared asked.word)
beside declared name asked number agree has only =
    ((λ same. ap (number_at declared) (sym (agree.1 (sym same))) ∙ has), (λ apart. only asked.word (λ same. apart (sym (agree.0 (sym same))))))
