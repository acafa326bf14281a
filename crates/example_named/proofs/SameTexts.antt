-- Texts that are all one.
use Rattle.std.proofs.Common.{◌≡◌, ◌↔◌, ℕ, Bool, List, [], ◌∷◌, map, IsTrue, refl, sym, subst}
use Rattle.std.specs.List.{All, AllZip}
use Rattle.std.proofs.lemmas.List.Elements.{All-nil, All-cons, All-head, All-tail, All-map}
use Rattle.example_named.specs.Texts.{AreOneText}

-- words of the texts have the texts
pub same_texts : {A B : Type 0} (f : A → List ℕ) (g : B → List ℕ) (texts : List B) (words : List A) → AllZip (λ t w. f w ≡ g t) texts words → map f words ≡ map g texts
same_texts f g [] [] all = refl
same_texts f g [] (w ∷ words) all = absurd all
same_texts f g (t ∷ texts) [] all = absurd all
same_texts f g (t ∷ texts) (w ∷ words) all =
    let first : f w ≡ g t = all.0 in
    let rest : map f words ≡ map g texts = same_texts f g texts words all.1 in
    cc (first, rest)

all_back : {A : Type 0} (f : A → List ℕ) (one : List ℕ) (words : List A) → All (λ (t : List ℕ). t ≡ one) (map f words) → All (λ (w : A). f w ≡ one) words
all_back {A} f one [] all = All-nil (λ (w : A). f w ≡ one)
all_back {A} f one (w ∷ words) all =
    All-cons (λ (v : A). f v ≡ one) w words (All-head (λ (t : List ℕ). t ≡ one) (f w) (map f words) all) (all_back f one words (All-tail (λ (t : List ℕ). t ≡ one) (f w) (map f words) all))

-- all have the text of the first
pub one_text : {A : Type 0} (f : A → List ℕ) (words rest : List A) (first : A) (same : Bool) → words ≡ first ∷ rest → (IsTrue same ↔ All (λ (w : A). f w ≡ f first) rest) → (IsTrue same ↔ AreOneText (map f words))
one_text {A} f words rest first same is told =
    subst (λ (ws : List A). IsTrue same ↔ AreOneText (map f ws)) (sym is)
    ((λ yes. All-map (λ (t : List ℕ). t ≡ f first) f rest (told.0 yes)), (λ all. told.1 (all_back f (f first) rest all)))
