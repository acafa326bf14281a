-- What a map of symbols has for words, and for texts.
use Rattle.std.specs.Prelude.{◌≡◌, ◌≢◌, ◌==◌, ℕ, List, Option, None}
use Rattle.std.specs.List.{All}
use Rattle.std.specs.Map.{keys_of, lookup}
use Rattle.named_set.specs.Words.{HeldWord}

-- what is declared: names, as held words, and what each stands for
abbrev pub Declared : Type 0
Declared = List (HeldWord × ℕ)

-- what the word stands for
abbrev pub number_at : Declared → ℕ → Option ℕ
number_at declared word = lookup (λ (name : HeldWord). word == name.word) declared

-- no name has this text
abbrev pub IsUndeclared : Declared → List ℕ → Type 0
IsUndeclared declared text = All (λ (name : HeldWord). name.text ≢ text) (keys_of declared)

-- no other word stands for anything
abbrev pub HasOnly : Declared → ℕ → Type 0
HasOnly declared word = (other : ℕ) → other ≢ word → number_at declared other ≡ None

-- what is found for a text if only one text was declared, and stands for this: the same exactly if the two texts are the same
abbrev pub IsFound : List ℕ → Option ℕ → List ℕ → Option ℕ → Type 0
IsFound declared number asked found = (asked ≡ declared → found ≡ number) × (asked ≢ declared → found ≡ None)

-- What a reader of the map is told about a text: a word of it, and what that word stands for. If no name has the text, it stands for nothing.
abbrev pub IsTold : Declared → List ℕ → HeldWord → Option ℕ → Type 0
IsTold declared text name number = (name.text ≡ text) × (number ≡ number_at declared name.word) × (IsUndeclared declared text → number ≡ None)
