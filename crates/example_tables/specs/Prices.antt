-- What a map whose keys are words says about a name.
use Rattle.std.specs.Prelude.{◌≡◌, ℕ, ◌⊎◌, List, Option, None, nat_eq}
use Rattle.std.specs.Map.{lookup}
use Rattle.interner_table.specs.Map.{InternMap}
use Rattle.interner_table.specs.Table.{HasWord}
use Rattle.interner_table.specs.Tables.{Tables}

-- the price under the name's word; None for a name that has no word
abbrev pub IsPriceOf : Tables → InternMap → List (ℕ × ℕ) → List ℕ → Option ℕ → Type 0
IsPriceOf t m prices name price =
    ((word : ℕ) × HasWord t m name word × (price ≡ lookup (nat_eq word) prices))
    ⊎ (((word : ℕ) → ¬ (HasWord t m name word)) × (price ≡ None))
