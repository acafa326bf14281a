-- What a map says about a name.
use Rattle.std.specs.Prelude.{ℕ, List, Option}
use Rattle.std.specs.Map.{lookup}
use Rattle.std.specs.Str.{bytes_eq}
use Rattle.string_cache.specs.AtomValue.{AtomValue}

-- the price under a name, among entries whose keys are atoms
abbrev pub price_in : List (AtomValue × ℕ) → List ℕ → Option ℕ
price_in entries name = lookup (λ key. bytes_eq name key.text) entries
