-- Names that have words.
use Rattle.std.specs.Prelude.{ℕ, List}
use Rattle.std.specs.Borrow.{Bor}
use Rattle.std.specs.List.{All}
use Rattle.interner_table.specs.Map.{InternMap}
use Rattle.interner_table.specs.Table.{IsWordOf}
use Rattle.interner_table.specs.Tables.{Tables}

-- each of the names has a word
abbrev pub AreKnown : Tables → InternMap → List (Bor (List ℕ)) → Type 0
AreKnown t m names = All (λ name. (word : ℕ) × IsWordOf t m name.now word) names
