-- What `generate` and `check` write.
use Rattle.std.specs.Prelude.{◌≡◌, ℕ, ◌⊎◌, List, codes}
use Rattle.string_cache.specs.Tables.{Tables}
use Rattle.table_generator.specs.Generated.{IsTablesOf}
use Rattle.table_generator.specs.TableText.{table_text, SpellsPerfectTables}
use Rattle.replay_script.specs.Script.{script_lines}

-- the output is the printed form of tables of the text's lines
abbrev pub IsTableOutput : ℕ → ℕ → List ℕ → List ℕ → Type 0
IsTableOutput key bound text output = (t : Tables) × IsTablesOf (script_lines text) key bound t × (output ≡ table_text t)

-- the answer's line: whether the text is the printed form of perfect tables
abbrev pub IsAnswer : List ℕ → List ℕ → Type 0
IsAnswer text output = (SpellsPerfectTables text × (output ≡ codes "yes\n")) ⊎ ((SpellsPerfectTables text → ⊥) × (output ≡ codes "no\n"))
