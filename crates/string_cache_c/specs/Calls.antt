-- What a call says about the table that C holds.
use Rattle.std.specs.Prelude.{◌≡◌, ℕ, ◌⊎◌, ◌<◌, ◌≤◌, ◌+◌, ◌-◌, ◌^◌, ◌++◌, ⊤, true, List, drop, length, min, Option, None, Some, Result}
use Rattle.std.specs.List.{sum_by}
use Rattle.std.specs.Str.{IsUtf8}
use Rattle.interner_table.specs.Kept.{Kept, map_of}
use Rattle.interner_table.specs.Memory.{IsMemory}
use Rattle.interner_table.specs.Outcomes.{Cloned, Given, Interned}
use Rattle.interner_table.specs.Table.{IsHeld, in_some}
use Rattle.interner_table.specs.Tables.{empty_tables}
use Rattle.text_forms.specs.declared.faults.Fault.{Fault}
use Rattle.string_cache_c.specs.Numbers.{IsReply, not_held, not_utf8, too_small}
use Rattle.string_cache_c.specs.declared.numbered_table.NumberedTable.{NumberedTable}

-- ---- the table in the handle

-- There is none, or P holds of it.
abbrev pub IfOpen : Option NumberedTable → (Kept → Type 0) → Type 0
IfOpen None P = ⊤
IfOpen (Some numbered) P = P numbered.table

-- There is none before and after, or one both times, and P holds of them.
abbrev pub Within : Option NumberedTable → Option NumberedTable → (Kept → Kept → Type 0) → Type 0
Within None None P = ⊤
Within None (Some new) P = ⊥
Within (Some old) None P = ⊥
Within (Some old) (Some new) P = P old.table new.table

-- ---- the calls

-- interning the text; or it isn't UTF-8, and nothing changes
abbrev pub InternsText : Kept → List ℕ → ℕ → ℕ → ℕ → Kept → Type 0
InternsText old text number before after new =
    (IsUtf8 text × (reply : Result ℕ Fault) × Interned empty_tables old text reply new × IsReply reply number before after)
    ⊎ ((number ≡ not_utf8) × ¬ (IsUtf8 text) × (after ≡ before) × (new ≡ old))

-- one more holder of the word; or it isn't held, and nothing changes
abbrev pub ClonesWord : Kept → ℕ → ℕ → Kept → Type 0
ClonesWord old word number new =
    (IsHeld empty_tables (map_of old) word × (reply : Result ℕ Fault) × Cloned empty_tables old word (in_some reply) new × IsReply reply number word word)
    ⊎ ((number ≡ not_held) × ¬ (IsHeld empty_tables (map_of old) word) × (new ≡ old))

-- one holder fewer of the word; or it isn't held, and nothing changes
abbrev pub GivesWord : Kept → ℕ → ℕ → Kept → Type 0
GivesWord old word number new =
    ((number ≡ 0) × Given empty_tables old word true new)
    ⊎ ((number ≡ not_held) × ¬ (IsHeld empty_tables (map_of old) word) × (new ≡ old))

-- The text is at the front of the room if it has place there; its length is told in both cases.
abbrev pub CopiesText : List ℕ → ℕ → List ℕ → List ℕ → ℕ → Type 0
CopiesText text number before after len =
    (len ≡ length text)
    × (((length text ≤ length before) × (number ≡ 0) × (after ≡ text ++ drop (length text) before))
    ⊎ ((length before < length text) × (number ≡ too_small) × (after ≡ before)))

-- ---- what is counted

-- there is a table, and it holds the word
abbrev pub HoldsWord : Option NumberedTable → ℕ → Type 0
HoldsWord None word = ⊥
HoldsWord (Some numbered) word = IsHeld empty_tables (map_of numbered.table) word

-- how many texts the table holds; 0 if there is none
abbrev pub entries_of : Option NumberedTable → ℕ
entries_of None = 0
entries_of (Some numbered) = length numbered.table.pairs

-- how many bytes these texts have together; 0 if there is no table
abbrev pub text_bytes_of : Option NumberedTable → ℕ
text_bytes_of None = 0
text_bytes_of (Some numbered) = sum_by (λ pair. length pair.0) numbered.table.pairs

-- the bytes of the block in which the handle has a table
abbrev pub block_size : ℕ
block_size = 320

-- The bytes that a table takes with its block, or the greatest number of 64 bits.
abbrev pub TellsMemory : Kept → ℕ → Type 0
TellsMemory kept told = (bytes : ℕ) × IsMemory kept bytes × (told ≡ min (bytes + block_size) (2 ^ 64 - 1))
