-- The printed form of tables: a line for the key, one for each pair of displacements, and one for each text.
use Rattle.std.specs.Prelude.{◌≡◌, ◌≢◌, ℕ, zero, suc, ◌+◌, ◌/◌, ◌%◌, ◌^◌, ◌<◌, List, [], ◌∷◌, ◌++◌, length, nat_lt, if◌then◌else◌, codes, decimal}
use Rattle.std.specs.List.{All, flat_map}
use Rattle.text_forms.specs.Tables.{Tables, IsPerfectTable}

-- a hexadecimal digit, in lower case
abbrev pub hex_digit : ℕ → ℕ
hex_digit d = if nat_lt d 10 then 48 + d else 87 + d

-- the lowest `count` hexadecimal digits of n, the highest of them first
unfoldable pub hex_digits : ℕ → ℕ → List ℕ
hex_digits zero n = []
hex_digits (suc count) n = hex_digits count (n / 16) ++ (hex_digit (n % 16) ∷ [])

-- the line `key D`, with the key in decimal
abbrev pub key_line : ℕ → List ℕ
key_line key = codes "key " ++ (decimal key ++ codes "\n")

-- the line `disp D D`, with both displacements in decimal
abbrev pub disp_line : ℕ × ℕ → List ℕ
disp_line pair = codes "disp " ++ (decimal pair.0 ++ (codes " " ++ (decimal pair.1 ++ codes "\n")))

-- the line `atom H TEXT`, with the hash number in 16 hexadecimal digits
abbrev pub atom_line : ℕ → List ℕ → List ℕ
atom_line hash text = codes "atom " ++ (hex_digits 16 hash ++ (codes " " ++ (text ++ codes "\n")))

-- a line for each text, with its hash number
abbrev pub atom_lines : List ℕ → List (List ℕ) → List ℕ
atom_lines [] texts = []
atom_lines (hash ∷ hashes) [] = []
atom_lines (hash ∷ hashes) (text ∷ texts) = atom_line hash text ++ atom_lines hashes texts

-- the printed form: the line of the key, one for each pair of displacements, and one for each text
abbrev pub table_text : Tables → List ℕ
table_text t = key_line t.key ++ (flat_map disp_line t.disps ++ atom_lines t.hashes t.atoms)

-- no line feed is in the text
abbrev pub HasNoFeed : List ℕ → Type 0
HasNoFeed text = All (λ byte. byte ≡ 10 → ⊥) text

-- Tables that have a printed form: at least one pair of displacements and one text, and each number in its range.
pub record ArePrintable (t : Tables) : Type 0 where
  pub key : t.key < 2 ^ 64
  pub displaced : 0 < length t.disps
  pub displacements : All (λ pair. (pair.0 < 2 ^ 32) × (pair.1 < 2 ^ 32)) t.disps
  pub listed : 0 < length t.atoms
  pub texts : All HasNoFeed t.atoms
  pub hashed : length t.hashes ≡ length t.atoms
  pub hashes : All (λ hash. hash < 2 ^ 64) t.hashes

-- the text is the printed form of the tables
abbrev pub SpellsTables : List ℕ → Tables → Type 0
SpellsTables text t = ArePrintable t × (text ≡ table_text t)

-- the text is the printed form of perfect tables
abbrev pub SpellsPerfectTables : List ℕ → Type 0
SpellsPerfectTables text = (t : Tables) × SpellsTables text t × IsPerfectTable t

-- ---- reading

-- The text begins with the lines of these displacements, and what is left begins with no such line.
pub record ReadsDisps (text : List ℕ) (disps : List (ℕ × ℕ)) (rest : List ℕ) : Type 0 where
  pub is : text ≡ flat_map disp_line disps ++ rest
  pub small : All (λ pair. (pair.0 < 2 ^ 32) × (pair.1 < 2 ^ 32)) disps
  pub ends : (pair : ℕ × ℕ) (more : List ℕ) → pair.0 < 2 ^ 32 → pair.1 < 2 ^ 32 → rest ≢ disp_line pair ++ more

-- The text begins with the lines of these texts, and what is left begins with no such line.
pub record ReadsAtoms (text : List ℕ) (hashes : List ℕ) (atoms : List (List ℕ)) (rest : List ℕ) : Type 0 where
  pub is : text ≡ atom_lines hashes atoms ++ rest
  pub count : length hashes ≡ length atoms
  pub small : All (λ hash. hash < 2 ^ 64) hashes
  pub one_line : All HasNoFeed atoms
  pub ends : (hash : ℕ) (atom more : List ℕ) → hash < 2 ^ 64 → HasNoFeed atom → rest ≢ atom_line hash atom ++ more
