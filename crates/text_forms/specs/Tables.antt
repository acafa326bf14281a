-- Static tables, and the form, the hash number and the words that they give.
use Rattle.std.specs.Prelude.{◌≡◌, ℕ, ◌%◌, ◌^◌, ◌<◌, Bool, true, false, List, [], ◌∷◌, length, nat_lt, if◌then◌else◌, slice_index, slice_index_or, Option, Some, None}
use Rattle.std.specs.Str.{bytes_eq}
use Rattle.text_forms.specs.declared.static_sets.TextForm.{TextForm}
use Rattle.text_forms.specs.declared.static_sets.TextForm.TheVariants.{Inline, Static, Dynamic}
use Rattle.text_forms.specs.Phf.{hashes_of, hash_of_hashes, place_of}
use Rattle.text_forms.specs.Word.{inline_word, static_word}

-- the key of the hash, the pairs of displacements, the texts, and the hash number of each
pub record Tables : Type 0 where
  pub key : ℕ
  pub disps : List (ℕ × ℕ)
  pub atoms : List (List ℕ)
  pub hashes : List ℕ

-- tables in which a text has a place: of pairs and of texts there are at least one and fewer than 2 ^ 32, and a hash number for each text
pub record AreUsable (t : Tables) : Type 0 where
  pub displaced : 0 < length t.disps
  pub listed : 0 < length t.atoms
  pub few_disps : length t.disps < 2 ^ 32
  pub few_atoms : length t.atoms < 2 ^ 32
  pub hashed : length t.hashes ≡ length t.atoms

-- the place of a text, whether it is listed or not
unfoldable pub place_in : Tables → List ℕ → ℕ
place_in t text = place_of (hashes_of text t.key) t.disps (length t.atoms)

-- the text at an index
abbrev pub text_at : Tables → ℕ → List ℕ
text_at t index = slice_index_or t.atoms index []

-- tables in which each text is listed once, at its place
pub record IsPerfectTable (t : Tables) : Type 0 where
  pub usable : AreUsable t
  pub distinct : (i j : ℕ) → i < length t.atoms → j < length t.atoms → text_at t i ≡ text_at t j → i ≡ j
  pub placed : (i : ℕ) → i < length t.atoms → place_in t (text_at t i) ≡ i

-- the hash of an entry, whose low bits are its bucket
unfoldable pub entry_hash : Tables → List ℕ → ℕ
entry_hash t text = hash_of_hashes (hashes_of text t.key)

-- the bucket, of this many, that a dynamic text belongs to
abbrev pub bucket_of : Tables → ℕ → List ℕ → ℕ
bucket_of t buckets text = entry_hash t text % buckets

-- The form of a text. Up to 7 bytes it is inline, with the text itself. A longer text is static if it is at its place, with
-- that place. Any other is dynamic, with the hash of its entry.
abbrev pub form_of_text : Tables → List ℕ → TextForm
form_of_text t text =
    if nat_lt 7 (length text) then
    if bytes_eq (text_at t (place_in t text)) text then Static (place_in t text)
    else Dynamic (entry_hash t text)
    else Inline text

-- the form is inline
abbrev pub is_inline_form : TextForm → Bool
is_inline_form (Inline text) = true
is_inline_form (Static index) = false
is_inline_form (Dynamic hash) = false

-- the form is static
abbrev pub is_static_form : TextForm → Bool
is_static_form (Inline text) = false
is_static_form (Static index) = true
is_static_form (Dynamic hash) = false

-- the form is dynamic
abbrev pub is_dynamic_form : TextForm → Bool
is_dynamic_form (Inline text) = false
is_dynamic_form (Static index) = false
is_dynamic_form (Dynamic hash) = true

-- the text is neither inline nor static
abbrev pub is_dynamic : Tables → List ℕ → Bool
is_dynamic t text = is_dynamic_form (form_of_text t text)

-- the word of a form that has one of its own; a dynamic text's is a ticket
abbrev pub fixed_word : TextForm → Option ℕ
fixed_word (Inline text) = Some (inline_word text)
fixed_word (Static index) = Some (static_word index)
fixed_word (Dynamic hash) = None

-- the number that an atom of the form hashes as
abbrev pub hash_number_of_form : Tables → TextForm → ℕ
hash_number_of_form t (Inline text) = inline_word text
hash_number_of_form t (Static index) = slice_index t.hashes index
hash_number_of_form t (Dynamic hash) = hash

-- the number that an atom of the text hashes as: the inline word, the hash listed at the static place, or the hash of the entry
abbrev pub hash_number : Tables → List ℕ → ℕ
hash_number t text = hash_number_of_form t (form_of_text t text)

-- the index is the place of the text that is listed there, a text of more than 7 bytes
abbrev pub IsStaticIndex : Tables → ℕ → Type 0
IsStaticIndex t index = form_of_text t (text_at t index) ≡ Static index

-- each text of more than 7 bytes is static, at the index where it is listed
abbrev pub AllAreStatic : Tables → Type 0
AllAreStatic t = (i : ℕ) → i < length t.atoms → 7 < length (text_at t i) → IsStaticIndex t i

-- the word is that of a static text
abbrev pub IsStaticTextWord : Tables → ℕ → Type 0
IsStaticTextWord t word = (index : ℕ) × IsStaticIndex t index × (static_word index ≡ word)

-- the tables whose one text is the empty one, under which no text is static
abbrev pub empty_tables : Tables
empty_tables = record { key = 0; disps = (0, 0) ∷ []; atoms = [] ∷ []; hashes = 0x3ddd_def3 ∷ [] }
