-- The words that are packed into atoms.
use Rattle.std.specs.Prelude.{◌≡◌, ℕ, ◌+◌, ◌*◌, ◌%◌, List, length}
use Rattle.text_forms.specs.Word.{inline_word, IsInlineText}

-- n has a low byte of zero, and with the tag and the length it is the inline word of a text of that length
abbrev pub IsPackable : ℕ → ℕ → Type 0
IsPackable n len = (n % 256 ≡ 0) × ((text : List ℕ) × IsInlineText text × (length text ≡ len) × (inline_word text ≡ n + 16 * len + 1))
