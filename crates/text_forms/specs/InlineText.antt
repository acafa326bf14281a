-- What an `InlineText` holds: the bytes of its inline word, the low one first: the tag and the length, the text, and zeros.
use Rattle.std.specs.Prelude.{◌≡◌, ℕ, ◌+◌, ◌*◌, ◌-◌, ◌/◌, List, [], ◌∷◌, ◌++◌, length, take, drop, replicate, slice_index}
use Rattle.text_forms.specs.Word.{IsInlineText}
use Rattle.text_forms.specs.declared.word.InlineText.TheInside.{Inside}

-- the text: as many bytes as the upper four bits of the first one say
abbrev pub text_of : Inside → List ℕ
text_of t = take (slice_index t.bytes 0 / 16) (drop 1 t.bytes)

-- the bytes of the inline word of a text
abbrev pub word_bytes : List ℕ → List ℕ
word_bytes text = (1 + 16 * length text) ∷ text ++ replicate (7 - length text) 0

-- the value of a text
abbrev pub padded_text : List ℕ → Inside
padded_text text = record { align = []; bytes = word_bytes text }

-- it is the value of its text, which has at most 7 bytes
abbrev pub IsPadded : Inside → Type 0
IsPadded t = IsInlineText (text_of t) × (t.align ≡ []) × (t.bytes ≡ word_bytes (text_of t))
