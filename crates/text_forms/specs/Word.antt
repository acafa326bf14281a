-- The word of an atom, 64 bits. Inline and static words are laid out as in Rust's `string_cache` 0.11.0 on a little-endian machine. A dynamic word is
-- a ticket of this library's own, where the Rust crate has a pointer.
use Rattle.std.specs.Prelude.{◌≡◌, ℕ, ◌+◌, ◌*◌, ◌^◌, ◌<◌, ◌≤◌, List, length, sum_by}
use Rattle.std.specs.List.{enumerate_from}
use Rattle.std.specs.Str.{IsUtf8}
use Rattle.text_forms.specs.Layout.{most_buckets, serial_bound, ticket_unit}

-- the number that bytes spell, low byte first: the sum of byte i times 256 ^ i
abbrev pub bytes_value : List ℕ → ℕ
bytes_value bytes = sum_by (λ place. place.1 * 256 ^ place.0) (enumerate_from 0 bytes)

-- a text that fits into a word
abbrev pub IsInlineText : List ℕ → Type 0
IsInlineText text = IsUtf8 text × (length text ≤ 7)

-- the word of a text of at most 7 bytes: tag 1, the length in bits 4 to 7, and byte i in bits 8 + 8i to 15 + 8i
abbrev pub inline_word : List ℕ → ℕ
inline_word text = 1 + 16 * length text + 256 * bytes_value text

-- the word of the text at an index of the static tables: tag 2, and the index in the high 32 bits
abbrev pub static_word : ℕ → ℕ
static_word index = index * 2 ^ 32 + 2

-- the word of a bucket's entry: tag 0, the bucket above it, and above that the serial that the bucket gave
-- the entry
abbrev pub ticket_of : ℕ → ℕ → ℕ
ticket_of serial bucket = serial * ticket_unit + bucket * 4

-- a serial that is at least 1 and below `serial_bound`, of a bucket below `most_buckets`
abbrev pub IsTicket : ℕ → ℕ → Type 0
IsTicket serial bucket = (1 ≤ serial) × (serial < serial_bound) × (bucket < most_buckets)

-- the word is the inline word of a text
abbrev pub IsInlineWord : ℕ → Type 0
IsInlineWord word = (text : List ℕ) × IsInlineText text × (inline_word text ≡ word)

-- the word is that of an index
abbrev pub IsStaticWord : ℕ → Type 0
IsStaticWord word = (index : ℕ) × (index < 2 ^ 32) × (static_word index ≡ word)

-- the word is a ticket
abbrev pub IsTicketWord : ℕ → Type 0
IsTicketWord word = (serial : ℕ) × (bucket : ℕ) × IsTicket serial bucket × (ticket_of serial bucket ≡ word)
