-- The numbers that calls return: 0, a fault's number from 1 to 3, or one of these.
use Rattle.std.specs.Prelude.{◌≡◌, ℕ, Result, Ok, Err}
use Rattle.interner_table.specs.Faults.{fault_number}
use Rattle.text_forms.specs.declared.faults.Fault.{Fault}

-- the bytes aren't UTF-8
abbrev pub not_utf8 : ℕ
not_utf8 = 5

-- the word isn't held, the text has no word, or no entry is at the place
abbrev pub not_held : ℕ
not_held = 6

-- the handle has no table
abbrev pub closed : ℕ
closed = 7

-- the handle has a table already
abbrev pub not_closed : ℕ
not_closed = 8

-- the text finds no room
abbrev pub too_small : ℕ
too_small = 9

-- there are no such limits or buckets
abbrev pub not_limits : ℕ
not_limits = 10

-- it isn't a word of that kind, or the text is too long for one
abbrev pub not_word : ℕ
not_word = 11

-- A reply, by its number and by the word that the caller has before and after it.
abbrev pub IsReply : Result ℕ Fault → ℕ → ℕ → ℕ → Type 0
IsReply (Ok word) number before after = (number ≡ 0) × (after ≡ word)
IsReply (Err fault) number before after = (number ≡ fault_number fault) × (after ≡ before)
