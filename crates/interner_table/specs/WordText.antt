-- The text that a `WordText` lends.
use Rattle.std.specs.Prelude.{ℕ, List}
use Rattle.interner_table.specs.declared.table.word_text.WordText.{WordText}
use Rattle.interner_table.specs.declared.table.word_text.WordText.TheVariants.{Inline, Lent}

-- the text that it is, or that it lends
abbrev pub text_in : WordText → List ℕ
text_in (Inline text) = text
text_in (Lent text) = text.now
