-- What a word tells about itself.
use Rattle.std.specs.Prelude.{◌≡◌, ℕ, Option, Some, None}
use Rattle.text_forms.specs.declared.word.Form.{Form}
use Rattle.text_forms.specs.declared.word.Form.TheVariants.{Inline, Static, Dynamic}
use Rattle.text_forms.specs.Word.{IsInlineText, inline_word, static_word, ticket_of, IsTicket, IsInlineWord, IsStaticWord, IsTicketWord}

-- the text of an inline word, the index of a static one, the serial and the bucket of a ticket; None for any other word
abbrev pub IsFormOf : ℕ → Option Form → Type 0
IsFormOf word (Some (Inline text)) = IsInlineText text × (inline_word text ≡ word)
IsFormOf word (Some (Static index)) = static_word index ≡ word
IsFormOf word (Some (Dynamic serial bucket)) = IsTicket serial bucket × (ticket_of serial bucket ≡ word)
IsFormOf word None = ¬ (IsInlineWord word) × ¬ (IsStaticWord word) × ¬ (IsTicketWord word)
