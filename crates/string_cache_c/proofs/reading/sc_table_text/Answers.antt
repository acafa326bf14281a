use Rattle.std.proofs.Common.{refl, sym, ℕ, inl, inr, List}
use Rattle.std.specs.Str.{IsUtf8}
use Rattle.std.proofs.lemmas.Bool.{false≢true}
use Rattle.text_forms.specs.Map.{InternMap}
use Rattle.text_forms.specs.Tables.{Tables}
use Rattle.interner_table.specs.Table.{HasWord, IsHeld}
use Rattle.interner_table.proofs.calls.HeldWords.{text-held}
use Rattle.interner_table.proofs.calls.WordsApart.{has}
use Rattle.string_cache_c.proofs.WithinLemmas.{if_open}
use Rattle.string_cache_c.proofs.reading.sc_table_text.Goals as goal

-- a word that a text has is held
word-held : (t : Tables) (m : InternMap) (text : List ℕ) (word : ℕ) → IsUtf8 text → HasWord t m text word → IsHeld t m word
unfolding IsHeld
word-held t m text word utf8 own = elim (has t m text word utf8 own) [
  | inl i ↦ inl (inl (text, i.0, sym i.1))
  | inr lent ↦ text-held t m word text lent
]

pub returns-in-Some-text_of-clause-unheld : goal.returns-in-Some-text_of-clause-unheld
returns-in-Some-text_of-clause-unheld c = if_open _ _ c.in-Some.numbered.now c.in-Some.ensures (λ not. absurd (not (c.in-Some-text_of.ensures.held.0 refl)))

pub returns-in-None-clause-text : goal.returns-in-None-clause-text
returns-in-None-clause-text c = if_open _ _ c.in-Some.numbered.now c.in-Some.ensures (λ held. absurd (false≢true (c.in-None.ensures.held.1 held)))

pub returns-in-None-clause-only : goal.returns-in-None-clause-only
returns-in-None-clause-only c = if_open _ _ c.in-Some.numbered.now c.in-Some.ensures (λ text utf8 own. absurd (false≢true (c.in-None.ensures.held.1 (word-held _ _ text _ utf8 own))))
