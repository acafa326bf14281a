use Rattle.std.proofs.Common.{refl, sym}
use Rattle.std.proofs.lemmas.Bool.{false≢true}
use Rattle.string_cache_c.proofs.texts.sc_word_unpack.Goals as goal

-- the text that was unpacked is copied
pub returns-in-Some-clause-text : goal.returns-in-Some-clause-text
returns-in-Some-clause-text c = λ inline. (c.in-Some.text, c.in-Some.ensures.text.0, c.in-Some.ensures.text.1, rw (sym c.as_str.ensures.text) c.copy_text.ensures)

pub returns-in-Some-clause-none : goal.returns-in-Some-clause-none
returns-in-Some-clause-none c = λ not. absurd (not (c.in-Some.ensures.inline.0 refl))

pub returns-in-None-clause-text : goal.returns-in-None-clause-text
returns-in-None-clause-text c = λ inline. absurd (false≢true (c.in-None.ensures.inline.1 inline))
