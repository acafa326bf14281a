use Rattle.std.proofs.Common.{◌∙◌, inl}
use Rattle.example_tables.proofs.words.price_of.Goals as goal

-- the word that was found is the name's, and the price is the one under it
pub returns-in-Some : goal.returns-in-Some
returns-in-Some g c = inl (c.in-Some.word, c.in-Some.ensures.word, c.copied.ensures ∙ c.get-in-Some.ensures.value)
