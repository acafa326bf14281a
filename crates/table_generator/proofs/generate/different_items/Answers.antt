use Rattle.std.proofs.Common.{inl, inr, refl}
use Rattle.std.proofs.lemmas.List.Sorted.{IsPermutation-sym}
use Rattle.table_generator.proofs.Doubles.{double_permuted}
use Rattle.table_generator.proofs.generate.different_items.Goals as goal

pub has_repeat-requires-clause-grouped : goal.has_repeat-requires-clause-grouped
has_repeat-requires-clause-grouped c = rw c.deref.ensures.value c.in-Ok.ensures.grouped

pub returns-then-has_repeat-clause-fault : goal.returns-then-has_repeat-clause-fault
returns-then-has_repeat-clause-fault c =
    inl (refl, double_permuted _ _ (IsPermutation-sym _ _ c.in-Ok.ensures.texts) (rw c.deref.ensures.value at c.if-has_repeat.ensures.yes))

pub returns-else-has_repeat-clause-differ : goal.returns-else-has_repeat-clause-differ
returns-else-has_repeat-clause-differ c = λ double.
    (rw c.deref.ensures.value at c.if-has_repeat.ensures.no) (double_permuted _ _ c.in-Ok.ensures.texts double)

pub returns-else-has_repeat-clause-count : goal.returns-else-has_repeat-clause-count
returns-else-has_repeat-clause-count c = c.in-Ok.ensures.count

pub returns-else-has_repeat-clause-texts : goal.returns-else-has_repeat-clause-texts
returns-else-has_repeat-clause-texts c = c.in-Ok.ensures.texts

pub returns-then-has_double-clause-fault : goal.returns-then-has_double-clause-fault
returns-then-has_double-clause-fault c = inl (refl, c.if-has_double.ensures.yes)

pub returns-else-has_double-clause-fault : goal.returns-else-has_double-clause-fault
returns-else-has_double-clause-fault c = inr (refl, c.if-has_double.ensures.no)
