-- Replies of a table's calls.
use Rattle.std.specs.Prelude.{⊤}
use Rattle.interner_table.specs.declared.table.call.TableReply.{TableReply}
use Rattle.interner_table.specs.declared.table.call.TableReply.TheVariants.{Word, Given, NotHeld, Refused}

-- the call was done: the word was held, and no limit and no lack of memory refused it
abbrev pub IsDone : TableReply → Type 0
IsDone (Word word) = ⊤
IsDone Given = ⊤
IsDone NotHeld = ⊥
IsDone (Refused fault) = ⊥
