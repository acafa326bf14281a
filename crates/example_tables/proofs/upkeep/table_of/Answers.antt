use Rattle.std.proofs.Common.{arith, List, length, sym, take, ℕ, ◌≤◌}
use Rattle.std.proofs.lemmas.List.{take_all}
use Rattle.std.proofs.lemmas.List.Elements.{All-more, All-same, All-weaker}
use Rattle.std.specs.Borrow.{Bor}
use Rattle.interner_table.specs.Kept.{map_of}
use Rattle.interner_table.specs.Map.{InternMap}
use Rattle.interner_table.specs.Table.{IsWordOf}
use Rattle.interner_table.specs.Tables.{empty_tables}
use Rattle.example_tables.proofs.upkeep.table_of.Goals as goal

abbrev IsKnown : InternMap → Bor (List ℕ) → Type 0
IsKnown m name = (word : ℕ) × IsWordOf empty_tables m name.now word

-- the names before keep their words, and this one has its own
pub loop-name-preserved : goal.loop-name-preserved
loop-name-preserved c =
    let names = c.args.names.now in
    let at = c.loop-name.name-index in
    let old = map_of c.loop-name.table in
    let new = map_of c.intern.new.self in
    let before = All-weaker (IsKnown old) (IsKnown new) (λ name known. (known.0, c.in_ok-intern.ensures.owned known.0 name.now known.1)) (take at names) c.loop-name.invariant in
    All-more (IsKnown new) names at _ (omega arith) before (c.in_ok-intern.field-0, c.in_ok-intern.ensures.own)

-- the loop went over all names
pub returns : goal.returns
returns c =
    let names = c.args.names.now in
    let at = c.loop-name.name-index in
    let past : length names ≤ at = omega arith in
    All-same (IsKnown (map_of c.loop-name.table)) names (take at names) (sym (take_all at names past)) c.loop-name.invariant
