-- `new` makes a log of no bytes.
use Rattle.counted_cell.proofs.Names.{◌≡◌, ℕ, List, [], ◌∷◌, refl, proved, leaves, Val, SProp, emp, fact, fact_i, ftrue, ‵, raw, ◌⊛◌, some, later, ◌$◌, ◌∵◌, !, qed, by, keep, split, fjoin, pick, use0, await, no_more, and_then, returns, enter, alloc_all, pass_all, free_all, look_at, get, sets, agg, tables, RattleType, owns, types_at, Stays, walk_of}
use Rattle.counted_cell.specs.CellLog.{Entry, log_owns}
use Rattle.counted_cell.specs.contracts.cell_log.CellLog as cell_log
use Rattle.counted_cell.proofs.CellLogFields.{token, LogMarks, log_marked}
use Rattle.counted_cell.proofs.CellLogSteps as steps
use Rattle.counted_cell.specs.contracts.cell_log.CellLog.new.{ended, clauses}
use Rattle.counted_cell.specs.contracts.cell_log.CellLog.new.Key.{name as #self}
use Rattle.counted_cell.proofs.cell_log.CellLog.new.Statement.{statement}
use Rattle.counted_cell.proofs.cell_log.CellLog.new.Code as code

pub new_spec : {M : Type 1} → statement M
new_spec 𝓤 𝓛 𝓜 𝓡 wired =
    let H = 𝓛.H in let 𝓣 = tables 𝓤 H 𝓜 𝓡 𝓡.env in let fn = code.function in let c = clauses 𝓛 𝓜.mem 𝓡.returns in let L : RattleType = cell_log.the_row in
    let hs : Stays ended.signature.params ended.kept = tt in
    proved 𝓛 ended hs c 𝓜 𝓡 tt #self fn (code.unfolded 𝓤 H 𝓜 𝓡 wired)
    (λ κs. tt) (λ κs. tt) (λ κs qs bounds a gh are.
    let y : (walk_of 𝓛 ended hs c).Ghost = ((κs, qs, bounds, a, tt), gh) in let Post : Val → SProp 𝓤 = (walk_of 𝓛 ended hs c).post y in let es : List Entry = [] in let ts : List Rattle.counted_cell.specs.Counting.CellName = [] in let Told : Type 0 = (es ≡ es) × (ts ≡ ts) in
    qed 𝓛 ((‵ ftrue ⊛ ‵ (owns (types_at ended.signature.params κs) a y.0.4)) ∷ raw ((c κs a).requires gh) ∷ []) ∵ keep ! (0 ∷ []) $ split ! $
    enter ! 𝓣.C 𝓣.Λ fn [] Post $ alloc_all ! (λ l. pass_all ! refl tt $
    sets ! (agg ! (no_more !)) refl (tt, tt) $ sets ! (agg ! (and_then ! (get ! refl) (no_more !))) refl (tt, (tt, tt)) $
    use0 𝓛 (later (some (λ (γ : ℕ). ‵ (log_owns γ [] [])))) (steps.begins 𝓛) $ await ! tt $ pick ! (λ γ. let r : L.Denot = record { mark = record {}; name = γ; entries = []; gone = [] } in
    use0 𝓛 (‵ (LogMarks.own_val (tt, tt) (token ∷ []))) (log_marked 𝓛) $ fjoin ! $
    use0 𝓛 (raw (fact 𝓤 Told)) (fact_i 𝓤 Told (emp 𝓤) (refl, refl)) $
    returns ! (look_at ! 0 refl) $ free_all ! refl $ keep ! (2 ∷ 3 ∷ 1 ∷ 0 ∷ []) $ by ! (leaves 𝓛 ended hs c y token r tt tt))))
