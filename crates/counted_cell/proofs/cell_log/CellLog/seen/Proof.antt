-- `seen` copies what the log is.
use Rattle.counted_cell.proofs.Names.{◌≡◌, ℕ, List, [], ◌∷◌, refl, proved, leaves, named, Val, vptr, SProp, emp, fact, fact_i, ftrue, flft, ‵, raw, ◌⊛◌, ◌$◌, ◌∵◌, !, qed, by, move, keep, split, join, fsplit, fsplit3, fjoin, fjoin3, use0, use1, feq_i, no_more, and_then, returns, enter, alloc_all, pass_all, free_all, look_at, get, sets, agg, tables, RattleType, owns, types_at, plain, nothing, Stays, walk_of}
use denote.Ref.{mut_vals, mut_Tells}
use denote.Steps.{opens, closes}
use denote.Triple.Walked.{stay_ref, Goes-ref}
use Rattle.counted_cell.specs.CellLog.{log_owns, seen_owns}
use Rattle.counted_cell.specs.contracts.cell_log.CellLog as cell_log
use Rattle.counted_cell.specs.contracts.cell_log.LogSeen as log_seen
use Rattle.counted_cell.proofs.CellLogFields.{token, SeenMarks, seen_marked}
use Rattle.counted_cell.proofs.CellLogSteps as steps
use Rattle.counted_cell.specs.contracts.cell_log.CellLog.seen.{ended, clauses}
use Rattle.counted_cell.specs.contracts.cell_log.CellLog.seen.Key.{name as #self}
use Rattle.counted_cell.proofs.cell_log.CellLog.seen.Statement.{statement}
use Rattle.counted_cell.proofs.cell_log.CellLog.seen.Code as code

pub seen_spec : {M : Type 1} → statement M
seen_spec 𝓤 𝓛 𝓜 𝓡 wired =
    let H = 𝓛.H in let 𝓣 = tables 𝓤 H 𝓜 𝓡 𝓡.env in let fn = code.function in let c = clauses 𝓛 𝓜.mem 𝓡.returns in let L : RattleType = cell_log.the_row in let S : RattleType = log_seen.the_row in
    let hs : Stays ended.signature.params ended.kept = (stay_ref (0 ∷ []) tt (plain (λ _. L)), tt) in
    proved 𝓛 ended hs c 𝓜 𝓡 (Goes-ref 𝓛 1 0 tt (plain (λ _. L)), tt) #self fn (code.unfolded 𝓤 H 𝓜 𝓡 wired)
    (λ κs. (mut_vals, tt)) (λ κs. (mut_Tells (named 0) κs.0 L, tt)) (λ κs qs bounds a gh are.
    let b : ℕ = a.0.ref_ptr.0 in let o : ℕ = a.0.ref_ptr.1 in let h : L.Denot = a.0.now in let r : S.Denot = record { mark = record {}; name = h.name; entries = h.entries; gone = h.gone } in
    let Told : Type 0 = (h.name ≡ h.name) × (h.entries ≡ h.entries) × (h.gone ≡ h.gone) × (h.name ≡ h.name) × (h.entries ≡ h.entries) × (h.gone ≡ h.gone) in
    let y : (walk_of 𝓛 ended hs c).Ghost = ((κs, qs, bounds, a, (vptr b o ∷ [], tt)), gh) in let Post : Val → SProp 𝓤 = (walk_of 𝓛 ended hs c).post y in
    qed 𝓛 (((‵ (flft κs.0 qs.0) ⊛ ‵ ftrue) ⊛ ‵ (owns (types_at ended.signature.params κs) a y.0.4)) ∷ raw ((c κs a).requires gh) ∷ []) ∵ keep ! (0 ∷ []) $ split ! $ split ! $ move ! (2 ∷ []) $ fsplit ! $ fsplit3 ! $ keep ! (1 ∷ 2 ∷ 4 ∷ []) $
    enter ! 𝓣.C 𝓣.Λ fn (vptr b o ∷ []) Post $ alloc_all ! (λ l. pass_all ! refl ((tt, tt), tt) $ opens ! tt L b o (λ ts. move ! (1 ∷ []) $ fsplit ! $ move ! (1 ∷ []) $
    use1 𝓛 (‵ (log_owns h.name h.entries h.gone) ⊛ ‵ (seen_owns h.name h.entries h.gone)) (steps.shows 𝓛 h.name h.entries h.gone) $ split ! $ move ! (2 ∷ 0 ∷ []) $ fjoin ! $ move ! (2 ∷ 0 ∷ 3 ∷ 4 ∷ 5 ∷ []) $
    closes ! tt L h ts b o $ feq_i ! (List Val) (vptr b o ∷ []) (vptr b o ∷ []) refl $ fjoin3 ! $ nothing ! $ move ! (1 ∷ 0 ∷ []) $ fjoin ! $ nothing ! $ move ! (2 ∷ 0 ∷ []) $ join ! $ move ! (2 ∷ []) $
    use0 𝓛 (‵ (SeenMarks.own_val (tt, tt) (token ∷ []))) (seen_marked 𝓛) $ fjoin ! $ sets ! (agg ! (no_more !)) refl (tt, tt) $ sets ! (agg ! (and_then ! (get ! refl) (no_more !))) refl (tt, (tt, tt)) $
    use0 𝓛 (raw (fact 𝓤 Told)) (fact_i 𝓤 Told (emp 𝓤) (refl, refl, refl, refl, refl, refl)) $
    returns ! (look_at ! 0 refl) $ free_all ! refl $ keep ! (2 ∷ 3 ∷ 1 ∷ 0 ∷ []) $ by ! (leaves 𝓛 ended hs c y token r (h, tt) (tt, tt)))))
