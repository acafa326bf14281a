-- `add` adds to the log.
use Rattle.counted_cell.proofs.Names.{◌≡◌, ℕ, List, [], ◌∷◌, ◌++◌, refl, proved, leaves, named, Val, vunit, vptr, SProp, emp, fact, fact_i, Fml, ftrue, fsep, flft, ‵, raw, ◌⊛◌, later, ◌$◌, ◌∵◌, !, qed, by, move, keep, split, fsplit, fsplit3, fjoin, fjoin3, use0, use1, await, feq_i, of_opd, returns, enter, alloc_all, pass_all, free_all, look_at, sets, tables, yes, RattleType, owns, types_at, plain, nothing, RefOf, shr_vals, shr_Tells, Stays, stay_dropped, walk_of, Goes-dropped}
use types.Run.{unit_lit}
use denote.Ref.{mut_vals, mut_Tells}
use denote.Steps.{opens, closes}
use denote.Triple.Walked.{stay_ref, Goes-ref}
use Rattle.counted_cell.specs.CellLog.{Entry, log_owns}
use Rattle.counted_cell.specs.contracts.cell_log.CellLog as cell_log
use Rattle.counted_cell.proofs.CellLogSteps as steps
use Rattle.counted_cell.specs.contracts.cell_log.CellLog.add.{ended, clauses}
use Rattle.counted_cell.specs.contracts.cell_log.CellLog.add.Key.{name as #self}
use Rattle.counted_cell.proofs.cell_log.CellLog.add.Statement.{statement}
use Rattle.counted_cell.proofs.cell_log.CellLog.add.Code as code
use Rattle.counted_cell.specs.contracts.cell_ref.CellRef as cell_ref
use Rattle.counted_cell.specs.contracts.content.Content as content
use Rattle.counted_cell.specs.Cell.{cell_of}
use Rattle.counted_cell.specs.CellEntry.{entry_of}

pub add_spec : {M : Type 1} → statement M
add_spec 𝓤 𝓛 𝓜 𝓡 wired =
    let H = 𝓛.H in let 𝓣 = tables 𝓤 H 𝓜 𝓡 𝓡.env in let fn = code.function in let c = clauses 𝓛 𝓜.mem 𝓡.returns in let L : RattleType = cell_log.the_row in let Row : RattleType = cell_ref.the_row content.the_row in let share = RefOf (1 ∷ []) tt (plain (λ _. Row)) (λ _. tt) in
    let hs : Stays ended.signature.params ended.kept = (stay_ref (0 ∷ []) tt (plain (λ _. L)), (stay_dropped share yes, tt)) in
    proved 𝓛 ended hs c 𝓜 𝓡 (Goes-ref 𝓛 2 0 tt (plain (λ _. L)), (Goes-dropped 𝓛 2 share yes (λ κs x f. refl), tt)) #self fn (code.unfolded 𝓤 H 𝓜 𝓡 wired)
    (λ κs. (mut_vals, (shr_vals, tt))) (λ κs. (mut_Tells (named 0) κs.0 L, (shr_Tells (named 1) κs.1.0 Row, tt))) (λ κs qs bounds a gh are.
    let b : ℕ = a.0.ref_ptr.0 in let o : ℕ = a.0.ref_ptr.1 in let h : L.Denot = a.0.now in let b' : ℕ = a.1.0.ref_ptr.0 in let o' : ℕ = a.1.0.ref_ptr.1 in let e : Entry = entry_of (cell_of a.1.0.now) in
    let h' : L.Denot = record { mark = h.mark; name = h.name; entries = h.entries ++ e ∷ []; gone = h.gone } in let others : Fml = fsep (flft κs.1.0 qs.1.0) ftrue in let toks : Fml = fsep (flft κs.0 qs.0) others in
    let Told : Type 0 = (h.name ≡ h.name) × (h'.entries ≡ h'.entries) × (h.gone ≡ h.gone) in
    let y : (walk_of 𝓛 ended hs c).Ghost = ((κs, qs, bounds, a, (vptr b o ∷ [], (vptr b' o' ∷ [], tt))), gh) in let Post : Val → SProp 𝓤 = (walk_of 𝓛 ended hs c).post y in
    qed 𝓛 ((‵ toks ⊛ ‵ (owns (types_at ended.signature.params κs) a y.0.4)) ∷ raw ((c κs a).requires gh) ∷ []) ∵ keep ! (0 ∷ []) $ split ! $ fsplit ! $ move ! (2 ∷ []) $ fsplit ! $ fsplit3 ! $ keep ! (1 ∷ 2 ∷ 4 ∷ 5 ∷ []) $
    enter ! 𝓣.C 𝓣.Λ fn (vptr b o ∷ vptr b' o' ∷ []) Post $ alloc_all ! (λ l. pass_all ! refl ((tt, tt), ((tt, tt), tt)) $ opens ! tt L b o (λ ts. move ! (1 ∷ []) $ fsplit ! $ move ! (1 ∷ []) $
    use1 𝓛 (later (‵ (log_owns h.name h'.entries h.gone))) (steps.adds 𝓛 h.name h.entries h.gone e) $ await ! tt $ move ! (1 ∷ 0 ∷ []) $ fjoin ! $ move ! (1 ∷ 0 ∷ 2 ∷ 3 ∷ 4 ∷ []) $
    closes ! tt L h' ts b o $ feq_i ! (List Val) (vptr b o ∷ []) (vptr b o ∷ []) refl $ fjoin3 ! $ nothing ! $ nothing ! $ fjoin ! $ move ! (1 ∷ 0 ∷ []) $ fjoin ! $ move ! (1 ∷ 2 ∷ []) $ fjoin ! $
    sets ! (of_opd ! (unit_lit !)) refl (tt, tt) $ use0 𝓛 (raw (fact 𝓤 Told)) (fact_i 𝓤 Told (emp 𝓤) (refl, refl, refl)) $ feq_i ! (List Val) (vunit ∷ []) (vunit ∷ []) refl $
    returns ! (look_at ! 0 refl) $ free_all ! refl $ keep ! (2 ∷ 3 ∷ 0 ∷ 1 ∷ []) $ by ! (leaves 𝓛 ended hs c y vunit tt (h', (tt, tt)) (tt, (tt, tt))))))
