-- A log begins with what was seen of it.
use Rattle.counted_cell.proofs.Names.{◌≡◌, ℕ, List, [], ◌∷◌, refl, proved, leaves, named, Val, vunit, vptr, SProp, emp, fact, fact_i, Fml, ftrue, fsep, flft, fhide, ‵, raw, ◌⊛◌, given, ◌$◌, ◌∵◌, !, qed, by, move, keep, drop, split, fsplit, fsplit3, fjoin, fjoin3, learn, use0, use1, use2, feq_i, of_opd, returns, enter, alloc_all, pass_all, free_all, look_at, sets, tables, yes, RattleType, owns, types_at, plain, nothing, unhide, hidden_shr, RefOf, shr_vals, shr_Tells, lent_out, Stays, stay_dropped, walk_of, Goes-dropped}
use mathlib.Core.List.{IsPrefix}
use types.Run.{unit_lit}
use denote.Builtin.{unit}
use denote.Ref.{mut_vals, mut_Tells}
use denote.Steps.{opens, closes}
use denote.Triple.Walked.{stay_ref, Goes-ref}
use Rattle.core.specs.contracts.marker.PhantomData as marker
use Rattle.counted_cell.specs.CellLog.{log_owns, seen_owns}
use Rattle.counted_cell.specs.contracts.cell_log.CellLog as cell_log
use Rattle.counted_cell.specs.contracts.cell_log.LogSeen as log_seen
use Rattle.counted_cell.proofs.CellLogFields.{SeenMarks}
use Rattle.counted_cell.proofs.CellLogSteps as steps
use Rattle.counted_cell.specs.contracts.cell_log.CellLog.begins.{ended, clauses}
use Rattle.counted_cell.specs.contracts.cell_log.CellLog.begins.Key.{name as #self}
use Rattle.counted_cell.proofs.cell_log.CellLog.begins.Statement.{statement}
use Rattle.counted_cell.proofs.cell_log.CellLog.begins.Code as code

pub begins_spec : {M : Type 1} → statement M
begins_spec 𝓤 𝓛 𝓜 𝓡 wired =
    let H = 𝓛.H in let 𝓣 = tables 𝓤 H 𝓜 𝓡 𝓡.env in let fn = code.function in let c = clauses 𝓛 𝓜.mem 𝓡.returns in let L : RattleType = cell_log.the_row in let S : RattleType = log_seen.the_row in let seen = RefOf (1 ∷ []) tt (plain (λ _. S)) (λ _. tt) in
    let hs : Stays ended.signature.params ended.kept = (stay_ref (0 ∷ []) tt (plain (λ _. L)), (stay_dropped seen yes, tt)) in
    proved 𝓛 ended hs c 𝓜 𝓡 (Goes-ref 𝓛 2 0 tt (plain (λ _. L)), (Goes-dropped 𝓛 2 seen yes (λ κs x f. refl), tt)) #self fn (code.unfolded 𝓤 H 𝓜 𝓡 wired)
    (λ κs. (mut_vals, (shr_vals, tt))) (λ κs. (mut_Tells (named 0) κs.0 L, (shr_Tells (named 1) κs.1.0 S, tt))) (λ κs qs bounds a gh are.
    let b : ℕ = a.0.ref_ptr.0 in let o : ℕ = a.0.ref_ptr.1 in let h : L.Denot = a.0.now in let b' : ℕ = a.1.0.ref_ptr.0 in let o' : ℕ = a.1.0.ref_ptr.1 in let k : S.Denot = a.1.0.now in
    let others : Fml = fsep (flft κs.1.0 qs.1.0) ftrue in let toks : Fml = fsep (flft κs.0 qs.0) others in let Begins : Type 0 = k.name ≡ h.name → IsPrefix k.entries h.entries in let Told : Type 0 = (h ≡ h) × Begins in
    let y : (walk_of 𝓛 ended hs c).Ghost = ((κs, qs, bounds, a, (vptr b o ∷ [], (vptr b' o' ∷ [], tt))), gh) in let Post : Val → SProp 𝓤 = (walk_of 𝓛 ended hs c).post y in
    qed 𝓛 ((‵ toks ⊛ ‵ (owns (types_at ended.signature.params κs) a y.0.4)) ∷ raw ((c κs a).requires gh) ∷ []) ∵ keep ! (0 ∷ []) $ split ! $ fsplit ! $ move ! (2 ∷ []) $ fsplit ! $ fsplit3 ! $ move ! (3 ∷ []) $ fsplit ! $ fsplit ! $ keep ! (1 ∷ 4 ∷ 5 ∷ 6 ∷ 7 ∷ []) $
    -- [the borrow of what was seen; that of the log, in two; its token; the other tokens]
    enter ! 𝓣.C 𝓣.Λ fn (vptr b o ∷ vptr b' o' ∷ []) Post $ alloc_all ! (λ l. pass_all ! refl ((tt, tt), ((tt, tt), tt)) $
    use1 𝓛 (‵ (hidden_shr SeenMarks κs.1.0 (tt, tt) b' o') ⊛ ‵ (fhide (seen_owns k.name k.entries k.gone))) (lent_out 𝓛 log_seen.struct (log_seen.the_codes (marker.the_row unit).coded) log_seen.the_heap log_seen.the_lent κs.1.0 k b' o') $
    split ! $ drop ! $ unhide ! $ move ! (1 ∷ 2 ∷ 3 ∷ []) $ opens ! tt L b o (λ ts. move ! (1 ∷ []) $ fsplit ! $
    -- [the mark; the log; the cell; .. ; what was seen]
    move ! (1 ∷ 6 ∷ []) $ use2 𝓛 (given Begins (‵ (log_owns h.name h.entries h.gone))) (steps.bounds_if 𝓛 h.name k.name h.entries k.entries h.gone k.gone) $ learn ! (λ so. move ! (1 ∷ 0 ∷ []) $ fjoin ! $ move ! (1 ∷ 0 ∷ 2 ∷ 3 ∷ 4 ∷ []) $
    closes ! tt L h ts b o $ feq_i ! (List Val) (vptr b o ∷ []) (vptr b o ∷ []) refl $ fjoin3 ! $ nothing ! $ nothing ! $ fjoin ! $ move ! (1 ∷ 0 ∷ []) $ fjoin ! $ move ! (1 ∷ 2 ∷ []) $ fjoin ! $
    sets ! (of_opd ! (unit_lit !)) refl (tt, tt) $ use0 𝓛 (raw (fact 𝓤 Told)) (fact_i 𝓤 Told (emp 𝓤) (refl, so)) $ feq_i ! (List Val) (vunit ∷ []) (vunit ∷ []) refl $
    returns ! (look_at ! 0 refl) $ free_all ! refl $ keep ! (2 ∷ 3 ∷ 0 ∷ 1 ∷ []) $ by ! (leaves 𝓛 ended hs c y vunit tt (h, (tt, tt)) (tt, (tt, tt)))))))
