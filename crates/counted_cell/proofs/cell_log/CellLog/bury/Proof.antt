-- `bury` keeps that a lifetime has ended.
use Rattle.counted_cell.proofs.Names.{◌≡◌, ℕ, List, [], ◌∷◌, refl, proved, leaves, named, Val, vunit, vptr, SProp, emp, fact, fact_i, ftrue, flft, fdead, ‵, raw, ◌⊛◌, given, ◌$◌, ◌∵◌, !, qed, by, move, keep, drop, split, join, fsplit, fsplit3, fjoin, fjoin3, learn, use0, use1, use2, feq_i, of_opd, returns, enter, alloc_all, pass_all, free_all, look_at, sets, tables, yes, RattleType, owns, types_at, plain, nothing, Stays, stay_dropped, walk_of, Goes-dropped}
use types.Run.{unit_lit}
use denote.Ref.{mut_vals, mut_Tells}
use denote.Steps.{opens, closes}
use denote.Triple.Walked.{stay_ref, Goes-ref}
use Rattle.counted_cell.specs.CellLog.{log_owns}
use Rattle.counted_cell.specs.contracts.cell_log.CellLog as cell_log
use Rattle.counted_cell.proofs.CellLogSteps as steps
use Rattle.counted_cell.specs.contracts.cell_log.CellLog.bury.{ended, clauses}
use Rattle.counted_cell.specs.contracts.cell_log.CellLog.bury.Key.{name as #self}
use Rattle.counted_cell.proofs.cell_log.CellLog.bury.Statement.{statement}
use Rattle.counted_cell.proofs.cell_log.CellLog.bury.Code as code
use base.Logic.{all_e}
use Rattle.counted_cell.specs.Counting.{CellName}
use Rattle.counted_cell.specs.contracts.cell_ref.Reading as reading
use Rattle.counted_cell.proofs.CellRefFields.{reading_word, reading_told}

pub bury_spec : {M : Type 1} → statement M
bury_spec 𝓤 𝓛 𝓜 𝓡 wired =
    let H = 𝓛.H in let 𝓣 = tables 𝓤 H 𝓜 𝓡 𝓡.env in let fn = code.function in let c = clauses 𝓛 𝓜.mem 𝓡.returns in let L : RattleType = cell_log.the_row in let Rd : RattleType = reading.the_row in
    let hs : Stays ended.signature.params ended.kept = (stay_ref (0 ∷ []) tt (plain (λ _. L)), (stay_dropped (plain (λ _. Rd)) yes, tt)) in
    proved 𝓛 ended hs c 𝓜 𝓡 (Goes-ref 𝓛 1 0 tt (plain (λ _. L)), (Goes-dropped 𝓛 1 (plain (λ _. Rd)) yes (λ κs x f. refl), tt)) #self fn (code.unfolded 𝓤 H 𝓜 𝓡 wired)
    (λ κs. (mut_vals, ((λ e. reading_word ∷ []), tt))) (λ κs. (mut_Tells (named 0) κs.0 L, ((λ e vs so. reading_told vs so.0), tt))) (λ κs qs bounds a gh are.
    let b : ℕ = a.0.ref_ptr.0 in let o : ℕ = a.0.ref_ptr.1 in let h : L.Denot = a.0.now in let s : Rd.Denot = a.1.0 in let t : CellName = s.name in let h' : L.Denot = record { mark = h.mark; name = h.name; entries = h.entries; gone = t ∷ h.gone } in
    let Told : Type 0 = (h.name ≡ h.name) × (h.entries ≡ h.entries) × (h'.gone ≡ h'.gone) in
    let y : (walk_of 𝓛 ended hs c).Ghost = ((κs, qs, bounds, a, (vptr b o ∷ [], (reading_word ∷ [], tt))), gh) in let Post : Val → SProp 𝓤 = (walk_of 𝓛 ended hs c).post y in
    qed 𝓛 (((‵ (flft κs.0 qs.0) ⊛ ‵ ftrue) ⊛ ‵ (owns (types_at ended.signature.params κs) a y.0.4)) ∷ given (s.count ≡ 0) (‵ ftrue) ∷ []) ∵ move ! (1 ∷ []) $ learn ! (λ zero. drop ! $ split ! $ split ! $ move ! (2 ∷ []) $ fsplit ! $ fsplit3 ! $ move ! (3 ∷ []) $ fsplit ! $ fsplit ! $ keep ! (4 ∷ 5 ∷ 6 ∷ 1 ∷ []) $
    enter ! 𝓣.C 𝓣.Λ fn (vptr b o ∷ reading_word ∷ []) Post $ alloc_all ! (λ l. pass_all ! refl ((tt, tt), ((tt, (tt, tt)), tt)) $ move ! (3 ∷ []) $
    use1 𝓛 (‵ (fdead (t.share_life ∷ []))) (all_e 𝓤 (λ (_ : s.count ≡ 0). 𝓛.A.dead (t.share_life ∷ [])) zero) $ move ! (1 ∷ 2 ∷ 3 ∷ []) $ opens ! tt L b o (λ ts. move ! (1 ∷ []) $ fsplit ! $
    -- [the mark; the log; the cell; .. ; the end of the lifetime]
    move ! (1 ∷ 6 ∷ []) $ use2 𝓛 (‵ (log_owns h.name h.entries (t ∷ h.gone))) (steps.buries 𝓛 h.name h.entries h.gone t) $ move ! (1 ∷ 0 ∷ []) $ fjoin ! $ move ! (1 ∷ 0 ∷ 2 ∷ 3 ∷ 4 ∷ []) $
    closes ! tt L h' ts b o $ feq_i ! (List Val) (vptr b o ∷ []) (vptr b o ∷ []) refl $ fjoin3 ! $ nothing ! $ nothing ! $ fjoin ! $ move ! (1 ∷ 0 ∷ []) $ fjoin ! $ nothing ! $ move ! (2 ∷ 0 ∷ []) $ join ! $
    sets ! (of_opd ! (unit_lit !)) refl (tt, tt) $ use0 𝓛 (raw (fact 𝓤 Told)) (fact_i 𝓤 Told (emp 𝓤) (refl, refl, refl)) $ feq_i ! (List Val) (vunit ∷ []) (vunit ∷ []) refl $
    returns ! (look_at ! 0 refl) $ free_all ! refl $ keep ! (2 ∷ 3 ∷ 0 ∷ 1 ∷ []) $ by ! (leaves 𝓛 ended hs c y vunit tt (h', (tt, tt)) (tt, (tt, tt)))))))
