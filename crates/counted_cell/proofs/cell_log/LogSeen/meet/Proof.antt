-- What was seen of one row are beginnings of one row.
use Rattle.counted_cell.proofs.Names.{◌≡◌, ℕ, List, [], ◌∷◌, refl, proved, leaves, named, Val, vunit, vptr, SProp, emp, fact, fact_i, Fml, ftrue, fsep, flft, fhide, ‵, raw, ◌⊛◌, given, ◌$◌, ◌∵◌, !, qed, by, move, keep, drop, split, fsplit, fjoin, learn, use0, use1, use2, feq_i, of_opd, returns, enter, alloc_all, pass_all, free_all, look_at, sets, tables, yes, RattleType, owns, types_at, plain, nothing, unhide, hidden_shr, RefOf, shr_vals, shr_Tells, lent_out, Stays, stay_dropped, walk_of, Goes-dropped}
use types.Run.{unit_lit}
use denote.Builtin.{unit}
use Rattle.core.specs.contracts.marker.PhantomData as marker
use Rattle.counted_cell.specs.CellLog.{seen_owns}
use Rattle.counted_cell.specs.contracts.cell_log.LogSeen as log_seen
use Rattle.counted_cell.proofs.CellLogFields.{SeenMarks}
use Rattle.counted_cell.proofs.CellLogSteps as steps
use Rattle.counted_cell.specs.contracts.cell_log.LogSeen.meet.{ended, clauses}
use Rattle.counted_cell.specs.contracts.cell_log.LogSeen.meet.Key.{name as #self}
use Rattle.counted_cell.proofs.cell_log.LogSeen.meet.Statement.{statement}
use Rattle.counted_cell.proofs.cell_log.LogSeen.meet.Code as code

pub meet_spec : {M : Type 1} → statement M
meet_spec 𝓤 𝓛 𝓜 𝓡 wired =
    let H = 𝓛.H in let 𝓣 = tables 𝓤 H 𝓜 𝓡 𝓡.env in let fn = code.function in let c = clauses 𝓛 𝓜.mem 𝓡.returns in let S : RattleType = log_seen.the_row in let self = RefOf (0 ∷ []) tt (plain (λ _. S)) (λ _. tt) in let next = RefOf (1 ∷ []) tt (plain (λ _. S)) (λ _. tt) in
    let hs : Stays ended.signature.params ended.kept = (stay_dropped self yes, (stay_dropped next yes, tt)) in
    proved 𝓛 ended hs c 𝓜 𝓡 (Goes-dropped 𝓛 2 self yes (λ κs x f. refl), (Goes-dropped 𝓛 2 next yes (λ κs x f. refl), tt)) #self fn (code.unfolded 𝓤 H 𝓜 𝓡 wired)
    (λ κs. (shr_vals, (shr_vals, tt))) (λ κs. (shr_Tells (named 0) κs.0 S, (shr_Tells (named 1) κs.1.0 S, tt))) (λ κs qs bounds a gh are.
    let b : ℕ = a.0.ref_ptr.0 in let o : ℕ = a.0.ref_ptr.1 in let h : S.Denot = a.0.now in let b' : ℕ = a.1.0.ref_ptr.0 in let o' : ℕ = a.1.0.ref_ptr.1 in let k : S.Denot = a.1.0.now in let Told : Type 0 = k.name ≡ h.name → steps.Both 𝓛 h.entries k.entries in
    let toks : Fml = fsep (flft κs.0 qs.0) (fsep (flft κs.1.0 qs.1.0) ftrue) in
    let y : (walk_of 𝓛 ended hs c).Ghost = ((κs, qs, bounds, a, (vptr b o ∷ [], (vptr b' o' ∷ [], tt))), gh) in let Post : Val → SProp 𝓤 = (walk_of 𝓛 ended hs c).post y in
    qed 𝓛 ((‵ toks ⊛ ‵ (owns (types_at ended.signature.params κs) a y.0.4)) ∷ raw ((c κs a).requires gh) ∷ []) ∵ keep ! (0 ∷ []) $ split ! $ move ! (1 ∷ []) $ fsplit ! $ fsplit ! $ move ! (2 ∷ []) $ fsplit ! $ fsplit ! $ keep ! (4 ∷ 1 ∷ 5 ∷ []) $
    enter ! 𝓣.C 𝓣.Λ fn (vptr b o ∷ vptr b' o' ∷ []) Post $ alloc_all ! (λ l. pass_all ! refl ((tt, tt), ((tt, tt), tt)) $
    use1 𝓛 (‵ (hidden_shr SeenMarks κs.0 (tt, tt) b o) ⊛ ‵ (fhide (seen_owns h.name h.entries h.gone))) (lent_out 𝓛 log_seen.struct (log_seen.the_codes (marker.the_row unit).coded) log_seen.the_heap log_seen.the_lent κs.0 h b o) $
    split ! $ drop ! $ unhide ! $ move ! (1 ∷ []) $
    use1 𝓛 (‵ (hidden_shr SeenMarks κs.1.0 (tt, tt) b' o') ⊛ ‵ (fhide (seen_owns k.name k.entries k.gone))) (lent_out 𝓛 log_seen.struct (log_seen.the_codes (marker.the_row unit).coded) log_seen.the_heap log_seen.the_lent κs.1.0 k b' o') $
    split ! $ drop ! $ unhide ! $ move ! (1 ∷ 0 ∷ []) $
    use2 𝓛 (given Told (‵ ftrue)) (steps.meets_if 𝓛 h.name k.name h.entries k.entries h.gone k.gone) $ learn ! (λ so. drop ! $
    sets ! (of_opd ! (unit_lit !)) refl (tt, tt) $ nothing ! $ nothing ! $ fjoin ! $ nothing ! $ fjoin ! $ use0 𝓛 (raw (fact 𝓤 Told)) (fact_i 𝓤 Told (emp 𝓤) so) $ feq_i ! (List Val) (vunit ∷ []) (vunit ∷ []) refl $
    returns ! (look_at ! 0 refl) $ free_all ! refl $ keep ! (3 ∷ 2 ∷ 0 ∷ 1 ∷ []) $ by ! (leaves 𝓛 ended hs c y vunit tt (tt, (tt, tt)) (tt, (tt, tt))))))
