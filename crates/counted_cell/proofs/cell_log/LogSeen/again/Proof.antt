-- `again` copies what was seen.
use Rattle.counted_cell.proofs.Names.{◌≡◌, ℕ, [], ◌∷◌, refl, proved, leaves, named, Val, vptr, SProp, emp, fact, fact_i, ftrue, flft, fhide, ‵, raw, ◌⊛◌, ◌$◌, ◌∵◌, !, qed, by, move, keep, drop, split, join, fsplit, fjoin, use0, use1, no_more, and_then, returns, enter, alloc_all, pass_all, free_all, look_at, get, sets, agg, tables, yes, RattleType, owns, types_at, plain, nothing, unhide, hidden_shr, RefOf, shr_vals, shr_Tells, lent_out, Stays, stay_dropped, walk_of, Goes-dropped}
use denote.Builtin.{unit}
use Rattle.core.specs.contracts.marker.PhantomData as marker
use Rattle.counted_cell.specs.CellLog.{seen_owns}
use Rattle.counted_cell.specs.contracts.cell_log.LogSeen as log_seen
use Rattle.counted_cell.proofs.CellLogFields.{token, SeenMarks, seen_marked}
use Rattle.counted_cell.specs.contracts.cell_log.LogSeen.again.{ended, clauses}
use Rattle.counted_cell.specs.contracts.cell_log.LogSeen.again.Key.{name as #self}
use Rattle.counted_cell.proofs.cell_log.LogSeen.again.Statement.{statement}
use Rattle.counted_cell.proofs.cell_log.LogSeen.again.Code as code

pub again_spec : {M : Type 1} → statement M
again_spec 𝓤 𝓛 𝓜 𝓡 wired =
    let H = 𝓛.H in let 𝓣 = tables 𝓤 H 𝓜 𝓡 𝓡.env in let fn = code.function in let c = clauses 𝓛 𝓜.mem 𝓡.returns in let S : RattleType = log_seen.the_row in let self = RefOf (0 ∷ []) tt (plain (λ _. S)) (λ _. tt) in
    let hs : Stays ended.signature.params ended.kept = (stay_dropped self yes, tt) in
    proved 𝓛 ended hs c 𝓜 𝓡 (Goes-dropped 𝓛 1 self yes (λ κs x f. refl), tt) #self fn (code.unfolded 𝓤 H 𝓜 𝓡 wired)
    (λ κs. (shr_vals, tt)) (λ κs. (shr_Tells (named 0) κs.0 S, tt)) (λ κs qs bounds a gh are.
    let b : ℕ = a.0.ref_ptr.0 in let o : ℕ = a.0.ref_ptr.1 in let h : S.Denot = a.0.now in let Told : Type 0 = h ≡ h in
    let y : (walk_of 𝓛 ended hs c).Ghost = ((κs, qs, bounds, a, (vptr b o ∷ [], tt)), gh) in let Post : Val → SProp 𝓤 = (walk_of 𝓛 ended hs c).post y in
    qed 𝓛 (((‵ (flft κs.0 qs.0) ⊛ ‵ ftrue) ⊛ ‵ (owns (types_at ended.signature.params κs) a y.0.4)) ∷ raw ((c κs a).requires gh) ∷ []) ∵ keep ! (0 ∷ []) $ split ! $ split ! $ move ! (2 ∷ []) $ fsplit ! $ fsplit ! $ keep ! (1 ∷ 3 ∷ 4 ∷ []) $
    enter ! 𝓣.C 𝓣.Λ fn (vptr b o ∷ []) Post $ alloc_all ! (λ l. pass_all ! refl ((tt, tt), tt) $
    use1 𝓛 (‵ (hidden_shr SeenMarks κs.0 (tt, tt) b o) ⊛ ‵ (fhide (seen_owns h.name h.entries h.gone))) (lent_out 𝓛 log_seen.struct (log_seen.the_codes (marker.the_row unit).coded) log_seen.the_heap log_seen.the_lent κs.0 h b o) $
    split ! $ drop ! $ unhide ! $ use0 𝓛 (‵ (SeenMarks.own_val (tt, tt) (token ∷ []))) (seen_marked 𝓛) $ fjoin ! $ sets ! (agg ! (no_more !)) refl (tt, tt) $ sets ! (agg ! (and_then ! (get ! refl) (no_more !))) refl (tt, (tt, tt)) $
    move ! (1 ∷ 2 ∷ []) $ join ! $ nothing ! $ nothing ! $ fjoin ! $ use0 𝓛 (raw (fact 𝓤 Told)) (fact_i 𝓤 Told (emp 𝓤) refl) $
    returns ! (look_at ! 0 refl) $ free_all ! refl $ keep ! (2 ∷ 1 ∷ 3 ∷ 0 ∷ []) $ by ! (leaves 𝓛 ended hs c y token h (tt, tt) (tt, tt))))
