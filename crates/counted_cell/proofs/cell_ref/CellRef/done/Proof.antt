-- `done` lets go of a reference that owns nothing.
use Rattle.counted_cell.proofs.Names.{◌≡◌, List, [], ◌∷◌, refl, proved, leaves, a_type, Val, inst_fn, SProp, fact, ftrue, flft, ‵, raw, ◌⊛◌, ◌$◌, ◌∵◌, !, qed, by, move, keep, split, fjoin, feq_i, of_opd, returns, enter, alloc_all, pass_all, free_all, look_at, sets, tables, no, RattleType, owns, types_at, plain, Ptr, nothing, param, layouts, Stays, stay_dropped, walk_of, Goes-dropped}
use mir.Val.{vunit}
use types.Run.{unit_lit}
use Rattle.std_alloc.proofs.RcSteps.{word-Good}
use Rattle.counted_cell.specs.contracts.cell_ref.CellRef as cell_ref
use Rattle.counted_cell.specs.Counting.{no_right}
use Rattle.counted_cell.proofs.CellRefFields.{word_of, told}
use Rattle.counted_cell.specs.contracts.cell_ref.CellRef.done.{ended, clauses}
use Rattle.counted_cell.specs.contracts.cell_ref.CellRef.done.Key.{name as #self}
use Rattle.counted_cell.proofs.cell_ref.CellRef.done.Statement.{statement}
use Rattle.counted_cell.proofs.cell_ref.CellRef.done.Code as code

pub done_spec : {M : Type 1} → statement M
done_spec 𝓤 𝓛 𝓜 𝓡 wired X L =
    let H = 𝓛.H in let 𝓣 = tables 𝓤 H 𝓜 𝓡 𝓡.env in let R : RattleType = param 0 X in let En = ended X in let inst = layouts (a_type ∷ []) (X, tt) in let fn = inst_fn inst code.function in
    let Row : RattleType = cell_ref.the_row R in let c = clauses X 𝓛 𝓜.mem 𝓡.returns in let self = plain (λ _. Row) in let hs : Stays En.signature.params En.kept = (stay_dropped self no, tt) in
    proved 𝓛 En hs c 𝓜 𝓡 (Goes-dropped 𝓛 1 self no (λ κs x f. refl), tt) (#self inst) fn (code.unfolded 𝓤 H 𝓜 𝓡 wired (X, tt))
    (λ κs. ((λ e. word_of e.ptr ∷ []), tt)) (λ κs. ((λ e vs so. told R e.ptr vs so.0), tt)) (λ κs qs bounds a gh are.
    let d : Row.Denot = a.0 in let p : Ptr = d.ptr in
    let y : (walk_of 𝓛 En hs c).Ghost = ((κs, qs, bounds, a, (word_of p ∷ [], tt)), gh) in let Post : Val → SProp 𝓤 = (walk_of 𝓛 En hs c).post y in
    qed 𝓛 (((‵ (flft κs.0 qs.0) ⊛ ‵ ftrue) ⊛ ‵ (owns (types_at En.signature.params κs) a y.0.4)) ∷ raw (fact 𝓤 _) ∷ raw (fact 𝓤 (d.right ≡ no_right)) ∷ []) ∵
    keep ! (0 ∷ []) $ split ! $ keep ! (0 ∷ []) $
    enter ! 𝓣.C 𝓣.Λ fn (word_of p ∷ []) Post $ alloc_all ! (λ l. pass_all ! refl (word-Good [] p, tt) $ sets ! (of_opd ! (unit_lit !)) refl (tt, tt) $ returns ! (look_at ! 0 refl) $ free_all ! refl $
    feq_i ! (List Val) (vunit ∷ []) (vunit ∷ []) refl $ nothing ! $ nothing ! $ nothing ! $ fjoin ! $ move ! (3 ∷ 0 ∷ 2 ∷ 1 ∷ []) $ by ! (leaves 𝓛 En hs c y vunit tt (tt, tt) (tt, tt))))
