-- What is read of a cell that has a share is not 0: at 0 none would be left.
use Rattle.counted_cell.proofs.Names.{◌≡◌, ◌≢◌, ℕ, List, [], ◌∷◌, refl, proved, leaves, named, a_type, inst_fn, Val, vunit, vptr, SProp, emp, fact, fact_i, Lft, Fml, ftrue, fsep, flft, fhide, ‵, raw, ◌⊛◌, given, ◌$◌, ◌∵◌, !, qed, by, move, keep, drop, split, fsplit, fjoin, learn, use0, use1, use2, rewrite, feq_i, of_opd, returns, enter, alloc_all, pass_all, free_all, look_at, sets, tables, yes, RattleType, owns, types_at, plain, nothing, heard, unhide, hidden_shr, param, layouts, Ptr, block_of, count_of, RefOf, shr_vals, shr_Tells, lent_out, Stays, stay_dropped, walk_of, Goes-dropped, shr_bor-open, obor_close, tokens_halve}
use types.Run.{unit_lit}
use denote.Sharing.{one}
use Rattle.counted_cell.specs.Counting.{CellName, Right, share_right, ref_shares, reading_owns}
use Rattle.counted_cell.specs.contracts.cell_ref.CellRef as cell_ref
use Rattle.counted_cell.specs.contracts.cell_ref.Reading as reading
use Rattle.counted_cell.proofs.CellRefFields.{Data, share_in, reading_word, reading_told}
use Rattle.counted_cell.proofs.Steps.{counts}
use Rattle.counted_cell.specs.contracts.cell_ref.is_counted.{ended, clauses}
use Rattle.counted_cell.specs.contracts.cell_ref.is_counted.Key.{name as #self}
use Rattle.counted_cell.proofs.cell_ref.is_counted.Statement.{statement}
use Rattle.counted_cell.proofs.cell_ref.is_counted.Code as code

pub is_counted_spec : {M : Type 1} → statement M
is_counted_spec 𝓤 𝓛 𝓜 𝓡 wired X L =
    let H = 𝓛.H in let 𝓣 = tables 𝓤 H 𝓜 𝓡 𝓡.env in let R : RattleType = param 0 X in let En = ended X in let inst = layouts (a_type ∷ []) (X, tt) in let fn = inst_fn inst code.function in
    let Row : RattleType = cell_ref.the_row R in let Seen : RattleType = reading.the_row in let c = clauses X 𝓛 𝓜.mem 𝓡.returns in
    let seen = plain (λ _. Seen) in let share = RefOf (0 ∷ []) tt (plain (λ _. Row)) (λ _. tt) in let hs : Stays En.signature.params En.kept = (stay_dropped seen yes, (stay_dropped share yes, tt)) in
    proved 𝓛 En hs c 𝓜 𝓡 (Goes-dropped 𝓛 2 seen yes (λ κs x f. refl), (Goes-dropped 𝓛 2 share yes (λ κs x f. refl), tt)) (#self inst) fn (code.unfolded 𝓤 H 𝓜 𝓡 wired (X, tt))
    (λ κs. ((λ e. reading_word ∷ []), (shr_vals, tt))) (λ κs. ((λ e vs so. reading_told vs so.0), (shr_Tells (named 0) κs.0 Row, tt))) (λ κs qs bounds a gh are.
    let κ : Lft = κs.0 in let s : Seen.Denot = a.0 in let b : ℕ = a.1.0.ref_ptr.0 in let o : ℕ = a.1.0.ref_ptr.1 in let d : Row.Denot = a.1.0.now in let p : Ptr = d.ptr in let t : CellName = d.name in
    let Same : Type 0 = s.name ≡ t in let Is : Type 0 = d.right ≡ share_right in let Told : Type 0 = s.count ≢ 0 in
    let others : Fml = fsep (flft κs.1.0 qs.1.0) ftrue in let toks : Fml = fsep (flft κ qs.0) others in
    let y : (walk_of 𝓛 En hs c).Ghost = ((κs, qs, bounds, a, (reading_word ∷ [], (vptr b o ∷ [], tt))), gh) in let Post : Val → SProp 𝓤 = (walk_of 𝓛 En hs c).post y in
    qed 𝓛 ((‵ toks ⊛ ‵ (owns (types_at En.signature.params κs) a y.0.4)) ∷ raw (fact 𝓤 _) ∷ raw (fact 𝓤 Same) ∷ raw (fact 𝓤 Is) ∷ []) ∵
    keep ! (2 ∷ 3 ∷ 0 ∷ []) $ heard ! Same (λ same. heard ! Is (λ is. split ! $ fsplit ! $ move ! (2 ∷ []) $ fsplit ! $ fsplit ! $ keep ! (2 ∷ 1 ∷ 3 ∷ 4 ∷ []) $ fsplit ! $ fsplit ! $ keep ! (1 ∷ 3 ∷ 4 ∷ 5 ∷ []) $
    -- [the borrowed share; the reading; its token; the other tokens]
    use1 𝓛 (‵ (hidden_shr (Data R) κ (p, tt) b o) ⊛ ‵ (fhide (ref_shares R p d.value t d.right κ))) (lent_out 𝓛 (cell_ref.struct R) (cell_ref.the_codes X.Denot R.coded) (cell_ref.the_heap R) (cell_ref.the_lent R) κ d b o) $
    split ! $ drop ! $ unhide ! $ rewrite ! 0 (λ (k : Right). ‵ (ref_shares R p d.value t k κ)) is refl $ use1 𝓛 (‵ (one (λ r. flft (t.share_life ∷ []) r) κ)) (share_in 𝓛 R d.value t p κ) $ move ! (0 ∷ 2 ∷ []) $
    enter ! 𝓣.C 𝓣.Λ fn (reading_word ∷ vptr b o ∷ []) Post $ alloc_all ! (λ l. pass_all ! refl ((tt, (tt, tt)), ((tt, tt), tt)) $ shr_bor-open ! tt (tokens_halve 𝓛 (t.share_life ∷ [])) (λ r. move ! (2 ∷ 1 ∷ []) $
    rewrite ! 0 (λ (n : CellName). ‵ (reading_owns n s.count)) same refl $ use2 𝓛 (given Told (‵ (flft (t.share_life ∷ []) r))) (counts 𝓛 (block_of p) (count_of p) t s.count r) $ learn ! (λ so. move ! (1 ∷ 0 ∷ []) $ obor_close ! tt $ drop ! $ fjoin ! $
    sets ! (of_opd ! (unit_lit !)) refl (tt, tt) $ nothing ! $ nothing ! $ fjoin ! $ nothing ! $ fjoin ! $ use0 𝓛 (raw (fact 𝓤 Told)) (fact_i 𝓤 Told (emp 𝓤) so) $ feq_i ! (List Val) (vunit ∷ []) (vunit ∷ []) refl $
    returns ! (look_at ! 0 refl) $ free_all ! refl $ keep ! (3 ∷ 2 ∷ 0 ∷ 1 ∷ []) $ by ! (leaves 𝓛 En hs c y vunit tt (tt, (tt, tt)) (tt, (tt, tt)))))))))
