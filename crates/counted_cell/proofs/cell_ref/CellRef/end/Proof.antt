-- `end` adds the size of a header to the pointer.
use Rattle.counted_cell.proofs.Names.{◌≡◌, ℕ, ◌+◌, ◌^◌, ◌<◌, List, [], ◌∷◌, sym, refl, ap, ◌∙◌, arith, proved, leaves, a_type, named, Val, vptr, inst_fn, SProp, emp, fact, fact_i, Lft, Fml, ftrue, fsep, fhide, flft, ‵, raw, ◌⊛◌, given, at_ret, ◌$◌, ◌∵◌, !, qed, by, move, keep, drop, split, join, fsplit, fjoin, learn, use0, use1, rewrite, stop, fld, load, of_opd, bin, no_more, and_then, first, blocks, exec, returns, enter, alloc_all, pass_all, free_all, look_at, get, through, sets, sets_last, is, env, agg, sub, whole, look_in, tables, yes, RattleType, owns, types_at, plain, Ptr, InBlock, block_ptr, block_of, count_of, at_block, nothing, peeks, heard, looks, shuts, unhide, Is, shows, cell_at, hidden_shr, param, layouts, RefOf, shr_vals, shr_Tells, lent_out, Stays, stay_dropped, walk_of, Goes-dropped, after}
use types.Run.{size_lit}
use denote.RawPtr.{◌+ₚ◌}
use Rattle.counted_cell.specs.BlockRight.{header_bytes}
use Rattle.counted_cell.specs.Counting.{CanRead, seen_by, ref_shares}
use Rattle.counted_cell.specs.contracts.cell_ref.CellRef as cell_ref
use Rattle.counted_cell.proofs.CellRefFields.{word_of, Data, told, opened, seen_in}
use Rattle.counted_cell.proofs.PlacesSteps.{word_made}
use Rattle.counted_cell.specs.contracts.cell_ref.CellRef.end.{ended, clauses}
use Rattle.counted_cell.specs.contracts.cell_ref.CellRef.end.Key.{name as #self}
use Rattle.counted_cell.proofs.cell_ref.CellRef.end.Statement.{statement}
use Rattle.counted_cell.proofs.cell_ref.CellRef.end.Code as code

pub end_spec : {M : Type 1} → statement M
end_spec 𝓤 𝓛 𝓜 𝓡 wired X L =
    let H = 𝓛.H in let 𝓣 = tables 𝓤 H 𝓜 𝓡 𝓡.env in let R : RattleType = param 0 X in let En = ended X in let inst = layouts (a_type ∷ []) (X, tt) in let fn = inst_fn inst code.function in
    let Row : RattleType = cell_ref.the_row R in let D : RattleType = Data R in let c = clauses X 𝓛 𝓜.mem 𝓡.returns in
    let self = RefOf (0 ∷ []) tt (plain (λ _. Row)) (λ _. tt) in let hs : Stays En.signature.params En.kept = (stay_dropped self yes, tt) in
    proved 𝓛 En hs c 𝓜 𝓡 (Goes-dropped 𝓛 2 self yes (λ κs x f. refl), tt) (#self inst) fn (code.unfolded 𝓤 H 𝓜 𝓡 wired (X, tt))
    (λ κs. (shr_vals, tt)) (λ κs. (shr_Tells (named 0) κs.0 Row, tt)) (λ κs qs bounds a gh are.
    let b : ℕ = a.0.ref_ptr.0 in let o : ℕ = a.0.ref_ptr.1 in let κ : Lft = κs.0 in let d : Row.Denot = a.0.now in let p : Ptr = d.ptr in let x : X.Denot = d.value in let t = d.name in let others : Fml = fsep (flft κs.1.0 qs.1.0) ftrue in
    let pb : ℕ = block_of p in let po : ℕ = count_of p in let far : ℕ = header_bytes R in let there : Ptr = block_ptr pb (po + far) in let Asked : Type 0 = CanRead d.right in let Fits : Type 0 = far < 2 ^ 63 in let Told : Type 0 = there ≡ p +ₚ far in
    let y : (walk_of 𝓛 En hs c).Ghost = ((κs, qs, bounds, a, (vptr b o ∷ [], tt)), gh) in let Post : Val → SProp 𝓤 = (walk_of 𝓛 En hs c).post y in
    qed 𝓛 (((‵ (flft κ qs.0) ⊛ ‵ others) ⊛ ‵ (owns (types_at En.signature.params κs) a y.0.4)) ∷ raw (fact 𝓤 _) ∷ raw (fact 𝓤 Asked) ∷ raw (fact 𝓤 Fits) ∷ []) ∵
    keep ! (2 ∷ 3 ∷ 0 ∷ []) $ heard ! Asked (λ asked. heard ! Fits (λ fits. let small : far < 2 ^ 64 = omega (arith, fits) in
    split ! $ split ! $ move ! (2 ∷ []) $ fsplit ! $ fsplit ! $ keep ! (1 ∷ 3 ∷ 4 ∷ []) $
    enter ! 𝓣.C 𝓣.Λ fn (vptr b o ∷ []) Post $ alloc_all ! (λ l. pass_all ! refl ((tt, tt), tt) $ let Ev = env fn.locals l in
    use1 𝓛 (‵ (hidden_shr D κ (p, tt) b o) ⊛ ‵ (fhide (ref_shares R p x t d.right κ))) (lent_out 𝓛 (cell_ref.struct R) (cell_ref.the_codes X.Denot R.coded) (cell_ref.the_heap R) (cell_ref.the_lent R) κ d b o) $
    split ! $ move ! (1 ∷ []) $ unhide ! $ use1 𝓛 (given (InBlock p) (‵ (seen_by R pb po x t κ))) (seen_in 𝓛 R x t p d.right asked κ) $ learn ! (λ inb. drop ! $
    looks ! tt D (opened R 𝓛) (p, tt) b o (λ q vs. move ! (1 ∷ []) $ peeks ! D (Is D) (shows 𝓛 D) (p, tt) vs (λ so.
    let ev : vs ≡ word_of (block_ptr pb po) ∷ [] = told R p vs so ∙ ap (λ (r : Ptr). word_of r ∷ []) (at_block p inb) in
    rewrite ! 1 (λ (ws : List Val). ‵ (cell_at q D.mir ws b o)) ev refl $
    sets ! (of_opd ! (load ! (through ! refl (fld ! refl (stop !))) (look_in ! 1 (sub ! 0 refl (whole !))))) refl (tt, tt) $
    rewrite ! 1 (λ (ws : List Val). ‵ (cell_at q D.mir ws b o)) (sym ev) refl $ move ! (1 ∷ 0 ∷ 2 ∷ []) $ shuts ! tt D q (p, tt) vs b o $
    -- [the token; the fields; others]
    move ! (0 ∷ 2 ∷ []) $ join ! $ first ! $ blocks ! $ sets ! (of_opd ! (get ! refl)) refl (tt, tt) $ sets ! (of_opd ! (get ! refl)) refl (tt, tt) $
    sets_last ! (is ! (bin ! (get ! refl) (size_lit ! (record { fits = small })) tt) (ap (vptr pb) {x = far + po} {y = po + far} (omega arith))) refl (tt, tt) $
    exec ! 𝓣.C 𝓣.Λ Ev (after 2 fn.body) (at_ret Ev Post) $ sets ! (of_opd ! (get ! refl)) refl (tt, tt) $ sets ! (agg ! (and_then ! (get ! refl) (no_more !))) refl (tt, (tt, tt)) $
    word_made ! there $ use0 𝓛 (raw (fact 𝓤 Told)) (fact_i 𝓤 Told (emp 𝓤) (sym (ap (λ (r : Ptr). r +ₚ far) (at_block p inb)))) $ nothing ! $ nothing ! $ fjoin ! $
    returns ! (look_at ! 0 refl) $ free_all ! refl $ keep ! (3 ∷ 0 ∷ 2 ∷ 1 ∷ []) $ by ! (leaves 𝓛 En hs c y (word_of there) (record { ptr = there }) (tt, tt) (tt, tt)))))))))
