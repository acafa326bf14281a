-- `load` is one load.
use Rattle.counted_cell.proofs.Names.{◌≡◌, ℕ, ◌+◌, ◌^◌, List, [], ◌∷◌, ◌++◌, sym, refl, ap, ◌∙◌, lit<, w64, proved, leaves, a_type, named, Val, vint, vptr, vstruct, vcons, vnil, of_list, inst_fn, SProp, emp, via, fact, fact_i, Lft, Fml, ftrue, fsep, feq, fhide, flft, ‵, raw, ◌⊛◌, given, mean, at_ret, ◌$◌, ◌∵◌, !, qed, by, move, keep, drop, split, join, fsplit, fsplit3, fjoin, fjoin3, fpack, learn, use0, use1, use2, rewrite, feq_i, flt_i, stop, fld, load, addr, lit, of_opd, no_more, and_then, first, blocks, exec, Calls-last, returns, enter, alloc_all, pass_all, free_all, look_at, get, through, sets, lands_last, env, agg, sub, whole, look_in, tables, yes, RattleType, Valss, owns, types_at, plain, Ptr, InBlock, block_ptr, block_of, count_of, at_block, nothing, peeks, heard, looks, shuts, unhide, Is, shows, cell_at, hidden_shr, param, layouts, param_laws, RefOf, u64, shr_vals, shr_Tells, lent_out, Stays, stay_dropped, walk_of, Goes-dropped, after, fm, seq_cst, found, finds, loads, shr_bor-open, obor_close, tokens_halve}
use base.Share
use Rattle.counted_cell.specs.Counting.{CanRead, seen_by, ref_shares}
use Rattle.counted_cell.specs.contracts.cell_ref.CellRef as cell_ref
use Rattle.counted_cell.specs.contracts.cell_ref.Reading as reading
use Rattle.counted_cell.proofs.CellRefFields.{word_of, Data, told, opened, seen_in, reading_word, Marks, marked}
use Rattle.counted_cell.proofs.Steps.{Looked, looks as looks_at}
use Rattle.counted_cell.specs.contracts.cell_ref.CellRef.load.{ended, clauses}
use Rattle.counted_cell.specs.contracts.cell_ref.CellRef.load.Key.{name as #self}
use Rattle.counted_cell.proofs.cell_ref.CellRef.load.Statement.{statement}
use Rattle.counted_cell.proofs.cell_ref.CellRef.load.Code as code

pub load_spec : {M : Type 1} → statement M
load_spec 𝓤 𝓛 𝓜 𝓡 wired X L =
    let H = 𝓛.H in let 𝓣 = tables 𝓤 H 𝓜 𝓡 𝓡.env in let R : RattleType = param 0 X in let En = ended X in let inst = layouts (a_type ∷ []) (X, tt) in let fn = inst_fn inst code.function in
    let Row : RattleType = cell_ref.the_row R in let D : RattleType = Data R in let c = clauses X 𝓛 𝓜.mem 𝓡.returns in let laws = (param_laws 0 X L).shr_laws in
    let self = RefOf (0 ∷ []) tt (plain (λ _. Row)) (λ _. tt) in let hs : Stays En.signature.params En.kept = (stay_dropped self yes, tt) in let Seen : RattleType = reading.the_row in
    proved 𝓛 En hs c 𝓜 𝓡 (Goes-dropped 𝓛 2 self yes (λ κs x f. refl), tt) (#self inst) fn (code.unfolded 𝓤 H 𝓜 𝓡 wired (X, tt))
    (λ κs. (shr_vals, tt)) (λ κs. (shr_Tells (named 0) κs.0 Row, tt)) (λ κs qs bounds a gh are.
    let b : ℕ = a.0.ref_ptr.0 in let o : ℕ = a.0.ref_ptr.1 in let κ : Lft = κs.0 in let d : Row.Denot = a.0.now in let p : Ptr = d.ptr in let x : X.Denot = d.value in let t = d.name in let others : Fml = fsep (flft κs.1.0 qs.1.0) ftrue in
    let pb : ℕ = block_of p in let po : ℕ = count_of p in let Asked : Type 0 = CanRead d.right in
    let y : (walk_of 𝓛 En hs c).Ghost = ((κs, qs, bounds, a, (vptr b o ∷ [], tt)), gh) in let Post : Val → SProp 𝓤 = (walk_of 𝓛 En hs c).post y in
    qed 𝓛 (((‵ (flft κ qs.0) ⊛ ‵ others) ⊛ ‵ (owns (types_at En.signature.params κs) a y.0.4)) ∷ raw (fact 𝓤 _) ∷ raw (fact 𝓤 Asked) ∷ []) ∵
    keep ! (2 ∷ 0 ∷ []) $ heard ! Asked (λ asked. split ! $ split ! $ move ! (2 ∷ []) $ fsplit ! $ fsplit ! $ keep ! (1 ∷ 3 ∷ 4 ∷ []) $
    enter ! 𝓣.C 𝓣.Λ fn (vptr b o ∷ []) Post $ alloc_all ! (λ l. pass_all ! refl ((tt, tt), tt) $ let Ev = env fn.locals l in
    use1 𝓛 (‵ (hidden_shr D κ (p, tt) b o) ⊛ ‵ (fhide (ref_shares R p x t d.right κ))) (lent_out 𝓛 (cell_ref.struct R) (cell_ref.the_codes X.Denot R.coded) (cell_ref.the_heap R) (cell_ref.the_lent R) κ d b o) $
    split ! $ move ! (1 ∷ []) $ unhide ! $ use1 𝓛 (given (InBlock p) (‵ (seen_by R pb po x t κ))) (seen_in 𝓛 R x t p d.right asked κ) $ learn ! (λ inb. fsplit3 ! $ move ! (3 ∷ 4 ∷ []) $
    looks ! tt D (opened R 𝓛) (p, tt) b o (λ q vs. move ! (1 ∷ []) $ peeks ! D (Is D) (shows 𝓛 D) (p, tt) vs (λ so.
    let ev : vs ≡ word_of (block_ptr pb po) ∷ [] = told R p vs so ∙ ap (λ (r : Ptr). word_of r ∷ []) (at_block p inb) in
    rewrite ! 1 (λ (ws : List Val). ‵ (cell_at q D.mir ws b o)) ev refl $
    sets ! (of_opd ! (load ! (through ! refl (fld ! refl (stop !))) (look_in ! 1 (sub ! 0 refl (whole !))))) refl (tt, tt) $
    rewrite ! 1 (λ (ws : List Val). ‵ (cell_at q D.mir ws b o)) (sym ev) refl $ move ! (1 ∷ 0 ∷ 2 ∷ []) $ shuts ! tt D q (p, tt) vs b o $
    -- [the token; the fields; a share of a's token; the invariant; what is shown; others]
    use1 𝓛 (‵ (flft κ (Share.left qs.0)) ⊛ ‵ (flft κ (Share.right qs.0))) (𝓛.lfts.lft_split κ qs.0) $ split ! $ move ! (3 ∷ 0 ∷ []) $ shr_bor-open ! tt (tokens_halve 𝓛 (t.value_life ∷ [])) (λ s.
    let after' : ℕ → Fml = Looked 𝓛 pb (po + 0) t s in move ! (4 ∷ 1 ∷ []) $ first ! $ blocks ! $ sets ! (addr ! (through ! refl (fld ! refl (stop !)))) refl (tt, tt) $
    use2 𝓛 (raw (𝓣.C _ (vptr pb (po + 0) ∷ seq_cst ∷ []) (λ r. mean 𝓛 (found after' r))))
    (via 𝓤 _ (looks_at 𝓛 pb (po + 0) t s) (loads 𝓛 𝓜 𝓡 (code.calls-std::sync::atomic::raw::load 𝓡.env wired) (block_ptr pb (po + 0)) after')) $
    sets ! (agg ! (and_then ! (lit ! tt) (no_more !))) refl (tt, (record { fits = lit< tt }, tt)) $
    Calls-last ! (fm 𝓛 𝓜 𝓡) (found after') (and_then ! (get ! refl) (and_then ! (get ! refl) (no_more !))) (λ r. finds ! after' (λ n fits.
    lands_last ! refl (tt, record { fits = fits }) $ exec ! 𝓣.C 𝓣.Λ Ev (after 2 fn.body) (at_ret Ev Post) $ sets ! (of_opd ! (get ! refl)) refl (tt, record { fits = fits }) $
    sets ! (agg ! (no_more !)) refl (tt, tt) $ sets ! (agg ! (and_then ! (get ! refl) (no_more !))) refl (tt, (tt, tt)) $ sets ! (agg ! (and_then ! (get ! refl) (and_then ! (get ! refl) (no_more !)))) refl (tt, (record { fits = fits }, ((tt, tt), tt))) $
    fsplit ! $ move ! (2 ∷ 0 ∷ []) $ obor_close ! tt $ drop ! $ move ! (0 ∷ 2 ∷ []) $ use2 𝓛 (‵ (flft κ qs.0)) (𝓛.lfts.lft_join κ qs.0) $ move ! (0 ∷ 4 ∷ []) $ join ! $ nothing ! $ nothing ! $ fjoin ! $ move ! (2 ∷ []) $
    -- [the reading; nothing; the tokens]
    let h : Seen.Denot = record { marker = record {}; name = t; count = n } in let u : Val = vstruct (vcons (vint w64 n) (vcons reading_word vnil)) in let Told : Type 0 = (t ≡ t) × (n ≡ n) in
    use0 𝓛 (‵ (Marks.own_val (tt, tt) (reading_word ∷ []))) (marked 𝓛) $ fjoin ! $ nothing ! $ flt_i ! n (2 ^ 64) fits $ feq_i ! (List Val) (vint w64 n ∷ []) (vint w64 n ∷ []) refl $ fjoin ! $
    move ! (0 ∷ 2 ∷ 1 ∷ []) $ fjoin3 ! $ feq_i ! (List Val) (u ∷ []) (u ∷ []) refl $ fjoin ! $
    fpack ! (Valss (u64 ∷ Seen ∷ [])) (λ uss. fsep (feq (List Val) (u ∷ []) (vstruct (of_list (uss.0 ++ (uss.1.0 ++ []))) ∷ [])) (owns (u64 ∷ Seen ∷ []) (n, (h, tt)) uss)) (vint w64 n ∷ [], (reading_word ∷ [], tt)) $
    use0 𝓛 (raw (fact 𝓤 Told)) (fact_i 𝓤 Told (emp 𝓤) (refl, refl)) $
    returns ! (look_at ! 0 refl) $ free_all ! refl $ keep ! (3 ∷ 2 ∷ 1 ∷ 0 ∷ []) $ by ! (leaves 𝓛 En hs c y u (n, h) (tt, tt) (tt, tt)))))))))))
