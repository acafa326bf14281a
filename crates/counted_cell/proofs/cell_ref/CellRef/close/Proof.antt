-- `close` is one load, which gains the whole cell where it found 0.
use Rattle.counted_cell.proofs.Names.{◌≡◌, ℕ, ◌+◌, ◌^◌, List, [], ◌∷◌, sym, refl, ap, lit<, w64, proved, leaves, a_type, Val, vint, vptr, inst_fn, SProp, emp, via, fact, fact_i, Fml, ftrue, fsep, flft, ‵, raw, ◌⊛◌, given, mean, at_ret, ◌$◌, ◌∵◌, !, qed, by, move, keep, split, join, fsplit, fsplit3, fjoin, fpick, learn, use0, use1, rewrite, feq_i, flt_i, stop, fld, addr, lit, of_opd, no_more, and_then, first, blocks, exec, Calls-last, returns, enter, alloc_all, pass_all, free_all, look_at, get, get_in, through, sets, lands_last, is, env, agg, sub, whole, tables, no, RattleType, owns, types_at, plain, Ptr, InBlock, block_ptr, ptr_val, block_of, count_of, at_block, nothing, heard, param, layouts, u64, Stays, stay_dropped, walk_of, Goes-dropped, after, fm, seq_cst, found, finds, loads, Valss, feq, vstruct, vcons, vnil, of_list, ◌++◌, ◌≢◌, fpack, use2}
use Rattle.counted_cell.specs.Counting.{Right, no_right, owner_right, sole_right, right_to}
use Rattle.counted_cell.specs.contracts.cell_ref.CellRef as cell_ref
use Rattle.counted_cell.specs.contracts.cell_ref.Reading as reading
use Rattle.counted_cell.proofs.CellRefFields.{word_of, Data, told, made, typed, owned_in, reading_word, Marks, marked}
use Rattle.counted_cell.proofs.Gains.{rank, ended as gains}
use Rattle.counted_cell.proofs.Steps.{Closed, closes_it}
use Rattle.counted_cell.specs.contracts.cell_ref.CellRef.close.{ended, clauses}
use Rattle.counted_cell.specs.contracts.cell_ref.CellRef.close.Key.{name as #self}
use Rattle.counted_cell.proofs.cell_ref.CellRef.close.Statement.{statement}
use Rattle.counted_cell.proofs.cell_ref.CellRef.close.Code as code

pub close_spec : {M : Type 1} → statement M
close_spec 𝓤 𝓛 𝓜 𝓡 wired X L =
    let H = 𝓛.H in let 𝓣 = tables 𝓤 H 𝓜 𝓡 𝓡.env in let R : RattleType = param 0 X in let En = ended X in let inst = layouts (a_type ∷ []) (X, tt) in let fn = inst_fn inst code.function in
    let Row : RattleType = cell_ref.the_row R in let Seen : RattleType = reading.the_row in let c = clauses X 𝓛 𝓜.mem 𝓡.returns in let self = plain (λ _. Row) in let hs : Stays En.signature.params En.kept = (stay_dropped self no, tt) in
    proved 𝓛 En hs c 𝓜 𝓡 (Goes-dropped 𝓛 1 self no (λ κs x f. refl), tt) (#self inst) fn (code.unfolded 𝓤 H 𝓜 𝓡 wired (X, tt))
    (λ κs. ((λ e. word_of e.ptr ∷ []), tt)) (λ κs. ((λ e vs so. told R e.ptr vs so.0), tt)) (λ κs qs bounds a gh are.
    let d : Row.Denot = a.0 in let p : Ptr = d.ptr in let x : X.Denot = d.value in let t = d.name in let b : ℕ = block_of p in let o : ℕ = count_of p in
    let y : (walk_of 𝓛 En hs c).Ghost = ((κs, qs, bounds, a, (word_of p ∷ [], tt)), gh) in let Post : Val → SProp 𝓤 = (walk_of 𝓛 En hs c).post y in let after' : ℕ → Fml = Closed 𝓛 b (o + 0) t in
    qed 𝓛 (((‵ (flft κs.0 qs.0) ⊛ ‵ ftrue) ⊛ ‵ (owns (types_at En.signature.params κs) a y.0.4)) ∷ raw (fact 𝓤 _) ∷ raw (fact 𝓤 (d.right ≡ owner_right)) ∷ []) ∵
    keep ! (2 ∷ 0 ∷ []) $ heard ! (d.right ≡ owner_right) (λ asked. split ! $ split ! $ move ! (2 ∷ []) $ fsplit ! $ fsplit ! $ keep ! (1 ∷ 3 ∷ 4 ∷ []) $
    use1 𝓛 (given (InBlock p) (‵ (right_to R b o x t d.number d.right))) (owned_in 𝓛 R x t p d.number d.right) $ learn ! (λ inb. let at : p ≡ block_ptr b o = at_block p inb in
    rewrite ! 0 (λ (k : Right). ‵ (right_to R b o x t d.number k)) asked refl $ fsplit3 ! $ keep ! (1 ∷ 0 ∷ 3 ∷ 4 ∷ []) $
    enter ! 𝓣.C 𝓣.Λ fn (word_of p ∷ []) Post $ alloc_all ! (λ l. pass_all ! refl (typed p inb, tt) $ let Ev = env fn.locals l in
    sets ! (is ! (of_opd ! (get_in ! (fld ! refl (stop !)) (sub ! 0 refl (whole !)))) (ap ptr_val at)) refl (tt, tt) $ first ! $ blocks ! $ sets ! (addr ! (through ! refl (fld ! refl (stop !)))) refl (tt, tt) $
    use2 𝓛 (raw (𝓣.C _ (vptr b (o + 0) ∷ seq_cst ∷ []) (λ r. mean 𝓛 (found after' r))))
    (via 𝓤 _ (closes_it 𝓛 b (o + 0) t) (loads 𝓛 𝓜 𝓡 (code.calls-std::sync::atomic::raw::load 𝓡.env wired) (block_ptr b (o + 0)) after')) $
    sets ! (agg ! (and_then ! (lit ! tt) (no_more !))) refl (tt, (record { fits = lit< tt }, tt)) $
    Calls-last ! (fm 𝓛 𝓜 𝓡) (found after') (and_then ! (get ! refl) (and_then ! (get ! refl) (no_more !))) (λ r. finds ! after' (λ n fits.
    lands_last ! refl (tt, record { fits = fits }) $ exec ! 𝓣.C 𝓣.Λ Ev (after 2 fn.body) (at_ret Ev Post) $ sets ! (of_opd ! (get ! refl)) refl (tt, record { fits = fits }) $
    sets ! (agg ! (no_more !)) refl (tt, tt) $ sets ! (agg ! (and_then ! (get ! refl) (no_more !))) refl (tt, (tt, tt)) $ sets ! (agg ! (and_then ! (get ! refl) (no_more !))) refl (tt, (tt, tt)) $
    sets ! (agg ! (and_then ! (get ! refl) (and_then ! (get ! refl) (and_then ! (get ! refl) (no_more !))))) refl (tt, (record { fits = fits }, ((tt, tt), ((tt, tt), tt)))) $ fsplit ! $ move ! (1 ∷ []) $
    -- [what the end gained; the reading; the token; nothing]
    fpick ! (λ w. let k : Right = rank sole_right w in let Told : Type 0 = (n ≡ 0 → k ≡ sole_right) × (n ≢ 0 → k ≡ no_right) in
    use1 𝓛 (given Told (‵ (right_to R b o x t 0 k))) (gains 𝓛 R b o x t n w) $ learn ! (λ so. move ! (2 ∷ 3 ∷ []) $ join ! $ nothing ! $ nothing ! $ fjoin ! $ move ! (2 ∷ 3 ∷ []) $
    -- [the right; the reading; nothing; the tokens]
    let q : Ptr = block_ptr b o in let h : Row.Denot = record { ptr = q; value = x; name = t; number = 0; right = k } in let s : Seen.Denot = record { marker = record {}; name = t; count = n } in let u : Val = vstruct (vcons (vint w64 n) (vcons reading_word (vcons (word_of q) vnil))) in let Same : Type 0 = (t ≡ t) × (n ≡ n) × (x ≡ x) × (t ≡ t) × (q ≡ p) in
    use0 𝓛 (‵ ((Data R).own_val (q, tt) (word_of q ∷ []))) (made R 𝓛 q) $ fjoin ! $ move ! (1 ∷ []) $ use0 𝓛 (‵ (Marks.own_val (tt, tt) (reading_word ∷ []))) (marked 𝓛) $ fjoin ! $
    nothing ! $ move ! (2 ∷ 0 ∷ []) $ fjoin ! $ move ! (1 ∷ 0 ∷ []) $ fjoin ! $ flt_i ! n (2 ^ 64) fits $ feq_i ! (List Val) (vint w64 n ∷ []) (vint w64 n ∷ []) refl $ fjoin ! $
    fjoin ! $ feq_i ! (List Val) (u ∷ []) (u ∷ []) refl $ fjoin ! $
    fpack ! (Valss (u64 ∷ Seen ∷ Row ∷ [])) (λ uss. fsep (feq (List Val) (u ∷ []) (vstruct (of_list (uss.0 ++ (uss.1.0 ++ (uss.1.1.0 ++ [])))) ∷ [])) (owns (u64 ∷ Seen ∷ Row ∷ []) (n, (s, (h, tt))) uss)) (vint w64 n ∷ [], (reading_word ∷ [], (word_of q ∷ [], tt))) $
    use0 𝓛 (raw (fact 𝓤 Told)) (fact_i 𝓤 Told (emp 𝓤) so) $ use0 𝓛 (raw (fact 𝓤 Same)) (fact_i 𝓤 Same (emp 𝓤) (refl, refl, refl, refl, sym at)) $ join ! $
    returns ! (look_at ! 0 refl) $ free_all ! refl $ keep ! (3 ∷ 2 ∷ 1 ∷ 0 ∷ []) $ by ! (leaves 𝓛 En hs c y u (n, s, h) (tt, tt) (tt, tt))))))))))
