-- `decrement` gives a share's parts and its ticket back, for its receipt.
use Rattle.std.proofs.Common.{◌-◌}
use Rattle.counted_cell.proofs.Names.{◌≡◌, ℕ, ◌+◌, ◌<◌, ◌^◌, List, [], ◌∷◌, refl, ap, lit<, w64, proved, leaves, a_type, Val, vint, vptr, inst_fn, SProp, emp, via, fact, fact_i, Fml, ftrue, fsep, flft, ‵, raw, ◌⊛◌, given, mean, at_ret, ◌$◌, ◌∵◌, !, qed, by, move, keep, drop, split, join, fsplit, fsplit3, fjoin, fpick, learn, use0, use1, use3, rewrite, feq_i, flt_i, stop, fld, addr, lit, of_opd, no_more, and_then, first, blocks, exec, Calls-last, returns, enter, alloc_all, pass_all, free_all, look_at, get, get_in, through, sets, lands_last, is, env, agg, sub, whole, tables, no, RattleType, owns, types_at, plain, Ptr, InBlock, block_ptr, ptr_val, block_of, count_of, at_block, nothing, heard, param, layouts, Stays, stay_dropped, walk_of, Goes-dropped, after, fm, seq_cst, found, finds, subs, ◌++◌, arith, vstruct, vcons, vnil, of_list, feq, fpack, Valss, u64}
use Rattle.counted_cell.specs.Counting.{Right, share_right, right_to}
use Rattle.counted_cell.specs.contracts.cell_ref.CellRef as cell_ref
use Rattle.counted_cell.specs.contracts.cell_ref.Reading as reading
use Rattle.counted_cell.specs.contracts.cell_ref.Receipt as receipt
use Rattle.counted_cell.proofs.CellRefFields.{word_of, told, typed, owned_in, reading_word, Marks, marked, ReceiptMarks, receipt_marked}
use Rattle.counted_cell.proofs.Steps.{Left, leaves_one}
use Rattle.counted_cell.specs.contracts.cell_ref.CellRef.decrement.{ended, clauses}
use Rattle.counted_cell.specs.contracts.cell_ref.CellRef.decrement.Key.{name as #self}
use Rattle.counted_cell.proofs.cell_ref.CellRef.decrement.Statement.{statement}
use Rattle.counted_cell.proofs.cell_ref.CellRef.decrement.Code as code

pub decrement_spec : {M : Type 1} → statement M
decrement_spec 𝓤 𝓛 𝓜 𝓡 wired X L =
    let H = 𝓛.H in let 𝓣 = tables 𝓤 H 𝓜 𝓡 𝓡.env in let R : RattleType = param 0 X in let En = ended X in let inst = layouts (a_type ∷ []) (X, tt) in let fn = inst_fn inst code.function in
    let Row : RattleType = cell_ref.the_row R in let c = clauses X 𝓛 𝓜.mem 𝓡.returns in let Seen : RattleType = reading.the_row in let Paid : RattleType = receipt.the_row in let self = plain (λ _. Row) in let hs : Stays En.signature.params En.kept = (stay_dropped self no, tt) in
    proved 𝓛 En hs c 𝓜 𝓡 (Goes-dropped 𝓛 1 self no (λ κs x f. refl), tt) (#self inst) fn (code.unfolded 𝓤 H 𝓜 𝓡 wired (X, tt))
    (λ κs. ((λ e. word_of e.ptr ∷ []), tt)) (λ κs. ((λ e vs so. told R e.ptr vs so.0), tt)) (λ κs qs bounds a gh are.
    let d : Row.Denot = a.0 in let p : Ptr = d.ptr in let x : X.Denot = d.value in let t = d.name in let b : ℕ = block_of p in let o : ℕ = count_of p in
    let y : (walk_of 𝓛 En hs c).Ghost = ((κs, qs, bounds, a, (word_of p ∷ [], tt)), gh) in let Post : Val → SProp 𝓤 = (walk_of 𝓛 En hs c).post y in let after' : ℕ → Fml = Left 𝓛 b (o + 0) t d.number in
    qed 𝓛 (((‵ (flft κs.0 qs.0) ⊛ ‵ ftrue) ⊛ ‵ (owns (types_at En.signature.params κs) a y.0.4)) ∷ raw (fact 𝓤 _) ∷ raw (fact 𝓤 (d.right ≡ share_right)) ∷ []) ∵
    keep ! (2 ∷ 0 ∷ []) $ heard ! (d.right ≡ share_right) (λ asked. split ! $ split ! $ move ! (2 ∷ []) $ fsplit ! $ fsplit ! $ keep ! (1 ∷ 3 ∷ 4 ∷ []) $
    use1 𝓛 (given (InBlock p) (‵ (right_to R b o x t d.number d.right))) (owned_in 𝓛 R x t p d.number d.right) $ learn ! (λ inb. let at : p ≡ block_ptr b o = at_block p inb in
    rewrite ! 0 (λ (k : Right). ‵ (right_to R b o x t d.number k)) asked refl $ fsplit ! $ fsplit3 ! $ keep ! (1 ∷ 0 ∷ 3 ∷ 4 ∷ 5 ∷ []) $
    enter ! 𝓣.C 𝓣.Λ fn (word_of p ∷ []) Post $ alloc_all ! (λ l. pass_all ! refl (typed p inb, tt) $ let Ev = env fn.locals l in
    sets ! (is ! (of_opd ! (get_in ! (fld ! refl (stop !)) (sub ! 0 refl (whole !)))) (ap ptr_val at)) refl (tt, tt) $ first ! $ blocks ! $ sets ! (addr ! (through ! refl (fld ! refl (stop !)))) refl (tt, tt) $
    use3 𝓛 (raw (𝓣.C _ (vptr b (o + 0) ∷ vint w64 1 ∷ seq_cst ∷ []) (λ r. mean 𝓛 (found after' r))))
    (via 𝓤 _ (leaves_one 𝓛 b (o + 0) t d.number) (subs 𝓛 𝓜 𝓡 (code.calls-std::sync::atomic::raw::fetch_sub 𝓡.env wired) (block_ptr b (o + 0)) 1 (lit< tt) after')) $
    sets ! (agg ! (and_then ! (lit ! tt) (no_more !))) refl (tt, (record { fits = lit< tt }, tt)) $
    Calls-last ! (fm 𝓛 𝓜 𝓡) (found after') (and_then ! (get ! refl) (and_then ! (lit ! tt) (and_then ! (get ! refl) (no_more !)))) (λ r. finds ! after' (λ n fits.
    lands_last ! refl (tt, record { fits = fits }) $ exec ! 𝓣.C 𝓣.Λ Ev (after 2 fn.body) (at_ret Ev Post) $ sets ! (of_opd ! (get ! refl)) refl (tt, record { fits = fits }) $
    sets ! (agg ! (no_more !)) refl (tt, tt) $ sets ! (agg ! (and_then ! (get ! refl) (no_more !))) refl (tt, (tt, tt)) $ sets ! (agg ! (no_more !)) refl (tt, tt) $ sets ! (agg ! (and_then ! (get ! refl) (no_more !))) refl (tt, (tt, tt)) $
    sets ! (agg ! (and_then ! (get ! refl) (and_then ! (get ! refl) (and_then ! (get ! refl) (no_more !))))) refl (tt, (record { fits = fits }, ((tt, tt), ((tt, tt), tt)))) $
    fsplit ! $ fpick ! (λ pos. drop ! $ move ! (1 ∷ 2 ∷ []) $ join ! $ nothing ! $ nothing ! $ fjoin ! $ move ! (2 ∷ []) $ fsplit ! $ move ! (1 ∷ []) $
    -- [the receipt; the reading; nothing; the tokens]
    let h : Seen.Denot = record { marker = record {}; name = t; count = n - 1 } in let r : Paid.Denot = record { marker = record {}; name = t; number = d.number } in let u : Val = vstruct (vcons (vint w64 n) (vcons reading_word (vcons reading_word vnil))) in
    let Told : Type 0 = (0 < n) × (t ≡ t) × ((n - 1) + 1 ≡ n) in let Same : Type 0 = (t ≡ t) × (d.number ≡ d.number) in
    use0 𝓛 (‵ (ReceiptMarks.own_val (tt, tt) (reading_word ∷ []))) (receipt_marked 𝓛) $ fjoin ! $ move ! (1 ∷ []) $ use0 𝓛 (‵ (Marks.own_val (tt, tt) (reading_word ∷ []))) (marked 𝓛) $ fjoin ! $
    nothing ! $ move ! (2 ∷ 0 ∷ []) $ fjoin ! $ move ! (1 ∷ 0 ∷ []) $ fjoin ! $ flt_i ! n (2 ^ 64) fits $ feq_i ! (List Val) (vint w64 n ∷ []) (vint w64 n ∷ []) refl $ fjoin ! $
    fjoin ! $ feq_i ! (List Val) (u ∷ []) (u ∷ []) refl $ fjoin ! $
    fpack ! (Valss (u64 ∷ Seen ∷ Paid ∷ [])) (λ uss. fsep (feq (List Val) (u ∷ []) (vstruct (of_list (uss.0 ++ (uss.1.0 ++ (uss.1.1.0 ++ [])))) ∷ [])) (owns (u64 ∷ Seen ∷ Paid ∷ []) (n, (h, (r, tt))) uss)) (vint w64 n ∷ [], (reading_word ∷ [], (reading_word ∷ [], tt))) $
    use0 𝓛 (raw (fact 𝓤 Same)) (fact_i 𝓤 Same (emp 𝓤) (refl, refl)) $ use0 𝓛 (raw (fact 𝓤 Told)) (fact_i 𝓤 Told (emp 𝓤) (pos, refl, omega arith)) $ join ! $
    returns ! (look_at ! 0 refl) $ free_all ! refl $ keep ! (3 ∷ 2 ∷ 1 ∷ 0 ∷ []) $ by ! (leaves 𝓛 En hs c y u (n, h, r) (tt, tt) (tt, tt)))))))))
