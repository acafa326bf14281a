-- `reclaim` takes the value back, and puts the block together.
use Rattle.counted_cell.proofs.Names.{◌≡◌, ℕ, ◌+◌, [], ◌∷◌, sym, refl, ap, ◌∙◌, subst, proved, leaves, a_type, Val, inst_fn, SProp, emp, apply∗, sep, fact, fact_i, Fml, ftrue, fsep, flft, sem, ‵, raw, ◌⊛◌, given, later, ◌$◌, ◌∵◌, !, qed, by, move, keep, drop, split, join, fsplit, fsplit3, fjoin, fpack, learn, use0, use1, use2, await, rewrite, stop, fld, of_opd, no_more, and_then, returns, enter, alloc_all, pass_all, free_all, look_at, get, get_in, sets, is, agg, sub, whole, tables, no, RattleType, plain, Ptr, InBlock, block_ptr, ptr_val, block_of, count_of, at_block, nothing, heard, param, layouts, param_laws, full_share, Stays, stay_dropped, walk_of, Goes-dropped}
use Rattle.counted_cell.specs.contracts.header.Header as block
use Rattle.counted_cell.specs.contracts.placed.PlacedValue as placed
use Rattle.counted_cell.specs.contracts.cell_ref.CellRef as cell_ref
use Rattle.counted_cell.specs.contracts.block_right.BlockRight as block_right
use Rattle.counted_cell.proofs.CellRefFields as ref_fields
use Rattle.counted_cell.proofs.PlacedFields as placed_fields
use Rattle.counted_cell.proofs.BlockRightFields as right_fields
use Rattle.counted_cell.specs.Counting.{CellName, Right, sole_right, right_to, ref_owns}
use Rattle.counted_cell.specs.BlockRight.{value_at, block_right_owns}
use Rattle.std.specs.Sync.RawAtomic.{word}
use denote.Memory.{part_at}
use Rattle.counted_cell.proofs.Begins.{ends}
use Rattle.counted_cell.specs.contracts.block_right.reclaim.{ended, clauses}
use Rattle.counted_cell.specs.contracts.block_right.reclaim.Key.{name as #self}
use Rattle.counted_cell.proofs.block_right.reclaim.Statement.{statement}
use Rattle.counted_cell.proofs.block_right.reclaim.Code as code

pub reclaim_spec : {M : Type 1} → statement M
reclaim_spec 𝓤 𝓛 𝓜 𝓡 wired X L =
    let H = 𝓛.H in let 𝓣 = tables 𝓤 H 𝓜 𝓡 𝓡.env in let R : RattleType = param 0 X in let En = ended X in let inst = layouts (a_type ∷ []) (X, tt) in let fn = inst_fn inst code.function in let LR = param_laws 0 X L in
    let Br : RattleType = block.the_row R in let Lr : RattleType = placed.the_row Br in let Hr : RattleType = cell_ref.the_row R in let Dr : RattleType = block_right.the_row R in let c = clauses X 𝓛 𝓜.mem 𝓡.returns in
    let hs : Stays En.signature.params En.kept = (stay_dropped (plain (λ _. Dr)) no, (stay_dropped (plain (λ _. Hr)) no, tt)) in
    proved 𝓛 En hs c 𝓜 𝓡 (Goes-dropped 𝓛 1 (plain (λ _. Dr)) no (λ κs x f. refl), (Goes-dropped 𝓛 1 (plain (λ _. Hr)) no (λ κs x f. refl), tt)) (#self inst) fn (code.unfolded 𝓤 H 𝓜 𝓡 wired (X, tt))
    (λ κs. ((λ e. right_fields.word ∷ []), ((λ e. ref_fields.word_of e.ptr ∷ []), tt))) (λ κs. ((λ e vs so. right_fields.told R vs so.0), ((λ e vs so. ref_fields.told R e.ptr vs so.0), tt))) (λ κs qs bounds a gh are.
    let d : Dr.Denot = a.0 in let h : Hr.Denot = a.1.0 in let p : Ptr = d.ptr in let x : X.Denot = d.value in let t : CellName = d.name in let b : ℕ = block_of p in let o : ℕ = count_of p in let q : Ptr = block_ptr b o in
    let y : (walk_of 𝓛 En hs c).Ghost = ((κs, qs, bounds, a, (right_fields.word ∷ [], (ref_fields.word_of h.ptr ∷ [], tt))), gh) in let Post : Val → SProp 𝓤 = (walk_of 𝓛 En hs c).post y in let Asked : Type 0 = (h.right ≡ sole_right) × (h.name ≡ t) × (h.ptr ≡ p) in
    qed 𝓛 (((‵ (flft κs.0 qs.0) ⊛ ‵ ftrue) ⊛ ‵ (fsep (Dr.own_val d (right_fields.word ∷ [])) (fsep (Hr.own_val h (ref_fields.word_of h.ptr ∷ [])) ftrue))) ∷ raw (fact 𝓤 _) ∷ raw (fact 𝓤 Asked) ∷ []) ∵
    keep ! (2 ∷ 0 ∷ []) $ heard ! Asked (λ asked. split ! $ split ! $ move ! (2 ∷ []) $ fsplit3 ! $ fsplit ! $ drop ! $ move ! (1 ∷ []) $ fsplit ! $ drop ! $
    -- [what the reference owns; what the right owns; nothing; the token; nothing]
    rewrite ! 0 (λ (s : Ptr × (CellName × Right)). ‵ (ref_owns R s.0 h.value s.1.0 h.number s.1.1)) (λ i. (asked.2 i, (asked.1 i, asked.0 i))) refl $
    use1 𝓛 (given (InBlock p) (‵ (right_to R b o h.value t h.number sole_right))) (ref_fields.owned_in 𝓛 R h.value t p h.number sole_right) $ learn ! (λ inb. let at : p ≡ q = at_block p inb in
    move ! (1 ∷ []) $ rewrite ! 0 (λ (π : Ptr). ‵ (block_right_owns R π x t)) at refl $ fsplit ! $ move ! (2 ∷ 0 ∷ 1 ∷ 4 ∷ 5 ∷ []) $
    -- [the end; the lender's right; the way back; the token; nothing; nothing]
    enter ! 𝓣.C 𝓣.Λ fn (right_fields.word ∷ ref_fields.word_of h.ptr ∷ []) Post $ alloc_all ! (λ l. pass_all ! refl ((tt, (tt, tt)), (ref_fields.typed h.ptr (subst InBlock (sym asked.2) inb), tt)) $
    use2 𝓛 (later (‵ (word b (o + 0) 0) ⊛ ‵ (value_at R b o x))) (ends 𝓛 R LR.shr_laws b o x t) $ await ! tt $ split ! $ fjoin ! $ let whole' : Fml = part_at Br full_share (record { count = 0; value = x }) b o in
    use2 𝓛 (‵ whole') (apply∗ 𝓤 (sep 𝓤 (sem 𝓛 (word b (o + 0) 0)) (sem 𝓛 (value_at R b o x))) (sem 𝓛 whole')) $
    sets ! (is ! (of_opd ! (get_in ! (fld ! refl (stop !)) (sub ! 0 refl (whole !)))) (ap ptr_val (asked.2 ∙ at))) refl (tt, tt) $ sets ! (of_opd ! (get ! refl)) refl (tt, tt) $ sets ! (agg ! (and_then ! (get ! refl) (no_more !))) refl (tt, (tt, tt)) $
    let w : Val = placed_fields.word q in let r : Lr.Denot = record { ptr = q; value = record { count = 0; value = x } } in let Told : Type 0 = (q ≡ p) × (x ≡ x) in
    nothing ! $ fpack ! (InBlock q) (λ _. ftrue) tt $ fjoin ! $ use0 𝓛 (‵ ((placed_fields.Data Br).own_val (q, tt) (w ∷ []))) (placed_fields.made Br 𝓛 q) $ fjoin ! $ move ! (1 ∷ 2 ∷ []) $ join ! $
    use0 𝓛 (raw (fact 𝓤 Told)) (fact_i 𝓤 Told (emp 𝓤) (sym at, refl)) $ nothing ! $ nothing ! $ fjoin ! $ nothing ! $ fjoin ! $
    returns ! (look_at ! 0 refl) $ free_all ! refl $ keep ! (2 ∷ 0 ∷ 3 ∷ 1 ∷ []) $ by ! (leaves 𝓛 En hs c y w r (tt, (tt, tt)) (tt, (tt, tt)))))))
