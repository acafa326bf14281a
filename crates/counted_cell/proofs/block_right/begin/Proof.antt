-- `begin` takes the word out of the block, and lends the value.
use Rattle.counted_cell.proofs.Names.{◌≤◌, ◌≡◌, ℕ, ◌+◌, List, [], ◌∷◌, ◌++◌, sym, refl, ap, proved, leaves, a_type, Val, vstruct, vcons, vnil, of_list, inst_fn, SProp, emp, fact, fact_i, ftrue, fsep, fex, feq, flft, ‵, raw, ◌⊛◌, later, ◌$◌, ◌∵◌, !, qed, by, move, keep, drop, split, split3, join, fsplit, fsplit3, fjoin, fpick, fpack, use0, use1, use3, await, rewrite, feq_i, stop, fld, of_opd, no_more, and_then, returns, enter, alloc_all, pass_all, free_all, look_at, get, get_in, sets, is, agg, sub, whole, tables, no, RattleType, Valss, owns, types_at, plain, Ptr, block_ptr, ptr_val, block_of, count_of, at_block, nothing, heard, param, layouts, param_laws, full_share, Stays, stay_dropped, walk_of, Goes-dropped}
use Rattle.std.proofs.Common.{Bool}
use contract.BorrowLft.{◌⊑◌}
use denote.RawPtr.{lies_at}
use Rattle.counted_cell.specs.contracts.header.Header as block
use Rattle.counted_cell.specs.contracts.placed.PlacedValue as placed
use Rattle.counted_cell.specs.contracts.cell_ref.CellRef as cell_ref
use Rattle.counted_cell.specs.contracts.block_right.BlockRight as block_right
use Rattle.counted_cell.proofs.CellRefFields as ref_fields
use Rattle.counted_cell.proofs.PlacedFields as placed_fields
use Rattle.counted_cell.proofs.BlockRightFields as right_fields
use denote.Struct.Lending.{Lends-lies}
use Rattle.counted_cell.specs.Counting.{CellName, owner_right, share_right, offset}
use Rattle.counted_cell.specs.BlockRight.{value_at, way_back}
use Rattle.std.specs.Sync.RawAtomic.{word}
use Rattle.counted_cell.proofs.Splits.{apart}
use Rattle.counted_cell.proofs.Begins.{Names, name_of, Begun, begins}
use Rattle.counted_cell.specs.contracts.block_right.begin.{ended, clauses}
use Rattle.counted_cell.specs.contracts.block_right.begin.Key.{name as #self}
use Rattle.counted_cell.proofs.block_right.begin.Statement.{statement}
use Rattle.counted_cell.proofs.block_right.begin.Code as code

pub begin_spec : {M : Type 1} → statement M
begin_spec 𝓤 𝓛 𝓜 𝓡 wired X L =
    let H = 𝓛.H in let 𝓣 = tables 𝓤 H 𝓜 𝓡 𝓡.env in let R : RattleType = param 0 X in let En = ended X in let inst = layouts (a_type ∷ []) (X, tt) in let fn = inst_fn inst code.function in let LR = param_laws 0 X L in
    let Br : RattleType = block.the_row R in let Lr : RattleType = placed.the_row Br in let Hr : RattleType = cell_ref.the_row R in let Dr : RattleType = block_right.the_row R in let c = clauses X 𝓛 𝓜.mem 𝓡.returns in
    let self = plain (λ _. Lr) in let hs : Stays En.signature.params En.kept = (stay_dropped self no, tt) in
    proved 𝓛 En hs c 𝓜 𝓡 (Goes-dropped 𝓛 1 self no (λ κs x f. refl), tt) (#self inst) fn (code.unfolded 𝓤 H 𝓜 𝓡 wired (X, tt))
    (λ κs. ((λ e. placed_fields.word e.ptr ∷ []), tt)) (λ κs. ((λ e vs so. placed_fields.told Br e.ptr vs so.0), tt)) (λ κs qs bounds a gh are.
    let d : Lr.Denot = a.0 in let p : Ptr = d.ptr in let v : Br.Denot = d.value in let x : X.Denot = v.value in let b : ℕ = block_of p in let o : ℕ = count_of p in let q : Ptr = block_ptr b o in
    let y : (walk_of 𝓛 En hs c).Ghost = ((κs, qs, bounds, a, (placed_fields.word p ∷ [], tt)), gh) in let Post : Val → SProp 𝓤 = (walk_of 𝓛 En hs c).post y in let inX = κs.0 ⊑ X.lives in let m : ℕ = gh.0 in let w : Bool = gh.1 in let Asked : Type 0 = (v.count ≡ 1) × (1 ≤ m) in
    qed 𝓛 (((‵ (flft κs.0 qs.0) ⊛ ‵ ftrue) ⊛ ‵ (owns (types_at En.signature.params κs) a y.0.4)) ∷ raw (fact 𝓤 inX) ∷ raw (fact 𝓤 Asked) ∷ []) ∵
    move ! (1 ∷ 2 ∷ []) $ heard ! inX (λ leX. heard ! Asked (λ asked. let one = asked.0 in split ! $ split ! $ move ! (2 ∷ []) $ fsplit ! $ fsplit ! $ keep ! (1 ∷ 3 ∷ 4 ∷ []) $
    fsplit ! $ fpick ! (λ inb. drop ! $ let at : p ≡ q = at_block p inb in rewrite ! 0 (λ (π : Ptr). ‵ (lies_at Br full_share π v)) at refl $
    use1 𝓛 (‵ (word b (o + 0) v.count) ⊛ ‵ (value_at R b o x) ⊛ ‵ (way_back R b o x)) (apart X L 𝓛 b o x v.count) $ split3 ! $ rewrite ! 0 (λ (k : ℕ). ‵ (word b (o + 0) k)) one refl $
    enter ! 𝓣.C 𝓣.Λ fn (placed_fields.word p ∷ []) Post $ alloc_all ! (λ l. pass_all ! refl (ref_fields.typed p inb, tt) $
    move ! (0 ∷ 1 ∷ 3 ∷ []) $ use3 𝓛 (later (‵ (fex Names (λ k. Begun 𝓛 R LR.shr_laws b o x (name_of k m w))) ⊛ ‵ (flft κs.0 qs.0)))
    (begins 𝓛 R LR.shr_laws b o x R.lives κs.0 qs.0 m w asked.1 (λ t. Lends-lies 𝓛 R R.lives (block_ptr b (o + offset R)) x (LR.shares 𝓛 x)) leX) $ await ! tt $ split ! $ fpick ! (λ k. let t : CellName = name_of k m w in fsplit3 ! $
    -- [the owner's right; the share's; the lender's; the token; the way back; nothing]
    sets ! (is ! (of_opd ! (get_in ! (fld ! refl (stop !)) (sub ! 0 refl (whole !)))) (ap ptr_val at)) refl (tt, tt) $
    sets ! (agg ! (no_more !)) refl (tt, tt) $ sets ! (agg ! (and_then ! (get ! refl) (no_more !))) refl (tt, (tt, tt)) $ sets ! (agg ! (and_then ! (get ! refl) (no_more !))) refl (tt, (tt, tt)) $ sets ! (agg ! (and_then ! (get ! refl) (no_more !))) refl (tt, (tt, tt)) $
    sets ! (agg ! (and_then ! (get ! refl) (and_then ! (get ! refl) (and_then ! (get ! refl) (no_more !))))) refl (tt, ((tt, tt), ((tt, tt), ((tt, tt), tt)))) $
    let word_to : Val = ref_fields.word_of q in let u : Val = vstruct (vcons right_fields.word (vcons word_to (vcons word_to vnil))) in let r0 : Dr.Denot = record { mark = record {}; ptr = q; value = x; name = t } in let r1 : Hr.Denot = record { ptr = q; value = x; name = t; number = 0; right = owner_right } in let r2 : Hr.Denot = record { ptr = q; value = x; name = t; number = 0; right = share_right } in
    let Told : Type 0 = (m ≡ m) × (w ≡ w) × (q ≡ p) × (q ≡ p) × (q ≡ p) × (x ≡ x) × (x ≡ x) × (x ≡ x) × (t ≡ t) × (t ≡ t) × (owner_right ≡ owner_right) × (share_right ≡ share_right) in
    move ! (3 ∷ 5 ∷ []) $ join ! $ move ! (3 ∷ 4 ∷ []) $ fjoin ! $ use0 𝓛 (‵ ((right_fields.Data R).own_val (tt, tt) (right_fields.word ∷ []))) (right_fields.made R 𝓛) $ fjoin ! $
    move ! (2 ∷ []) $ use0 𝓛 (‵ ((ref_fields.Data R).own_val (q, tt) (word_to ∷ []))) (ref_fields.made R 𝓛 q) $ fjoin ! $ move ! (3 ∷ []) $ use0 𝓛 (‵ ((ref_fields.Data R).own_val (q, tt) (word_to ∷ []))) (ref_fields.made R 𝓛 q) $ fjoin ! $
    -- [the share; the owner's; the right to the block; the tokens]
    nothing ! $ move ! (1 ∷ 0 ∷ []) $ fjoin ! $ move ! (1 ∷ 0 ∷ []) $ fjoin ! $ move ! (1 ∷ 0 ∷ []) $ fjoin ! $ feq_i ! (List Val) (u ∷ []) (u ∷ []) refl $ fjoin ! $
    fpack ! (Valss (Dr ∷ Hr ∷ Hr ∷ [])) (λ uss. fsep (feq (List Val) (u ∷ []) (vstruct (of_list (uss.0 ++ (uss.1.0 ++ (uss.1.1.0 ++ [])))) ∷ [])) (owns (Dr ∷ Hr ∷ Hr ∷ []) (r0, (r1, (r2, tt))) uss)) (right_fields.word ∷ [], (word_to ∷ [], (word_to ∷ [], tt))) $
    use0 𝓛 (raw (fact 𝓤 Told)) (fact_i 𝓤 Told (emp 𝓤) (refl, refl, sym at, sym at, sym at, refl, refl, refl, refl, refl, refl, refl)) $ nothing ! $ nothing ! $ fjoin ! $
    returns ! (look_at ! 0 refl) $ free_all ! refl $ keep ! (3 ∷ 0 ∷ 2 ∷ 1 ∷ []) $ by ! (leaves 𝓛 En hs c y u (r0, r1, r2) (tt, tt) (tt, tt))))))))
