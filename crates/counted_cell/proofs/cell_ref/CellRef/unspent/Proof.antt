-- `unspent` hands a reference's permit on.
use Rattle.counted_cell.proofs.Names.{◌≡◌, ℕ, [], ◌∷◌, refl, proved, leaves, a_type, Val, inst_fn, SProp, emp, fact, fact_i, ftrue, flft, ‵, raw, ◌⊛◌, given, ◌$◌, ◌∵◌, !, qed, by, move, keep, split, join, fsplit, fjoin, learn, use0, use1, rewrite, no_more, and_then, returns, enter, alloc_all, pass_all, free_all, look_at, get, sets, agg, tables, no, RattleType, owns, types_at, plain, Ptr, InBlock, block_of, count_of, nothing, heard, param, layouts, Stays, stay_dropped, walk_of, Goes-dropped}
use Rattle.counted_cell.specs.Counting.{Right, permit_right, right_to}
use Rattle.counted_cell.specs.contracts.cell_ref.CellRef as cell_ref
use Rattle.counted_cell.specs.contracts.cell_ref.Permit as permit
use Rattle.counted_cell.proofs.CellRefFields.{word_of, told, typed, owned_in, reading_word, PermitMarks, permit_marked}
use Rattle.counted_cell.specs.contracts.cell_ref.CellRef.unspent.{ended, clauses}
use Rattle.counted_cell.specs.contracts.cell_ref.CellRef.unspent.Key.{name as #self}
use Rattle.counted_cell.proofs.cell_ref.CellRef.unspent.Statement.{statement}
use Rattle.counted_cell.proofs.cell_ref.CellRef.unspent.Code as code

pub unspent_spec : {M : Type 1} → statement M
unspent_spec 𝓤 𝓛 𝓜 𝓡 wired X L =
    let H = 𝓛.H in let 𝓣 = tables 𝓤 H 𝓜 𝓡 𝓡.env in let R : RattleType = param 0 X in let En = ended X in let inst = layouts (a_type ∷ []) (X, tt) in let fn = inst_fn inst code.function in
    let Row : RattleType = cell_ref.the_row R in let c = clauses X 𝓛 𝓜.mem 𝓡.returns in let Kept : RattleType = permit.the_row in let self = plain (λ _. Row) in let hs : Stays En.signature.params En.kept = (stay_dropped self no, tt) in
    proved 𝓛 En hs c 𝓜 𝓡 (Goes-dropped 𝓛 1 self no (λ κs x f. refl), tt) (#self inst) fn (code.unfolded 𝓤 H 𝓜 𝓡 wired (X, tt))
    (λ κs. ((λ e. word_of e.ptr ∷ []), tt)) (λ κs. ((λ e vs so. told R e.ptr vs so.0), tt)) (λ κs qs bounds a gh are.
    let d : Row.Denot = a.0 in let p : Ptr = d.ptr in let x : X.Denot = d.value in let t = d.name in let b : ℕ = block_of p in let o : ℕ = count_of p in
    let y : (walk_of 𝓛 En hs c).Ghost = ((κs, qs, bounds, a, (word_of p ∷ [], tt)), gh) in let Post : Val → SProp 𝓤 = (walk_of 𝓛 En hs c).post y in
    let r : Kept.Denot = record { marker = record {}; name = t; number = d.number } in let Told : Type 0 = (t ≡ t) × (d.number ≡ d.number) in
    qed 𝓛 (((‵ (flft κs.0 qs.0) ⊛ ‵ ftrue) ⊛ ‵ (owns (types_at En.signature.params κs) a y.0.4)) ∷ raw (fact 𝓤 _) ∷ raw (fact 𝓤 (d.right ≡ permit_right)) ∷ []) ∵
    keep ! (2 ∷ 0 ∷ []) $ heard ! (d.right ≡ permit_right) (λ asked. split ! $ split ! $ move ! (2 ∷ []) $ fsplit ! $ fsplit ! $ keep ! (1 ∷ 3 ∷ 4 ∷ []) $
    use1 𝓛 (given (InBlock p) (‵ (right_to R b o x t d.number d.right))) (owned_in 𝓛 R x t p d.number d.right) $ learn ! (λ inb.
    rewrite ! 0 (λ (k : Right). ‵ (right_to R b o x t d.number k)) asked refl $
    -- [the permit; the tokens]
    enter ! 𝓣.C 𝓣.Λ fn (word_of p ∷ []) Post $ alloc_all ! (λ l. pass_all ! refl (typed p inb, tt) $
    sets ! (agg ! (no_more !)) refl (tt, tt) $ sets ! (agg ! (and_then ! (get ! refl) (no_more !))) refl (tt, (tt, tt)) $
    use0 𝓛 (‵ (PermitMarks.own_val (tt, tt) (reading_word ∷ []))) (permit_marked 𝓛) $ fjoin ! $ move ! (1 ∷ 2 ∷ []) $ join ! $ nothing ! $ nothing ! $ fjoin ! $
    use0 𝓛 (raw (fact 𝓤 Told)) (fact_i 𝓤 Told (emp 𝓤) (refl, refl)) $
    returns ! (look_at ! 0 refl) $ free_all ! refl $ keep ! (2 ∷ 1 ∷ 3 ∷ 0 ∷ []) $ by ! (leaves 𝓛 En hs c y reading_word r (tt, tt) (tt, tt))))))
