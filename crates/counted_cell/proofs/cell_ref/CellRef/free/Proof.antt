-- `free` makes a permit of nothing, where the cell gets more shares.
use Rattle.counted_cell.proofs.Names.{◌≡◌, ℕ, true, Bool, [], ◌∷◌, sym, refl, proved, leaves, a_type, named, Val, vptr, inst_fn, SProp, emp, fact, fact_i, Lft, Fml, ftrue, fsep, flft, ‵, raw, ◌⊛◌, ◌$◌, ◌∵◌, !, qed, by, keep, split, fjoin, use0, rewrite, no_more, and_then, returns, enter, alloc_all, pass_all, free_all, look_at, get, sets, agg, tables, yes, RattleType, owns, types_at, plain, nothing, heard, param, layouts, RefOf, shr_vals, shr_Tells, Stays, stay_dropped, walk_of, Goes-dropped}
use Rattle.counted_cell.specs.Counting.{permit_by}
use Rattle.counted_cell.specs.contracts.cell_ref.CellRef as cell_ref
use Rattle.counted_cell.specs.contracts.cell_ref.Permit as permit
use Rattle.counted_cell.proofs.CellRefFields.{reading_word, PermitMarks, permit_marked}
use Rattle.counted_cell.specs.contracts.cell_ref.CellRef.free.{ended, clauses}
use Rattle.counted_cell.specs.contracts.cell_ref.CellRef.free.Key.{name as #self}
use Rattle.counted_cell.proofs.cell_ref.CellRef.free.Statement.{statement}
use Rattle.counted_cell.proofs.cell_ref.CellRef.free.Code as code

pub free_spec : {M : Type 1} → statement M
free_spec 𝓤 𝓛 𝓜 𝓡 wired X L =
    let H = 𝓛.H in let 𝓣 = tables 𝓤 H 𝓜 𝓡 𝓡.env in let R : RattleType = param 0 X in let En = ended X in let inst = layouts (a_type ∷ []) (X, tt) in let fn = inst_fn inst code.function in
    let Row : RattleType = cell_ref.the_row R in let c = clauses X 𝓛 𝓜.mem 𝓡.returns in let Kept : RattleType = permit.the_row in
    let self = RefOf (0 ∷ []) tt (plain (λ _. Row)) (λ _. tt) in let hs : Stays En.signature.params En.kept = (stay_dropped self yes, tt) in
    proved 𝓛 En hs c 𝓜 𝓡 (Goes-dropped 𝓛 2 self yes (λ κs x f. refl), tt) (#self inst) fn (code.unfolded 𝓤 H 𝓜 𝓡 wired (X, tt))
    (λ κs. (shr_vals, tt)) (λ κs. (shr_Tells (named 0) κs.0 Row, tt)) (λ κs qs bounds a gh are.
    let b : ℕ = a.0.ref_ptr.0 in let o : ℕ = a.0.ref_ptr.1 in let κ : Lft = κs.0 in let d : Row.Denot = a.0.now in let t = d.name in let others : Fml = fsep (flft κs.1.0 qs.1.0) ftrue in
    let y : (walk_of 𝓛 En hs c).Ghost = ((κs, qs, bounds, a, (vptr b o ∷ [], tt)), gh) in let Post : Val → SProp 𝓤 = (walk_of 𝓛 En hs c).post y in
    let r : Kept.Denot = record { marker = record {}; name = t; number = 0 } in let Told : Type 0 = t ≡ t in let Grows : Type 0 = t.grows ≡ true in
    qed 𝓛 (((‵ (flft κ qs.0) ⊛ ‵ others) ⊛ ‵ (owns (types_at En.signature.params κs) a y.0.4)) ∷ raw (fact 𝓤 _) ∷ raw (fact 𝓤 Grows) ∷ []) ∵
    keep ! (2 ∷ 0 ∷ []) $ heard ! Grows (λ grows. split ! $ keep ! (0 ∷ []) $
    enter ! 𝓣.C 𝓣.Λ fn (vptr b o ∷ []) Post $ alloc_all ! (λ l. pass_all ! refl ((tt, tt), tt) $
    sets ! (agg ! (no_more !)) refl (tt, tt) $ sets ! (agg ! (and_then ! (get ! refl) (no_more !))) refl (tt, (tt, tt)) $
    nothing ! $ nothing ! $ fjoin ! $ nothing ! $ rewrite ! 0 (λ (g : Bool). ‵ (permit_by t g 0)) (sym grows) refl $
    -- [the permit; nothing; the tokens]
    use0 𝓛 (‵ (PermitMarks.own_val (tt, tt) (reading_word ∷ []))) (permit_marked 𝓛) $ fjoin ! $
    use0 𝓛 (raw (fact 𝓤 Told)) (fact_i 𝓤 Told (emp 𝓤) refl) $
    returns ! (look_at ! 0 refl) $ free_all ! refl $ keep ! (3 ∷ 2 ∷ 1 ∷ 0 ∷ []) $ by ! (leaves 𝓛 En hs c y reading_word r (tt, tt) (tt, tt)))))
