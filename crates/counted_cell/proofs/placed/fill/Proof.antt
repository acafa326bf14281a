-- `fill` writes the value into its room.
use Rattle.std.proofs.Common.{◌≡◌, List, [], ◌∷◌, ◌++◌, sym, refl, ap, ◌∙◌}
use mir.Syntax.{a_type}
use mir.Val.{Val}
use mir.MapTy.{inst_fn}
use base.Logic.{SProp, emp, never, id⊢}
use base.Fml.{Lft, Share, ftrue, flft}
use base.Fraction.{full_share}
use prog.Wp.{WpFn}
use contract.BorrowLft.{◌⊑◌}
use contract.Monad.{fact, fact_i}
use contract.Running.{tables}
use types.Kit.{‵, raw, ◌⊛◌, prop, at_ret, ◌$◌, ◌∵◌, !, qed, by, move, keep, use0, use2, split, join, regoal, fsplit, fjoin, fpack}
use types.Part.{whole, sub, agg}
use types.Run.{stop, fld, init, of_opd, assigns_last, first, blocks, exec, no_more, and_then, returns, enter}
use types.ByLocal.{alloc_all, pass_all, free_all, look_at, get, get_in, through, sets, env}
use denote.Exit.{no}
use denote.RattleType.{RattleType, owns}
use denote.RawPtr.{Ptr, InBlock, block_ptr, in_a_block}
use denote.Memory.{part_at}
use denote.Param.{param, layout, layouts}
use denote.Signature.{types_at, plain}
use denote.Steps.{nothing}
use denote.Triple.Walked.{Stays, stay_dropped, walk_of, Goes-dropped}
use Rattle.std.proofs.raw_atomic.Walks.{proved_at, leaves}
use Rattle.std_alloc.proofs.VecSteps.Shapes.{after}
use Rattle.std_alloc.proofs.RcSteps.{word}
use Rattle.std_alloc.proofs.RawLayout.{as_written}
use Rattle.counted_cell.specs.Block.{room_owns}
use Rattle.counted_cell.proofs.PlacesSteps.{word_had, word_made, value_in, tells}
use Rattle.counted_cell.specs.contracts.placed.Room as room
use Rattle.counted_cell.specs.contracts.placed.PlacedValue as placed
use Rattle.counted_cell.specs.contracts.placed.fill.{ended, clauses}
use Rattle.counted_cell.specs.contracts.placed.fill.Key.{name as #self}
use Rattle.counted_cell.proofs.placed.fill.Statement.{statement}
use Rattle.counted_cell.proofs.placed.fill.Code as code

pub fill_spec : {M : Type 1} → statement M
fill_spec 𝓤 𝓛 𝓜 𝓡 wired X L =
    let H = 𝓛.H in let 𝓣 = tables 𝓤 H 𝓜 𝓡 𝓡.env in let R : RattleType = param 0 X in let En = ended X in let inst = layouts (a_type ∷ []) (X, tt) in let fn = inst_fn inst code.function in let c = clauses X 𝓛 𝓜.mem 𝓡.returns in
    let Mr : RattleType = room.the_row R in let Lr : RattleType = placed.the_row R in
    let hs : Stays En.signature.params En.kept = (stay_dropped (plain (λ _. Mr)) no, (stay_dropped (plain (λ _. R)) no, tt)) in
    proved_at 𝓛 En hs c 𝓜 𝓡 (Goes-dropped 𝓛 1 (plain (λ _. Mr)) no (λ κs x f. refl), (Goes-dropped 𝓛 1 (plain (λ _. R)) no (λ κs x f. refl), tt)) (#self inst) fn (code.unfolded 𝓤 H 𝓜 𝓡 wired (X, tt)) (λ z are.
    let κ : Lft = z.0.0.0 in let q : Share = z.0.1.0 in let Post : Val → SProp 𝓤 = (walk_of 𝓛 En hs c).post z in let a = z.0.3 in let vss = z.0.4 in
    let p : Ptr = a.0.ptr in let x : X.Denot = a.1.0 in
    qed 𝓛 (((‵ (flft κ q) ⊛ ‵ ftrue) ⊛ ‵ (owns (types_at En.signature.params z.0.0) a vss)) ∷ raw (fact 𝓤 (κ ⊑ X.lives)) ∷ ‵ ftrue ∷ []) ∵
    keep ! (0 ∷ []) $ split ! $ split ! $ move ! (2 ∷ []) $ fsplit ! $ fsplit ! $ word_had ! p vss.0 (λ e0. move ! (1 ∷ []) $ fsplit ! $ tells X L ! x vss.1.0 (λ v e1 good. move ! (2 ∷ []) $
    -- [the room; what the value owns; nothing; the token; nothing]
    in_a_block ! p (λ r. room_owns R r) (id⊢ 𝓤 (never 𝓤)) (λ b o at. as_written ! (layout X) b o $
    regoal ! (λ (us : List Val). prop (WpFn 𝓤 H 𝓣.C 𝓣.Λ fn us Post)) (λ i. (e0 ∙ ap (λ (r : Ptr). word r ∷ []) at) i ++ (e1 i ++ [])) refl $
    enter ! 𝓣.C 𝓣.Λ fn (word (block_ptr b o) ∷ v ∷ []) Post $ alloc_all ! (λ l. pass_all ! refl ((tt, (tt, tt)), (good, tt)) $ let Ev = env fn.locals l in
    sets ! (of_opd ! (get_in ! (fld ! refl (stop !)) (sub ! 0 refl (whole !)))) refl (tt, tt) $ first ! $ blocks ! $
    sets ! (of_opd ! (get ! refl)) refl good $ assigns_last ! (of_opd ! (get ! refl)) (through ! refl (stop !)) (init ! 0 refl good) $
    exec ! 𝓣.C 𝓣.Λ Ev (after 2 fn.body) (at_ret Ev Post) $ sets ! (agg ! (and_then ! (get ! refl) (no_more !))) refl (tt, (tt, tt)) $
    returns ! (look_at ! 0 refl) $ free_all ! refl $
    use2 𝓛 (‵ (part_at R full_share x b o)) (value_in 0 X L 𝓛 x b o v) $
    let w : Val = word (block_ptr b o) in let r : Lr.Denot = record { ptr = block_ptr b o; value = x } in let Told : Type 0 = (block_ptr b o ≡ p) × (x ≡ x) in
    nothing ! $ fpack ! (InBlock (block_ptr b o)) (λ _. ftrue) tt $ fjoin ! $ word_made ! (block_ptr b o) $ fjoin ! $
    use0 𝓛 (raw (fact 𝓤 Told)) (fact_i 𝓤 Told (emp 𝓤) (sym at, refl)) $ nothing ! $ nothing ! $ fjoin ! $ nothing ! $ fjoin ! $ move ! (4 ∷ 5 ∷ []) $ join ! $ keep ! (0 ∷ 1 ∷ 3 ∷ 2 ∷ []) $
    by ! (leaves 𝓛 En hs c z w r (tt, (tt, tt)) (tt, (tt, tt))))))))
