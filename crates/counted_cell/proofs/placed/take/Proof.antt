-- `take` reads the value, and its place is room.
use Rattle.std.proofs.Common.{◌≡◌, List, [], ◌∷◌, ◌++◌, sym, refl, ap, ◌∙◌}
use mir.Syntax.{a_type}
use mir.Val.{Val}
use mir.MapTy.{inst_fn}
use base.Logic.{SProp, emp, never, id⊢}
use base.Fml.{Lft, Share, ftrue, fat, froom, flft}
use base.Fraction.{full_share}
use prog.Wp.{WpFn}
use contract.BorrowLft.{◌⊑◌}
use contract.Monad.{fact, fact_i}
use contract.Running.{tables}
use types.Kit.{‵, raw, ◌⊛◌, some, given, pick, learn, prop, at_ret, ◌$◌, ◌∵◌, !, qed, by, move, keep, drop, use0, use1, use2, split, join, regoal, fsplit, fjoin}
use types.Part.{whole, sub, agg}
use types.Run.{look, load, stop, fld, of_opd, first, blocks, exec, no_more, and_then, returns, enter}
use types.ByLocal.{alloc_all, pass_all, free_all, look_at, get, get_in, through, sets, sets_last, env}
use denote.Exit.{no}
use denote.RattleType.{RattleType, owns}
use denote.RawPtr.{Ptr, block_ptr, in_a_block, lies_at}
use denote.Param.{param, layout, layouts}
use denote.Signature.{types_at, plain}
use denote.Steps.{nothing}
use denote.Struct.Tuple.{Tuple}
use denote.Triple.Walked.{Stays, stay_dropped, walk_of, Goes-dropped}
use Rattle.std.proofs.raw_atomic.Walks.{proved_at, leaves}
use Rattle.std_alloc.proofs.VecSteps.Shapes.{after}
use Rattle.std_alloc.proofs.RcSteps.{Good, word}
use Rattle.std_alloc.proofs.RawLayout.{as_raw}
use Rattle.std_alloc.proofs.Pairs.{pair_of, pair_val, pair_Typed}
use Rattle.counted_cell.proofs.PlacesSteps.{word_had, word_made, value_out}
use Rattle.counted_cell.specs.contracts.placed.Room as room
use Rattle.counted_cell.specs.contracts.placed.PlacedValue as placed
use Rattle.counted_cell.specs.contracts.placed.take.{ended, clauses}
use Rattle.counted_cell.specs.contracts.placed.take.Key.{name as #self}
use Rattle.counted_cell.proofs.placed.take.Statement.{statement}
use Rattle.counted_cell.proofs.placed.take.Code as code

pub take_spec : {M : Type 1} → statement M
take_spec 𝓤 𝓛 𝓜 𝓡 wired X L =
    let H = 𝓛.H in let 𝓣 = tables 𝓤 H 𝓜 𝓡 𝓡.env in let R : RattleType = param 0 X in let En = ended X in let inst = layouts (a_type ∷ []) (X, tt) in let fn = inst_fn inst code.function in let c = clauses X 𝓛 𝓜.mem 𝓡.returns in
    let Mr : RattleType = room.the_row R in let Lr : RattleType = placed.the_row R in
    let hs : Stays En.signature.params En.kept = (stay_dropped (plain (λ _. Lr)) no, tt) in
    proved_at 𝓛 En hs c 𝓜 𝓡 (Goes-dropped 𝓛 1 (plain (λ _. Lr)) no (λ κs x f. refl), tt) (#self inst) fn (code.unfolded 𝓤 H 𝓜 𝓡 wired (X, tt)) (λ z are.
    let κ : Lft = z.0.0.0 in let q : Share = z.0.1.0 in let Post : Val → SProp 𝓤 = (walk_of 𝓛 En hs c).post z in let a = z.0.3 in let vss = z.0.4 in
    let p : Ptr = a.0.ptr in let x : X.Denot = a.0.value in
    qed 𝓛 (((‵ (flft κ q) ⊛ ‵ ftrue) ⊛ ‵ (owns (types_at En.signature.params z.0.0) a vss)) ∷ raw (fact 𝓤 (κ ⊑ X.lives)) ∷ ‵ ftrue ∷ []) ∵
    keep ! (0 ∷ []) $ split ! $ split ! $ move ! (2 ∷ []) $ fsplit ! $ fsplit ! $ word_had ! p vss.0 (λ e0. fsplit ! $ drop ! $
    -- [the value; nothing; the token; nothing]
    in_a_block ! p (λ r. lies_at R full_share r x) (id⊢ 𝓤 (never 𝓤)) (λ b o at.
    use1 𝓛 (some (λ (v : Val). given (Good (layout X) v) (‵ (fat full_share (layout X) b o v) ⊛ ‵ (X.own_val x (v ∷ []))))) (value_out 0 X L 𝓛 x b o) $ pick ! (λ v. learn ! (λ good. split ! $
    regoal ! (λ (us : List Val). prop (WpFn 𝓤 H 𝓣.C 𝓣.Λ fn us Post)) (λ i. (e0 ∙ ap (λ (r : Ptr). word r ∷ []) at) i ++ []) refl $
    enter ! 𝓣.C 𝓣.Λ fn (word (block_ptr b o) ∷ []) Post $ alloc_all ! (λ l. pass_all ! refl ((tt, (tt, tt)), tt) $ let Ev = env fn.locals l in
    let w : Val = word (block_ptr b o) in let u : Val = pair_val w v in
    sets ! (of_opd ! (get_in ! (fld ! refl (stop !)) (sub ! 0 refl (whole !)))) refl (tt, tt) $ first ! $ blocks ! $
    sets_last ! (of_opd ! (load ! (through ! refl (stop !)) (look ! 0 refl))) refl good $ exec ! 𝓣.C 𝓣.Λ Ev (after 2 fn.body) (at_ret Ev Post) $
    sets ! (of_opd ! (get ! refl)) refl good $ sets ! (agg ! (and_then ! (get ! refl) (no_more !))) refl (tt, (tt, tt)) $ sets ! (of_opd ! (get ! refl)) refl good $
    sets ! (agg ! (and_then ! (get ! refl) (and_then ! (get ! refl) (no_more !)))) refl (pair_Typed (layout Mr) (layout X) w v (tt, (tt, tt)) good) $
    returns ! (look_at ! 0 refl) $ free_all ! refl $
    use1 𝓛 (‵ (froom (layout X) b o)) (𝓛.laws.at_room (layout X) b o v) $ as_raw ! (layout X) b o $ word_made ! (block_ptr b o) $ fjoin ! $
    let m : Mr.Denot = record { ptr = block_ptr b o } in let Told : Type 0 = (block_ptr b o ≡ p) × (x ≡ x) in
    use2 𝓛 (‵ ((Tuple (Mr ∷ R ∷ [])).own_val (m, x) (u ∷ []))) (pair_of 𝓛 Mr R m x w v) $
    use0 𝓛 (raw (fact 𝓤 Told)) (fact_i 𝓤 Told (emp 𝓤) (sym at, refl)) $ nothing ! $ nothing ! $ fjoin ! $ move ! (4 ∷ 5 ∷ []) $ join ! $ keep ! (0 ∷ 1 ∷ 3 ∷ 2 ∷ []) $
    by ! (leaves 𝓛 En hs c z u (m, x) (tt, tt) (tt, tt))))))))
