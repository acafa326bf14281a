-- `add_next` writes the first node that is left into the new one, which becomes the first that is left, and the new one into the last that was passed.
use Rattle.node_chain.proofs.Names.{◌≡◌, ◌<◌, length, heard, hop, full_share, ℕ, List, [], ◌∷◌, ◌++◌, sym, refl, subst, proved_at, leaves, a_type, Val, vunit, vptr, inst_fn, WpFn, SProp, ent, emp, id⊢, Lft, GName, ftrue, fsep, flft, ‵, raw, ◌⊛◌, at_ret, ◌$◌, ◌∵◌, !, qed, by, move, keep, split, join, fsplit, fsplit3, fjoin, fjoin3, use0, rewrite, feq_i, feq_l, suffices, stop, fld, load, unit_lit, of_opd, assigns, assigns_last, first, blocks, exec, returns, enter, alloc_all, pass_all, free_all, look_at, get, get_in, through, sets, env, sub, whole, look_in, store_in, tables, fact, fact_i, no, RattleType, owns, types_at, plain, Ptr, block_ptr, nothing, cell_at, layouts, Stays, stay_dropped, stay_ref, walk_of, Goes-ref, Goes-blank, after, Ptr-Good, ghosts}
use Rattle.std.specs.contracts.alloc.Global as heap
use Rattle.std.proofs.alloc.Global.TheLaws as heap_laws
use Rattle.node_chain.proofs.Values.{both, RawBox, raw_box_good, raw_box_out}
use Rattle.node_chain.specs.Nodes.{passed_own}
use Rattle.node_chain.proofs.Steps.{word, R, NodeRow, NodesRow, passed_apart, node_out, node_in, node_opens, nodes_opens, nodes_closes}
use Rattle.node_chain.specs.contracts.nodes.Nodes.add_next.{ended, clauses}
use Rattle.node_chain.specs.contracts.nodes.Nodes.add_next.Key.{name as #self}
use Rattle.node_chain.proofs.nodes.Nodes.add_next.Statement.{statement}
use Rattle.node_chain.proofs.nodes.Nodes.add_next.Code as code

pub add_next_spec : {M : Type 1} → statement M
add_next_spec 𝓤 𝓛 𝓜 𝓡 wired X L =
    let H = 𝓛.H in let 𝓣 = tables 𝓤 H 𝓜 𝓡 𝓡.env in let En = ended X in let c = clauses X 𝓛 𝓜.mem 𝓡.returns in let inst = layouts (a_type ∷ []) (X, tt) in let fn = inst_fn inst code.function in
    let S : RattleType = NodesRow X L in let Rx : RattleType = R X L in let N : RattleType = NodeRow X L in let Z : RattleType = heap.the_row in let LZ = heap_laws.the_row_laws in let BoxRow : RattleType = RawBox N Z LZ ghosts in
    let hs : Stays En.signature.params En.kept = (stay_ref (0 ∷ []) tt (plain (λ _. S)), (stay_dropped (plain (λ _. BoxRow)) no, tt)) in
    proved_at 𝓛 En hs c 𝓜 𝓡 (Goes-ref 𝓛 2 0 tt (plain (λ _. S)), (Goes-blank 𝓛 2 (plain (λ _. BoxRow)) no (λ κs x f. tt), tt)) (#self inst) fn (code.unfolded 𝓤 H 𝓜 𝓡 wired (X, tt)) (λ z are.
    let κs = z.0.0 in let qs = z.0.1 in let κ : Lft = κs.0 in let d : S.Denot = z.0.3.0.now in let γ : GName = z.0.3.0.ghost_name in let rb : ℕ = z.0.3.0.ref_ptr.0 in let ro : ℕ = z.0.3.0.ref_ptr.1 in
    let nd : BoxRow.Denot = z.0.3.1.0 in let us0 : List Val = z.0.4.0 in let us1 : List Val = z.0.4.1.0 in let old : N.Denot = nd.value in let Asked : Type 0 = 0 < length d.passed in
    let Post : Val → SProp 𝓤 = (walk_of 𝓛 En hs c).post z in let Run : List Val → SProp 𝓤 = λ ws. WpFn 𝓤 H 𝓣.C 𝓣.Λ fn ws Post in
    qed 𝓛 (((‵ (flft κ qs.0) ⊛ ‵ (fsep (flft κs.1.0 qs.1.0) ftrue)) ⊛ ‵ (owns (types_at En.signature.params κs) z.0.3 z.0.4)) ∷ raw (fact 𝓤 _) ∷ raw (fact 𝓤 Asked) ∷ []) ∵
    keep ! (2 ∷ 0 ∷ []) $ heard ! Asked (λ asked. split ! $ split ! $ move ! (2 ∷ []) $ fsplit3 ! $ fsplit3 ! $ feq_l ! (λ e0. move ! (2 ∷ []) $
    raw_box_out N Z LZ ghosts ! nd us1 (λ pb po h ep e1 gh. fsplit ! $ node_opens X L ! old pb po (λ v good.
    -- [the node; the item; the right to free; the handle; obs; bor; nothing; the tokens]
    move ! (4 ∷ 5 ∷ 7 ∷ []) $
    -- [the nodes; the word; the open borrow; obs; auth; the node; the item; the right to free; the handle; nothing; the other tokens]
    let us : List Val = vptr rb ro ∷ both (vptr pb po) h ∷ [] in let p : Ptr = block_ptr pb po in
    suffices ! (Run us) (subst (λ (ws : List Val). ent 𝓤 (Run us) (Run ws)) (sym (λ i. e0 i ++ (e1 i ++ []))) (id⊢ 𝓤 (Run us))) $
    enter ! 𝓣.C 𝓣.Λ fn us Post $ alloc_all ! (λ l. pass_all ! refl ((tt, tt), (raw_box_good N Z LZ ghosts pb po h gh, tt)) $ let Ev = env fn.locals l in nodes_opens X L ! tt d rb ro $ fsplit ! $ move ! (1 ∷ []) $
    passed_apart X L ! d.head d.previous d.next d.priors d.passed asked (λ q qs y passed eq eg. node_out X L ! d.previous d.next y (λ lb lo lv le lgood.
    -- [the node before; its item; its right to free; those before; the other nodes; the word; the open borrow; obs; auth; the node; the item; the right to free; the handle; nothing; the other tokens]
    let lp : Ptr = block_ptr lb lo in
    rewrite ! 5 (λ (π : Ptr). ‵ (cell_at full_share S.mir (word d.head π d.next ∷ []) rb ro)) le refl $ rewrite ! 3 (λ (π : Ptr). ‵ (passed_own Rx d.head q π qs passed)) le refl $
    sets ! (of_opd ! (get_in ! (fld ! refl (stop !)) (sub ! 0 refl (whole !)))) refl (tt, tt) $ first ! $ blocks ! $
    sets ! (of_opd ! (load ! (through ! refl (fld ! refl (stop !))) (look_in ! 5 (sub ! 2 refl (whole !))))) refl (Ptr-Good d.next) $
    assigns ! (of_opd ! (get ! refl)) (through ! refl (fld ! refl (stop !))) (store_in ! 9 (sub ! 0 refl (whole !)) (Ptr-Good d.next)) $
    assigns_last ! (of_opd ! (get ! refl)) (through ! refl (fld ! refl (hop ! (look_in ! 5 (sub ! 1 refl (whole !))) (fld ! refl (stop !))))) (store_in ! 0 (sub ! 0 refl (whole !)) (tt, tt)) $
    exec ! 𝓣.C 𝓣.Λ Ev (after 2 fn.body) (at_ret Ev Post) $
    assigns ! (of_opd ! (get ! refl)) (through ! refl (fld ! refl (stop !))) (store_in ! 5 (sub ! 2 refl (whole !)) (tt, tt)) $
    sets ! (of_opd ! (unit_lit !)) refl (tt, tt) $
    let new : S.Denot = record { head = d.head; previous = lp; next = p; priors = q ∷ qs; passed = y ∷ passed; nexts = d.next ∷ d.nexts; left = old.item ∷ d.left } in
    node_in X L ! p y lv lb lo $ move ! (0 ∷ 1 ∷ []) $ fjoin ! $
    -- [those that were passed; the other nodes; the word; the open borrow; obs; auth; the node; the item; the right to free; the handle; nothing; the other tokens]
    move ! (6 ∷ 7 ∷ 8 ∷ []) $ node_in X L ! d.next old.item v pb po $ move ! (0 ∷ 2 ∷ []) $ fjoin ! $ fjoin ! $
    nodes_closes X L ! tt new rb ro $
    -- [obs; bor; the token; the handle; nothing; the other tokens]
    let Told : Type 0 = (y ∷ passed ≡ d.passed) × (new.left ≡ old.item ∷ d.left) in use0 𝓛 (raw (fact 𝓤 Told)) (fact_i 𝓤 Told (emp 𝓤) (sym eg, refl)) $
    feq_i ! (List Val) (vunit ∷ []) (vunit ∷ []) refl $
    move ! (2 ∷ 3 ∷ []) $ feq_i ! (List Val) us0 (vptr rb ro ∷ []) e0 $ fjoin3 ! $ nothing ! $ nothing ! $ fjoin ! $ move ! (1 ∷ 0 ∷ []) $ fjoin ! $
    move ! (3 ∷ 6 ∷ []) $ join ! $
    returns ! (look_at ! 0 refl) $ free_all ! refl $ keep ! (0 ∷ 1 ∷ 2 ∷ 3 ∷ []) $ by ! (leaves 𝓛 En hs c z vunit tt (new, (tt, tt)) (tt, (tt, tt)))))))))))
