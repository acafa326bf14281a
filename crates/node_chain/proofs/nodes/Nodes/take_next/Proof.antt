-- `take_next` takes out the node behind the last that was passed, which then leads to its successor.
use Rattle.node_chain.proofs.Names.{◌≡◌, ◌<◌, ℕ, List, [], ◌∷◌, ◌++◌, length, sym, refl, ap, subst, proved_at, leaves, a_type, Val, vptr, inst_fn, WpFn, SProp, ent, emp, id⊢, Lft, GName, ftrue, fsep, flft, ‵, raw, ◌⊛◌, at_ret, ◌$◌, ◌∵◌, !, qed, by, move, keep, split, join, rewrite, fsplit, fsplit3, fjoin, fjoin3, hop, full_share, cell_at, use0, feq_i, feq_l, suffices, stop, fld, load, of_opd, no_more, and_then, assigns, assigns_last, first, blocks, exec, returns, enter, alloc_all, pass_all, free_all, look_at, get, through, sets, is, env, agg, sub, whole, look_in, store_in, tables, fact, fact_i, yes, RattleType, owns, types_at, plain, Ptr, block_ptr, ptr_val, nothing, heard, layouts, Stays, stay_dropped, stay_ref, walk_of, Goes-ref, Goes-dropped, after, Ptr-Good, ghosts}
use Rattle.std.specs.contracts.alloc.Global as heap
use Rattle.std.proofs.alloc.Global.TheLaws as heap_laws
use Rattle.core.proofs.alloc.Calls.{handle_tells}
use Rattle.node_chain.specs.Nodes.{passed_own}
use Rattle.node_chain.proofs.Values.{both, RawBox, raw_box_good, raw_box_in}
use Rattle.node_chain.proofs.Steps.{al, word, R, NodeRow, NodesRow, next_apart, passed_apart, node_out, node_in, nodes_opens, nodes_closes}
use Rattle.node_chain.specs.contracts.nodes.Nodes.take_next.{ended, clauses}
use Rattle.node_chain.specs.contracts.nodes.Nodes.take_next.Key.{name as #self}
use Rattle.node_chain.proofs.nodes.Nodes.take_next.Statement.{statement}
use Rattle.node_chain.proofs.nodes.Nodes.take_next.Code as code

pub take_next_spec : {M : Type 1} → statement M
take_next_spec 𝓤 𝓛 𝓜 𝓡 wired X L =
    let H = 𝓛.H in let 𝓣 = tables 𝓤 H 𝓜 𝓡 𝓡.env in let En = ended X in let c = clauses X 𝓛 𝓜.mem 𝓡.returns in let inst = layouts (a_type ∷ []) (X, tt) in let fn = inst_fn inst code.function in
    let S : RattleType = NodesRow X L in let Rx : RattleType = R X L in let N : RattleType = NodeRow X L in let Z : RattleType = heap.the_row in let LZ = heap_laws.the_row_laws in let BoxRow : RattleType = RawBox N Z LZ ghosts in
    let hs : Stays En.signature.params En.kept = (stay_ref (0 ∷ []) tt (plain (λ _. S)), (stay_dropped (plain (λ _. Z)) yes, tt)) in
    proved_at 𝓛 En hs c 𝓜 𝓡 (Goes-ref 𝓛 2 0 tt (plain (λ _. S)), (Goes-dropped 𝓛 2 (plain (λ _. Z)) yes (λ κs x f. refl), tt)) (#self inst) fn (code.unfolded 𝓤 H 𝓜 𝓡 wired (X, tt)) (λ z are.
    let κs = z.0.0 in let qs = z.0.1 in let κ : Lft = κs.0 in let d : S.Denot = z.0.3.0.now in let γ : GName = z.0.3.0.ghost_name in let rb : ℕ = z.0.3.0.ref_ptr.0 in let ro : ℕ = z.0.3.0.ref_ptr.1 in
    let a : Z.Denot = z.0.3.1.0 in let us0 : List Val = z.0.4.0 in let us1 : List Val = z.0.4.1.0 in let Asked : Type 0 = (0 < length d.passed) × (0 < length d.left) in
    let Post : Val → SProp 𝓤 = (walk_of 𝓛 En hs c).post z in let Run : List Val → SProp 𝓤 = λ ws. WpFn 𝓤 H 𝓣.C 𝓣.Λ fn ws Post in
    qed 𝓛 (((‵ (flft κ qs.0) ⊛ ‵ (fsep (flft κs.1.0 qs.1.0) ftrue)) ⊛ ‵ (owns (types_at En.signature.params κs) z.0.3 z.0.4)) ∷ raw (fact 𝓤 _) ∷ raw (fact 𝓤 Asked) ∷ []) ∵
    keep ! (2 ∷ 0 ∷ []) $ heard ! Asked (λ asked. split ! $ split ! $ move ! (2 ∷ []) $ fsplit3 ! $ fsplit3 ! $ feq_l ! (λ e0. move ! (2 ∷ []) $
    handle_tells al ! a us1 (λ h e1 gh. move ! (1 ∷ 2 ∷ 4 ∷ []) $
    let us : List Val = vptr rb ro ∷ h ∷ [] in
    suffices ! (Run us) (subst (λ (ws : List Val). ent 𝓤 (Run us) (Run ws)) (sym (λ i. e0 i ++ (e1 i ++ []))) (id⊢ 𝓤 (Run us))) $
    enter ! 𝓣.C 𝓣.Λ fn us Post $ alloc_all ! (λ l. pass_all ! refl ((tt, tt), (gh, tt)) $ let Ev = env fn.locals l in nodes_opens X L ! tt d rb ro $ fsplit ! $
    next_apart X L ! d.next d.nexts d.left asked.1 (λ n ms x ys en ex. node_out X L ! d.next n x (λ b o v e good. move ! (4 ∷ []) $
    passed_apart X L ! d.head d.previous d.next d.priors d.passed asked.0 (λ q qs y passed eq eg. node_out X L ! d.previous d.next y (λ lb lo lv le lgood.
    -- [the node before; its item; its right to free; those before; the node; the item; the right to free; the other nodes; the word; the open borrow; obs; auth; the handle; nothing; the other tokens]
    let w : Val = both (vptr b o) h in let old : N.Denot = record { next = n; item = x } in let typed = raw_box_good N Z LZ ghosts b o h gh in let p : Ptr = block_ptr lb lo in
    rewrite ! 8 (λ (π : Ptr). ‵ (cell_at full_share S.mir (word d.head π d.next ∷ []) rb ro)) le refl $ rewrite ! 3 (λ (π : Ptr). ‵ (passed_own Rx d.head q π qs passed)) le refl $
    sets ! (is ! (of_opd ! (load ! (through ! refl (fld ! refl (stop !))) (look_in ! 8 (sub ! 2 refl (whole !))))) (ap ptr_val e)) refl (tt, tt) $ first ! $ blocks ! $
    sets ! (of_opd ! (load ! (through ! refl (fld ! refl (stop !))) (look_in ! 4 (sub ! 0 refl (whole !))))) refl (Ptr-Good n) $
    assigns ! (of_opd ! (get ! refl)) (through ! refl (fld ! refl (stop !))) (store_in ! 8 (sub ! 2 refl (whole !)) (Ptr-Good n)) $
    sets ! (of_opd ! (load ! (through ! refl (fld ! refl (stop !))) (look_in ! 8 (sub ! 2 refl (whole !))))) refl (Ptr-Good n) $
    assigns_last ! (of_opd ! (get ! refl)) (through ! refl (fld ! refl (hop ! (look_in ! 8 (sub ! 1 refl (whole !))) (fld ! refl (stop !))))) (store_in ! 0 (sub ! 0 refl (whole !)) (Ptr-Good n)) $
    exec ! 𝓣.C 𝓣.Λ Ev (after 2 fn.body) (at_ret Ev Post) $
    sets ! (agg ! (and_then ! (get ! refl) (and_then ! (get ! refl) (no_more !)))) refl typed $
    let new : S.Denot = record { head = d.head; previous = p; next = n; priors = q ∷ qs; passed = y ∷ passed; nexts = ms; left = ys } in
    node_in X L ! n y lv lb lo $ move ! (0 ∷ 1 ∷ []) $ fjoin ! $
    -- [those that were passed; the node; the item; the right to free; the other nodes; the word; the open borrow; obs; auth; the handle; nothing; the other tokens]
    move ! (1 ∷ 2 ∷ 3 ∷ []) $ node_in X L ! n x v b o $ move ! (0 ∷ 7 ∷ []) $ raw_box_in N Z LZ ghosts ! b o h a old $
    -- [the node taken out; those that were passed; the other nodes; the word; ..]
    move ! (2 ∷ 1 ∷ []) $ fjoin ! $ move ! (0 ∷ 2 ∷ 3 ∷ 4 ∷ 5 ∷ []) $ nodes_closes X L ! tt new rb ro $
    -- [obs; bor; the token; the node taken out; nothing; the other tokens]
    let Told : Type 0 = (d.left ≡ x ∷ ys) × (y ∷ passed ≡ d.passed) in use0 𝓛 (raw (fact 𝓤 Told)) (fact_i 𝓤 Told (emp 𝓤) (ex, sym eg)) $ move ! (4 ∷ []) $
    move ! (2 ∷ 3 ∷ []) $ feq_i ! (List Val) us0 (vptr rb ro ∷ []) e0 $ fjoin3 ! $ nothing ! $ nothing ! $ fjoin ! $ move ! (1 ∷ 0 ∷ []) $ fjoin ! $
    move ! (3 ∷ 5 ∷ []) $ join ! $
    returns ! (look_at ! 0 refl) $ free_all ! refl $ keep ! (0 ∷ 1 ∷ 2 ∷ 3 ∷ []) $ by ! (leaves 𝓛 En hs c z w (record { at = block_ptr b o; alloc = a; value = old }) (new, (tt, tt)) (tt, (tt, tt))))))))))))
