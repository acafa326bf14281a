-- `next_item` lends the item of the first node that is left.
use Rattle.node_chain.proofs.Names.{◌≡◌, ◌<◌, ℕ, ◌+◌, List, [], ◌∷◌, ◌++◌, length, sym, refl, ap, ◌∙◌, subst, proved_at, leaves, a_type, Val, vptr, inst_fn, WpFn, SProp, ent, emp, id⊢, Lft, ftrue, fsep, fhide, flft, ‵, raw, ◌⊛◌, at_ret, ◌$◌, ◌∵◌, !, qed, by, move, keep, split, join, fsplit, fjoin, use0, use1, rewrite, feq_i, feq_l, suffices, stop, fld, hop, addr, of_opd, first, blocks, exec, returns, enter, alloc_all, pass_all, free_all, look_at, get, through, sets, sets_last, env, sub, whole, look_in, tables, fact, fact_i, yes, RattleType, owns, types_at, plain, Ptr, block_ptr, nothing, heard, looks, shuts, peeks, Is, shows, unhide, cell_at, hidden_shr, layouts, Stays, stay_dropped, walk_of, Goes-dropped, after, RefOf}
use denote.Struct.Lending.{lent_out}
use Rattle.node_chain.specs.Nodes.{next_lent}
use Rattle.node_chain.specs.contracts.nodes.Nodes as nodes
use Rattle.node_chain.proofs.Steps.{word, R, NodesRow, Words, words_told, words_opened, item_seen, item_offset}
use Rattle.node_chain.specs.contracts.nodes.Nodes.next_item.{ended, clauses}
use Rattle.node_chain.specs.contracts.nodes.Nodes.next_item.Key.{name as #self}
use Rattle.node_chain.proofs.nodes.Nodes.next_item.Statement.{statement}
use Rattle.node_chain.proofs.nodes.Nodes.next_item.Code as code

pub next_item_spec : {M : Type 1} → statement M
next_item_spec 𝓤 𝓛 𝓜 𝓡 wired X L =
    let H = 𝓛.H in let 𝓣 = tables 𝓤 H 𝓜 𝓡 𝓡.env in let En = ended X in let c = clauses X 𝓛 𝓜.mem 𝓡.returns in let inst = layouts (a_type ∷ []) (X, tt) in let fn = inst_fn inst code.function in
    let S : RattleType = NodesRow X L in let Rx : RattleType = R X L in let D : RattleType = Words X L in let self = RefOf (0 ∷ []) tt (plain (λ _. S)) (λ _. tt) in let hs : Stays En.signature.params En.kept = (stay_dropped self yes, tt) in
    proved_at 𝓛 En hs c 𝓜 𝓡 (Goes-dropped 𝓛 2 self yes (λ κs x f. refl), tt) (#self inst) fn (code.unfolded 𝓤 H 𝓜 𝓡 wired (X, tt)) (λ z are.
    let κs = z.0.0 in let qs = z.0.1 in let κ : Lft = κs.0 in let d : S.Denot = z.0.3.0.now in let b : ℕ = z.0.3.0.ref_ptr.0 in let o : ℕ = z.0.3.0.ref_ptr.1 in let us0 : List Val = z.0.4.0 in let Asked : Type 0 = 0 < length d.left in
    let Post : Val → SProp 𝓤 = (walk_of 𝓛 En hs c).post z in let Run : List Val → SProp 𝓤 = λ ws. WpFn 𝓤 H 𝓣.C 𝓣.Λ fn ws Post in
    qed 𝓛 (((‵ (flft κ qs.0) ⊛ ‵ (fsep (flft κs.1.0 qs.1.0) ftrue)) ⊛ ‵ (owns (types_at En.signature.params κs) z.0.3 z.0.4)) ∷ raw (fact 𝓤 _) ∷ raw (fact 𝓤 Asked) ∷ []) ∵
    keep ! (2 ∷ 0 ∷ []) $ heard ! Asked (λ asked. split ! $ split ! $ move ! (2 ∷ []) $ fsplit ! $ fsplit ! $ feq_l ! (λ e0. keep ! (0 ∷ 2 ∷ 3 ∷ []) $
    use1 𝓛 (‵ (hidden_shr D κ (d.head, (d.previous, (d.next, tt))) b o) ⊛ ‵ (fhide (next_lent Rx d.next d.nexts d.left κ))) (lent_out 𝓛 (nodes.struct Rx) (nodes.the_codes Rx.Denot Rx.coded) (nodes.the_heap Rx) (nodes.the_lent Rx) κ d b o) $
    split ! $ move ! (1 ∷ []) $ unhide ! $ item_seen X L ! d.next d.nexts d.left κ asked (λ pb po x ys eh ex. let e : ℕ = po + item_offset X L in
    -- [a `&` to the item; the word; the token; the other tokens]
    let us : List Val = vptr b o ∷ [] in let there : Val = vptr pb e in
    suffices ! (Run us) (subst (λ (ws : List Val). ent 𝓤 (Run us) (Run ws)) (sym (λ i. e0 i ++ [])) (id⊢ 𝓤 (Run us))) $
    enter ! 𝓣.C 𝓣.Λ fn us Post $ alloc_all ! (λ l. pass_all ! refl ((tt, tt), tt) $ let Ev = env fn.locals l in move ! (1 ∷ 2 ∷ []) $
    looks ! tt D (words_opened X L 𝓛) (d.head, (d.previous, (d.next, tt))) b o (λ q vs. move ! (1 ∷ []) $ peeks ! D (Is D) (shows 𝓛 D) (d.head, (d.previous, (d.next, tt))) vs (λ so.
    let ev : vs ≡ word d.head d.previous (block_ptr pb po) ∷ [] = words_told X L d.head d.previous d.next vs so ∙ ap (λ (r : Ptr). word d.head d.previous r ∷ []) eh in
    rewrite ! 1 (λ (ws : List Val). ‵ (cell_at q D.mir ws b o)) ev refl $ first ! $ blocks ! $
    sets_last ! (addr ! (through ! refl (fld ! refl (hop ! (look_in ! 1 (sub ! 2 refl (whole !))) (fld ! refl (stop !)))))) refl (tt, tt) $ exec ! 𝓣.C 𝓣.Λ Ev (after 1 fn.body) (at_ret Ev Post) $ sets ! (of_opd ! (get ! refl)) refl (tt, tt) $
    rewrite ! 1 (λ (ws : List Val). ‵ (cell_at q D.mir ws b o)) (sym ev) refl $ move ! (1 ∷ 0 ∷ 2 ∷ []) $ shuts ! tt D q (d.head, (d.previous, (d.next, tt))) vs b o $
    -- [the token; the word; a `&` to the item; the other tokens]
    move ! (0 ∷ 3 ∷ []) $ join ! $ move ! (2 ∷ []) $ feq_i ! (List Val) (there ∷ []) (there ∷ []) refl $ fjoin ! $
    let Told : Type 0 = (rest : List X.Denot) × (d.left ≡ x ∷ rest) in
    use0 𝓛 (raw (fact 𝓤 Told)) (fact_i 𝓤 Told (emp 𝓤) (ys, ex)) $ nothing ! $ nothing ! $ fjoin ! $
    returns ! (look_at ! 0 refl) $ free_all ! refl $ keep ! (3 ∷ 0 ∷ 2 ∷ 1 ∷ []) $ by ! (leaves 𝓛 En hs c z there (record { ref_ptr = (pb, e); now = x }) (tt, tt) (tt, tt)))))))))
