-- `rewind` goes back to the head, and reaches no node.
use Rattle.node_chain.proofs.Names.{◌≡◌, ℕ, List, [], ◌∷◌, ◌++◌, sym, refl, subst, proved_at, leaves, a_type, Val, vptr, vunit, inst_fn, WpFn, SProp, ent, emp, id⊢, Lft, GName, ftrue, fsep, flft, ‵, raw, ◌⊛◌, ◌$◌, ◌∵◌, !, qed, by, move, keep, split, join, fsplit, fsplit3, fjoin, fjoin3, fpack, use0, feq_i, feq_l, suffices, stop, fld, load, unit_lit, of_opd, assigns, returns, enter, alloc_all, pass_all, free_all, look_at, get, through, sets, env, sub, whole, look_in, store_in, tables, fact, fact_i, RattleType, owns, types_at, plain, nothing, layouts, Stays, stay_ref, walk_of, Goes-ref, Ptr-Good}
use Rattle.std.proofs.Common.{reverse}
use Rattle.node_chain.proofs.Steps.{R, NodesRow, all_back, nodes_opens, nodes_closes}
use Rattle.node_chain.specs.contracts.nodes.Nodes.rewind.{ended, clauses}
use Rattle.node_chain.specs.contracts.nodes.Nodes.rewind.Key.{name as #self}
use Rattle.node_chain.proofs.nodes.Nodes.rewind.Statement.{statement}
use Rattle.node_chain.proofs.nodes.Nodes.rewind.Code as code

pub rewind_spec : {M : Type 1} → statement M
rewind_spec 𝓤 𝓛 𝓜 𝓡 wired X L =
    let H = 𝓛.H in let 𝓣 = tables 𝓤 H 𝓜 𝓡 𝓡.env in let En = ended X in let c = clauses X 𝓛 𝓜.mem 𝓡.returns in let inst = layouts (a_type ∷ []) (X, tt) in let fn = inst_fn inst code.function in
    let S : RattleType = NodesRow X L in let Rx : RattleType = R X L in let hs : Stays En.signature.params En.kept = (stay_ref (0 ∷ []) tt (plain (λ _. S)), tt) in
    proved_at 𝓛 En hs c 𝓜 𝓡 (Goes-ref 𝓛 2 0 tt (plain (λ _. S)), tt) (#self inst) fn (code.unfolded 𝓤 H 𝓜 𝓡 wired (X, tt)) (λ z are.
    let κs = z.0.0 in let qs = z.0.1 in let κ : Lft = κs.0 in let d : S.Denot = z.0.3.0.now in let γ : GName = z.0.3.0.ghost_name in let rb : ℕ = z.0.3.0.ref_ptr.0 in let ro : ℕ = z.0.3.0.ref_ptr.1 in let us0 : List Val = z.0.4.0 in
    let Post : Val → SProp 𝓤 = (walk_of 𝓛 En hs c).post z in let Run : List Val → SProp 𝓤 = λ ws. WpFn 𝓤 H 𝓣.C 𝓣.Λ fn ws Post in
    qed 𝓛 (((‵ (flft κ qs.0) ⊛ ‵ (fsep (flft κs.1.0 qs.1.0) ftrue)) ⊛ ‵ (owns (types_at En.signature.params κs) z.0.3 z.0.4)) ∷ raw (fact 𝓤 _) ∷ ‵ ftrue ∷ []) ∵
    keep ! (0 ∷ []) $ split ! $ split ! $ move ! (2 ∷ []) $ fsplit ! $ fsplit3 ! $ feq_l ! (λ e0. move ! (0 ∷ 1 ∷ 3 ∷ []) $
    let us : List Val = vptr rb ro ∷ [] in
    suffices ! (Run us) (subst (λ (ws : List Val). ent 𝓤 (Run us) (Run ws)) (sym (λ i. e0 i ++ [])) (id⊢ 𝓤 (Run us))) $
    enter ! 𝓣.C 𝓣.Λ fn us Post $ alloc_all ! (λ l. pass_all ! refl ((tt, tt), tt) $ let Ev = env fn.locals l in nodes_opens X L ! tt d rb ro $ fsplit ! $
    -- [the nodes; those that were passed; the word; the open borrow; obs; auth; nothing; the other tokens]
    sets ! (of_opd ! (load ! (through ! refl (fld ! refl (stop !))) (look_in ! 2 (sub ! 0 refl (whole !))))) refl (Ptr-Good d.head) $
    assigns ! (of_opd ! (get ! refl)) (through ! refl (fld ! refl (stop !))) (store_in ! 2 (sub ! 2 refl (whole !)) (Ptr-Good d.head)) $ sets ! (of_opd ! (unit_lit !)) refl (tt, tt) $
    move ! (1 ∷ 0 ∷ []) $ all_back X L ! d.head d.previous d.next d.priors d.passed d.nexts d.left (λ ms.
    let new : S.Denot = record { head = d.head; previous = d.previous; next = d.head; priors = []; passed = []; nexts = ms; left = reverse d.passed ++ d.left } in
    let Told : Type 0 = (new.passed ≡ []) × (new.left ≡ reverse d.passed ++ d.left) in let told : Told = (refl, refl) in
    nothing ! $ fpack ! (d.head ≡ d.head) (λ _. ftrue) refl $ move ! (1 ∷ 0 ∷ []) $ fjoin ! $ nodes_closes X L ! tt new rb ro $
    -- [obs; bor; the token; nothing; the other tokens]
    use0 𝓛 (raw (fact 𝓤 Told)) (fact_i 𝓤 Told (emp 𝓤) told) $ feq_i ! (List Val) (vunit ∷ []) (vunit ∷ []) refl $
    move ! (2 ∷ 3 ∷ []) $ feq_i ! (List Val) us0 (vptr rb ro ∷ []) e0 $ fjoin3 ! $ nothing ! $ move ! (1 ∷ 0 ∷ []) $ fjoin ! $ move ! (3 ∷ 5 ∷ []) $ join ! $
    returns ! (look_at ! 0 refl) $ free_all ! refl $ keep ! (0 ∷ 1 ∷ 2 ∷ 3 ∷ []) $ by ! (leaves 𝓛 En hs c z vunit tt (new, tt) (tt, tt))))))
