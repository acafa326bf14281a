-- `open` makes nodes with a place among them, before the first.
use Rattle.node_chain.proofs.Names.{◌≡◌, List, [], ◌∷◌, ◌++◌, sym, refl, subst, proved_at, leaves, a_type, Val, inst_fn, WpFn, SProp, ent, emp, id⊢, ftrue, flft, ‵, raw, ◌⊛◌, ◌$◌, ◌∵◌, !, qed, by, move, keep, drop, split, fsplit, fjoin, fpack, use0, suffices, stop, fld, of_opd, no_more, and_then, returns, enter, alloc_all, pass_all, free_all, look_at, get, get_in, sets, env, agg, sub, whole, tables, fact, fact_i, no, RattleType, owns, types_at, plain, null_ptr, nothing, layouts, Stays, stay_dropped, walk_of, Goes-blank, Ptr-Good}
use types.Run.{lit}
use Rattle.node_chain.proofs.Steps.{word, one_word, one_word_good, word_good, NodesRow, StoredRow, nodes_made, stored_had}
use Rattle.node_chain.specs.contracts.nodes.StoredNodes.open.{ended, clauses}
use Rattle.node_chain.specs.contracts.nodes.StoredNodes.open.Key.{name as #self}
use Rattle.node_chain.proofs.nodes.StoredNodes.open.Statement.{statement}
use Rattle.node_chain.proofs.nodes.StoredNodes.open.Code as code

pub open_spec : {M : Type 1} → statement M
open_spec 𝓤 𝓛 𝓜 𝓡 wired X L =
    let H = 𝓛.H in let 𝓣 = tables 𝓤 H 𝓜 𝓡 𝓡.env in let En = ended X in let c = clauses X 𝓛 𝓜.mem 𝓡.returns in let inst = layouts (a_type ∷ []) (X, tt) in let fn = inst_fn inst code.function in
    let S : RattleType = NodesRow X L in let Stored : RattleType = StoredRow X L in let hs : Stays En.signature.params En.kept = (stay_dropped (plain (λ _. Stored)) no, tt) in
    proved_at 𝓛 En hs c 𝓜 𝓡 (Goes-blank 𝓛 1 (plain (λ _. Stored)) no (λ κs x f. tt), tt) (#self inst) fn (code.unfolded 𝓤 H 𝓜 𝓡 wired (X, tt)) (λ z are.
    let κs = z.0.0 in let qs = z.0.1 in let d : Stored.Denot = z.0.3.0 in let Post : Val → SProp 𝓤 = (walk_of 𝓛 En hs c).post z in let Run : List Val → SProp 𝓤 = λ ws. WpFn 𝓤 H 𝓣.C 𝓣.Λ fn ws Post in
    qed 𝓛 (((‵ (flft κs.0 qs.0) ⊛ ‵ ftrue) ⊛ ‵ (owns (types_at En.signature.params κs) z.0.3 z.0.4)) ∷ raw ((c κs z.0.3).requires z.1) ∷ []) ∵
    keep ! (0 ∷ []) $ split ! $ move ! (1 ∷ []) $ fsplit ! $ stored_had X L ! d z.0.4.0 (λ e0.
    -- [the nodes; nothing; the tokens]
    let us : List Val = one_word d.head ∷ [] in
    suffices ! (Run us) (subst (λ (ws : List Val). ent 𝓤 (Run us) (Run ws)) (sym (λ i. e0 i ++ [])) (id⊢ 𝓤 (Run us))) $
    enter ! 𝓣.C 𝓣.Λ fn us Post $ alloc_all ! (λ l. pass_all ! refl (one_word_good d.head, tt) $ let Ev = env fn.locals l in
    sets ! (of_opd ! (get_in ! (fld ! refl (stop !)) (sub ! 0 refl (whole !)))) refl (Ptr-Good d.head) $
    sets ! (agg ! (and_then ! (get ! refl) (and_then ! (lit ! tt) (and_then ! (get ! refl) (no_more !))))) refl (word_good d.head null_ptr d.head) $
    let new : S.Denot = record { head = d.head; previous = null_ptr; next = d.head; priors = []; passed = []; nexts = d.nexts; left = d.items } in
    nothing ! $ fpack ! (d.head ≡ d.head) (λ _. ftrue) refl $ move ! (1 ∷ 0 ∷ []) $ fjoin ! $ nodes_made X L ! new $
    let Told : Type 0 = (new.passed ≡ []) × (new.left ≡ d.items) in use0 𝓛 (raw (fact 𝓤 Told)) (fact_i 𝓤 Told (emp 𝓤) (refl, refl)) $ nothing ! $ nothing ! $ fjoin ! $
    -- [nothing; what is told; the nodes; nothing; the tokens]
    returns ! (look_at ! 0 refl) $ free_all ! refl $ keep ! (4 ∷ 0 ∷ 2 ∷ 1 ∷ []) $ by ! (leaves 𝓛 En hs c z (word d.head null_ptr d.head) new (tt, tt) (tt, tt)))))
