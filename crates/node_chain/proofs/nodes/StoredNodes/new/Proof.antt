-- `new` makes nodes at rest, of which there are none.
use Rattle.node_chain.proofs.Names.{◌≡◌, List, [], ◌∷◌, ◌++◌, sym, refl, subst, proved_at, leaves, a_type, Val, inst_fn, WpFn, SProp, ent, emp, id⊢, ftrue, flft, ‵, raw, ◌⊛◌, ◌$◌, ◌∵◌, !, qed, by, move, keep, drop, split, fsplit, fjoin, fpack, use0, suffices, stop, fld, of_opd, no_more, and_then, returns, enter, alloc_all, pass_all, free_all, look_at, get, get_in, sets, env, agg, sub, whole, tables, fact, fact_i, no, RattleType, owns, types_at, plain, null_ptr, nothing, layouts, Stays, stay_dropped, walk_of, Goes-blank, Ptr-Good}
use types.Run.{lit}
use Rattle.node_chain.proofs.Steps.{one_word, one_word_good, StoredRow, stored_made}
use Rattle.node_chain.specs.contracts.nodes.StoredNodes.new.{ended, clauses}
use Rattle.node_chain.specs.contracts.nodes.StoredNodes.new.Key.{name as #self}
use Rattle.node_chain.proofs.nodes.StoredNodes.new.Statement.{statement}
use Rattle.node_chain.proofs.nodes.StoredNodes.new.Code as code

pub new_spec : {M : Type 1} → statement M
new_spec 𝓤 𝓛 𝓜 𝓡 wired X L =
    let H = 𝓛.H in let 𝓣 = tables 𝓤 H 𝓜 𝓡 𝓡.env in let En = ended X in let c = clauses X 𝓛 𝓜.mem 𝓡.returns in let inst = layouts (a_type ∷ []) (X, tt) in let fn = inst_fn inst code.function in
    let S : RattleType = StoredRow X L in let hs : Stays En.signature.params En.kept = tt in
    proved_at 𝓛 En hs c 𝓜 𝓡 tt (#self inst) fn (code.unfolded 𝓤 H 𝓜 𝓡 wired (X, tt)) (λ z are.
    let κs = z.0.0 in let qs = z.0.1 in let Post : Val → SProp 𝓤 = (walk_of 𝓛 En hs c).post z in
    qed 𝓛 (((‵ (flft κs.0 qs.0) ⊛ ‵ ftrue) ⊛ ‵ (owns (types_at En.signature.params κs) z.0.3 z.0.4)) ∷ raw ((c κs z.0.3).requires z.1) ∷ []) ∵
    keep ! (0 ∷ []) $ split ! $ keep ! (0 ∷ []) $
    enter ! 𝓣.C 𝓣.Λ fn [] Post $ alloc_all ! (λ l. pass_all ! refl tt $
    sets ! (agg ! (and_then ! (lit ! tt) (no_more !))) refl (one_word_good null_ptr) $
    let new : S.Denot = record { head = null_ptr; nexts = []; items = [] } in
    nothing ! $ stored_made X L ! new $
    let Told : Type 0 = new.items ≡ [] in use0 𝓛 (raw (fact 𝓤 Told)) (fact_i 𝓤 Told (emp 𝓤) refl) $ nothing ! $
    returns ! (look_at ! 0 refl) $ free_all ! refl $ keep ! (3 ∷ 0 ∷ 2 ∷ 1 ∷ []) $ by ! (leaves 𝓛 En hs c z (one_word null_ptr) new tt tt)))
