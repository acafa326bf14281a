-- `drop` hands on what `give` shows.
use Rattle.counted_cell.proofs.EndNames.{◌≡◌, ℕ, List, [], ◌∷◌, refl, sym, ap, subst, T, proved_at, leaves, Val, vunit, has_ty, WT, ent, id⊢, ftrue, ‵, raw, ◌⊛◌, some, given, later, ◌$◌, ◌∵◌, !, qed, by, move, keep, drop, split, fsplit, fjoin, pick, learn, use1, await, rewrite, feq_i, of_opd, unit_lit, no_more, and_then, returns, enter, alloc_all, pass_all, free_all, look_at, get, sets, lands_as, tables, fact, yes, RattleType, Is, Typed, shows, layout, Laws, plain, type_at, nothing, only, heard, calls_at, lasts, Lasts, Res, alive, triple_of, framed, Stays, stay_dropped, walk_of, Goes-dropped, WpFn, lone}
use Rattle.counted_cell.specs.Counting.{CellName, receipt_owns}
use Rattle.counted_cell.proofs.CellRefFields.{ReceiptMarks, receipt_told}
use Rattle.counted_set.specs.contracts.dynamic_set.share.OwnShare as share
use Rattle.counted_set.proofs.dynamic_set.share.OwnShare.TheLaws as share_laws
use Rattle.counted_set.specs.contracts.dynamic_set.share.OwnShare.drop as f
use Rattle.counted_set.specs.contracts.dynamic_set.share.OwnShare.give as g
use Rattle.counted_set.proofs.dynamic_set.share.OwnShare.give.Met.{met}
use Rattle.counted_set.proofs.dynamic_set.share.OwnShare.drop.Statement.{statement}
use Rattle.counted_set.proofs.dynamic_set.share.OwnShare.drop.Code as code

abbrev Row : RattleType
Row = share.the_row

laws : Laws Row
laws = share_laws.the_row_laws

pub drop_spec : {M : Type 1} → statement M
drop_spec 𝓤 𝓛 𝓜 𝓡 wired =
    let c = f.clauses 𝓛 𝓜.mem 𝓡.returns in let self = plain (λ _. Row) in let hs : Stays f.ended.signature.params f.ended.kept = (stay_dropped self yes, tt) in
    let W = walk_of 𝓛 f.ended hs c in let 𝓣 = tables 𝓤 𝓛.H 𝓜 𝓡 𝓡.env in let G = triple_of 𝓛 g.signature (g.spec 𝓛 𝓜.mem 𝓡.returns) in
    proved_at 𝓛 f.ended hs c 𝓜 𝓡 (Goes-dropped 𝓛 0 self yes (λ κs x w. refl), tt) f.Key.name code.function (code.unfolded 𝓤 𝓛.H 𝓜 𝓡 wired) (λ y are.
    let a = y.0.3 in let t : CellName = a.0.cell.name in let so : Is Row a.0 y.0.4.0 = are.0 in let w = lone y.0.4.0 (laws.single a.0 y.0.4.0 so) in
    let ok : T (has_ty (layout Row) w.0) × WT w.0 = (subst (λ (vs : List Val). Typed (layout Row ∷ []) vs) w.1 ((laws.lawful 𝓛).typed a.0 y.0.4.0 so)).0 in
    let at : List Val → W.Ghost = λ vs. ((y.0.0, y.0.1, y.0.2, a, (vs, tt)), y.1) in
    let z : G.Ghost = at (w.0 ∷ []) in let Told : Res g.signature y.0.0 → Type 0 = λ r. (r.name ≡ t) × (r.number ≡ a.0.number) in
    subst (λ (vs : List Val). ent 𝓤 (W.pre (at vs)) (WpFn 𝓤 𝓛.H 𝓣.C 𝓣.Λ code.function (W.args (at vs)) (W.post (at vs)))) (sym w.1) (
    qed 𝓛 (raw (G.pre z) ∷ []) ∵ enter ! _ _ _ _ _ $ alloc_all ! (λ l. pass_all ! refl (ok, tt) $
    sets ! (of_opd ! (get ! refl)) refl ok $
    calls_at ! (framed 𝓤 𝓛.H 𝓜 𝓣) G (met 𝓤 𝓛 𝓜 𝓡 (code.calls-counted_set::dynamic_set::share::OwnShare::give 𝓡.env wired)) z (and_then ! (get ! refl) (no_more !)) (λ v.
    use1 𝓛 (later (some (λ (r : Res g.signature y.0.0). (raw (alive 𝓛 g.signature y.0.0 y.0.1) ⊛ ‵ ((type_at g.signature.result y.0.0).own_val r (v ∷ []))) ⊛
    some (λ (ws : Lasts g.ended y.0.0 a). ‵ (lasts g.ended y.0.0 a ws) ⊛ raw (fact 𝓤 (Told r)))))) (id⊢ 𝓤 _) $
    await ! tt $ pick ! (λ r. split ! $ split ! $ move ! (2 ∷ []) $ pick ! (λ ws. split ! $ drop ! $ heard ! (Told r) (λ told.
    -- [the tokens; the receipt]
    move ! (1 ∷ []) $ fsplit ! $ use1 𝓛 (given (Is ReceiptMarks (tt, tt) (v ∷ [])) (‵ ftrue)) (shows 𝓛 ReceiptMarks (tt, tt) (v ∷ [])) $ learn ! (λ slip. drop ! $
    rewrite ! 0 (λ (n : CellName). ‵ (receipt_owns n r.number)) told.0 refl $ rewrite ! 0 (λ (k : ℕ). ‵ (receipt_owns t k)) told.1 refl $
    lands_as ! (ap only (receipt_told (v ∷ []) slip)) refl (tt, (tt, tt)) $ sets ! (of_opd ! (unit_lit !)) refl (tt, tt) $
    returns ! (look_at ! 0 refl) $ free_all ! refl $
    feq_i ! (List Val) (vunit ∷ []) (vunit ∷ []) refl $ nothing ! $ nothing ! $ fjoin ! $ keep ! (3 ∷ 0 ∷ 1 ∷ 2 ∷ []) $ by ! (leaves 𝓛 f.ended hs c z vunit tt (tt, tt) (tt, tt))))))))))
