-- `drop` hands on what `give` shows.
use Rattle.counted_cell.proofs.EndNames.{◌≡◌, ℕ, List, [], ◌∷◌, refl, sym, ap, subst, T, proved_at, leaves, Val, vunit, has_ty, WT, ent, id⊢, ftrue, ‵, raw, ◌⊛◌, some, given, later, ◌$◌, ◌∵◌, !, qed, by, move, keep, drop, split, fsplit, fjoin, pick, learn, use1, await, rewrite, feq_i, of_opd, unit_lit, no_more, and_then, returns, enter, alloc_all, pass_all, free_all, look_at, get, sets, lands_as, tables, fact, no, RattleType, Is, Typed, shows, a_type, dcons, dnil, inst_fn, Lfts, param, bounded, layout, Laws, param_laws, plain, type_at, named_lft, nothing, only, heard, calls_at, lasts, Lasts, Res, alive, triple_of, framed, Stays, stay_dropped, walk_of, Goes-dropped, WpFn, lone}
use Rattle.counted_cell.specs.Counting.{CellName, receipt_owns}
use Rattle.counted_cell.proofs.CellRefFields.{ReceiptMarks, receipt_told}
use Rattle.counted_set.specs.contracts.dynamic_set.held.SetShare as held
use Rattle.counted_set.proofs.dynamic_set.held.SetShare.TheLaws as held_laws
use Rattle.counted_set.specs.contracts.dynamic_set.held.SetShare.drop as f
use Rattle.counted_set.specs.contracts.dynamic_set.held.SetShare.give as g
use Rattle.counted_set.proofs.dynamic_set.held.SetShare.give.Met.{met}
use Rattle.counted_set.proofs.dynamic_set.held.SetShare.drop.Statement.{statement}
use Rattle.counted_set.proofs.dynamic_set.held.SetShare.drop.Code as code

-- after the type parameter its bounds: the ghosts and the calls of each, the call of its drop, and that they are met
pub drop_spec : {M : Type 1} → statement M
drop_spec 𝓤 𝓛 𝓜 𝓡 wired X L g₁ d₁ g₂ d₂ g₃ d₃ g₄ d₄ g₅ d₅ d₆ m₁ m₂ m₃ m₄ m₅ m₆ =
    let En = f.ended X g₁ d₁ g₂ d₂ g₃ d₃ g₄ d₄ g₅ d₅ d₆ in let c = f.clauses X g₁ d₁ g₂ d₂ g₃ d₃ g₄ d₄ g₅ d₅ d₆ 𝓛 𝓜.mem 𝓡.returns in
    let Eg = g.ended X g₁ d₁ g₂ d₂ g₃ d₃ g₄ d₄ g₅ d₅ in let S = Eg.signature in let inst = bounded (a_type ∷ []) (X, tt) (dcons d₁ (dcons d₂ (dcons d₃ (dcons d₄ (dcons d₅ (dcons d₆ dnil)))))) in let fn = inst_fn inst code.function in
    let Rows : Lfts 2 → RattleType = λ κs. held.the_row (named_lft 2 0 tt κs) (param 0 X) g₁ g₂ g₄ g₅ in let self = plain Rows in let hs : Stays En.signature.params En.kept = (stay_dropped self no, tt) in
    let W = walk_of 𝓛 En hs c in let 𝓣 = tables 𝓤 𝓛.H 𝓜 𝓡 𝓡.env in let G = triple_of 𝓛 S (g.spec X g₁ d₁ g₂ d₂ g₃ d₃ g₄ d₄ g₅ d₅ 𝓛 𝓜.mem 𝓡.returns) in
    proved_at 𝓛 En hs c 𝓜 𝓡 (Goes-dropped 𝓛 2 self no (λ κs x w. refl), tt) (f.Key.name inst) fn (code.unfolded 𝓤 𝓛.H 𝓜 𝓡 wired (X, tt) d₁ d₂ d₃ d₄ d₅ d₆) (λ y are.
    let κs = y.0.0 in let Row : RattleType = Rows κs in let laws : Laws Row = held_laws.the_row_laws (named_lft 2 0 tt κs) (param 0 X) g₁ g₂ g₄ g₅ (param_laws 0 X L) in
    let a = y.0.3 in let t : CellName = a.0.cell.name in let so : Is Row a.0 y.0.4.0 = are.0 in let w = lone y.0.4.0 (laws.single a.0 y.0.4.0 so) in
    let ok : T (has_ty (layout Row) w.0) × WT w.0 = (subst (λ (vs : List Val). Typed (layout Row ∷ []) vs) w.1 ((laws.lawful 𝓛).typed a.0 y.0.4.0 so)).0 in
    let at : List Val → W.Ghost = λ vs. ((y.0.0, y.0.1, y.0.2, a, (vs, tt)), y.1) in
    let z : G.Ghost = at (w.0 ∷ []) in let Told : Res S κs → Type 0 = λ r. (r.name ≡ t) × (r.number ≡ a.0.number) in
    subst (λ (vs : List Val). ent 𝓤 (W.pre (at vs)) (WpFn 𝓤 𝓛.H 𝓣.C 𝓣.Λ fn (W.args (at vs)) (W.post (at vs)))) (sym w.1) (
    qed 𝓛 (raw (G.pre z) ∷ []) ∵ enter ! _ _ _ _ _ $ alloc_all ! (λ l. pass_all ! refl (ok, tt) $
    sets ! (of_opd ! (get ! refl)) refl ok $
    calls_at ! (framed 𝓤 𝓛.H 𝓜 𝓣) G (met 𝓤 𝓛 𝓜 𝓡 (code.calls-counted_set::dynamic_set::held::SetShare::give 𝓡.env wired) X L g₁ d₁ g₂ d₂ g₃ d₃ g₄ d₄ g₅ d₅ m₁ m₂ m₃ m₄ m₅) z (and_then ! (get ! refl) (no_more !)) (λ v.
    use1 𝓛 (later (some (λ (r : Res S κs). (raw (alive 𝓛 S κs y.0.1) ⊛ ‵ ((type_at S.result κs).own_val r (v ∷ []))) ⊛
    some (λ (ws : Lasts Eg κs a). ‵ (lasts Eg κs a ws) ⊛ raw (fact 𝓤 (Told r)))))) (id⊢ 𝓤 _) $
    await ! tt $ pick ! (λ r. split ! $ split ! $ move ! (2 ∷ []) $ pick ! (λ ws. split ! $ drop ! $ heard ! (Told r) (λ told.
    -- [the tokens; the receipt]
    move ! (1 ∷ []) $ fsplit ! $ use1 𝓛 (given (Is ReceiptMarks (tt, tt) (v ∷ [])) (‵ ftrue)) (shows 𝓛 ReceiptMarks (tt, tt) (v ∷ [])) $ learn ! (λ slip. drop ! $
    rewrite ! 0 (λ (n : CellName). ‵ (receipt_owns n r.number)) told.0 refl $ rewrite ! 0 (λ (k : ℕ). ‵ (receipt_owns t k)) told.1 refl $
    lands_as ! (ap only (receipt_told (v ∷ []) slip)) refl (tt, (tt, tt)) $ sets ! (of_opd ! (unit_lit !)) refl (tt, tt) $
    returns ! (look_at ! 0 refl) $ free_all ! refl $
    feq_i ! (List Val) (vunit ∷ []) (vunit ∷ []) refl $ nothing ! $ nothing ! $ fjoin ! $ keep ! (3 ∷ 0 ∷ 1 ∷ 2 ∷ []) $ by ! (leaves 𝓛 En hs c z vunit tt (tt, tt) (tt, tt))))))))))
