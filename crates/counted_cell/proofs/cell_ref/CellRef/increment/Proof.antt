-- `increment` is one compare-exchange, which gains a share where it found what it expected.
use Rattle.counted_cell.proofs.Names.{◌≡◌, ℕ, ◌+◌, ◌<◌, ◌^◌, List, [], ◌∷◌, ◌++◌, sym, refl, ap, ◌∙◌, w64, arith, proved, leaves, a_type, named, Val, vint, vptr, vstruct, vcons, vnil, of_list, inst_fn, SProp, emp, via, fact, fact_i, Lft, Fml, ftrue, fsep, feq, fhide, flft, finv, ‵, raw, ◌⊛◌, given, mean, at_ret, ◌$◌, ◌∵◌, !, qed, by, move, keep, drop, split, join, fsplit, fsplit3, fjoin, fpick, fpack, pick, some, learn, use0, use1, use2, use3, rewrite, feq_i, flt_i, stop, fld, load, addr, lit, of_opd, bin, no_more, and_then, first, blocks, exec, Calls-last, returns, enter, alloc_all, pass_all, free_all, look_at, get, through, sets, lands_last, env, agg, sub, whole, look_in, tables, yes, RattleType, Valss, owns, types_at, plain, Ptr, InBlock, block_ptr, block_of, count_of, at_block, nothing, peeks, heard, looks, shuts, unhide, Is, shows, cell_at, hidden_shr, param, layouts, param_laws, RefOf, u64, shr_vals, shr_Tells, uint_vals, uint_Tells, lent_out, Stays, stay_dropped, walk_of, Goes-dropped, after, fm, found, finds, exchanges, shr_bor-open, obor_close, tokens_halve}
use base.Share
use Rattle.counted_cell.specs.Counting.{CellName, Right, CanRead, Inv, right_to, seen_by, ref_shares, permit_owns}
use Rattle.counted_cell.specs.contracts.cell_ref.CellRef as cell_ref
use Rattle.counted_cell.specs.contracts.cell_ref.Reading as reading
use Rattle.counted_cell.specs.contracts.cell_ref.Permit as permit
use Rattle.counted_cell.proofs.CellRefFields.{word_of, Data, told, made, opened, seen_in, reading_word, Marks, marked, permit_told}
use Rattle.counted_cell.proofs.Gains.{risen, raised as gains}
use Rattle.counted_cell.proofs.Gains as Gains
use Rattle.counted_cell.proofs.Steps.{Raised, raises}
use Rattle.counted_cell.specs.contracts.cell_ref.CellRef.increment.{ended, clauses}
use Rattle.counted_cell.specs.contracts.cell_ref.CellRef.increment.Key.{name as #self}
use Rattle.counted_cell.proofs.cell_ref.CellRef.increment.Statement.{statement}
use Rattle.counted_cell.proofs.cell_ref.CellRef.increment.Code as code

pub increment_spec : {M : Type 1} → statement M
increment_spec 𝓤 𝓛 𝓜 𝓡 wired X L =
    let H = 𝓛.H in let 𝓣 = tables 𝓤 H 𝓜 𝓡 𝓡.env in let R : RattleType = param 0 X in let En = ended X in let inst = layouts (a_type ∷ []) (X, tt) in let fn = inst_fn inst code.function in
    let Row : RattleType = cell_ref.the_row R in let Seen : RattleType = reading.the_row in let D : RattleType = Data R in let c = clauses X 𝓛 𝓜.mem 𝓡.returns in let laws = (param_laws 0 X L).shr_laws in
    let self = RefOf (0 ∷ []) tt (plain (λ _. Row)) (λ _. tt) in let number = plain (λ _. u64) in let leave = plain (λ _. permit.the_row) in let hs : Stays En.signature.params En.kept = (stay_dropped self yes, (stay_dropped number yes, (stay_dropped leave yes, tt))) in
    proved 𝓛 En hs c 𝓜 𝓡 (Goes-dropped 𝓛 2 self yes (λ κs x f. refl), (Goes-dropped 𝓛 2 number yes (λ κs x f. refl), (Goes-dropped 𝓛 2 leave yes (λ κs x f. refl), tt))) (#self inst) fn (code.unfolded 𝓤 H 𝓜 𝓡 wired (X, tt))
    (λ κs. (shr_vals, (uint_vals w64, ((λ e. reading_word ∷ []), tt)))) (λ κs. (shr_Tells (named 0) κs.0 Row, (uint_Tells w64, ((λ e vs so. permit_told vs so.0), tt)))) (λ κs qs bounds a gh are.
    let b : ℕ = a.0.ref_ptr.0 in let o : ℕ = a.0.ref_ptr.1 in let κ : Lft = κs.0 in let d : Row.Denot = a.0.now in let p : Ptr = d.ptr in let x : X.Denot = d.value in let t = d.name in let others : Fml = fsep (flft κs.1.0 qs.1.0) ftrue in
    let pb : ℕ = block_of p in let po : ℕ = count_of p in let seen : ℕ = a.1.0 in let Asked : Type 0 = CanRead d.right in let leaf : permit.the_row.Denot = a.1.1.0 in let Named : Type 0 = leaf.name ≡ t in let Room : Type 0 = (0 < seen) × (seen < t.limit) × (seen + 1 < 2 ^ 63) in
    let y : (walk_of 𝓛 En hs c).Ghost = ((κs, qs, bounds, a, (vptr b o ∷ [], (vint w64 seen ∷ [], (reading_word ∷ [], tt)))), gh) in let Post : Val → SProp 𝓤 = (walk_of 𝓛 En hs c).post y in
    qed 𝓛 (((‵ (flft κ qs.0) ⊛ ‵ others) ⊛ ‵ (owns (types_at En.signature.params κs) a y.0.4)) ∷ raw (fact 𝓤 _) ∷ raw (fact 𝓤 Asked) ∷ raw (fact 𝓤 Named) ∷ raw (fact 𝓤 Room) ∷ []) ∵
    keep ! (2 ∷ 3 ∷ 4 ∷ 0 ∷ []) $ heard ! Asked (λ asked. heard ! Named (λ of. heard ! Room (λ room. let fit : seen + 2 < 2 ^ 64 = (let r = room.2 in omega arith) in let fits-more : seen + 1 < 2 ^ 64 = (let r = room.2 in omega arith) in
    split ! $ split ! $ move ! (2 ∷ []) $ fsplit ! $ fsplit ! $ keep ! (2 ∷ 1 ∷ 3 ∷ 4 ∷ []) $ fsplit ! $ move ! (1 ∷ []) $ fsplit ! $ fsplit ! $ keep ! (4 ∷ 5 ∷ 6 ∷ 1 ∷ []) $
    rewrite ! 3 (λ (n : CellName). ‵ (permit_owns n leaf.number)) of refl $
    enter ! 𝓣.C 𝓣.Λ fn (vptr b o ∷ vint w64 seen ∷ reading_word ∷ []) Post $ alloc_all ! (λ l. pass_all ! refl ((tt, tt), ((tt, record { fits = are.1.0.1 }), ((tt, (tt, tt)), tt))) $ let Ev = env fn.locals l in
    use1 𝓛 (‵ (hidden_shr D κ (p, tt) b o) ⊛ ‵ (fhide (ref_shares R p x t d.right κ))) (lent_out 𝓛 (cell_ref.struct R) (cell_ref.the_codes X.Denot R.coded) (cell_ref.the_heap R) (cell_ref.the_lent R) κ d b o) $
    split ! $ move ! (1 ∷ []) $ unhide ! $ use1 𝓛 (given (InBlock p) (‵ (seen_by R pb po x t κ))) (seen_in 𝓛 R x t p d.right asked κ) $ learn ! (λ inb. fsplit3 ! $ move ! (3 ∷ 4 ∷ []) $
    looks ! tt D (opened R 𝓛) (p, tt) b o (λ q vs. move ! (1 ∷ []) $ peeks ! D (Is D) (shows 𝓛 D) (p, tt) vs (λ so.
    let ev : vs ≡ word_of (block_ptr pb po) ∷ [] = told R p vs so ∙ ap (λ (r : Ptr). word_of r ∷ []) (at_block p inb) in
    rewrite ! 1 (λ (ws : List Val). ‵ (cell_at q D.mir ws b o)) ev refl $
    sets ! (of_opd ! (load ! (through ! refl (fld ! refl (stop !))) (look_in ! 1 (sub ! 0 refl (whole !))))) refl (tt, tt) $
    rewrite ! 1 (λ (ws : List Val). ‵ (cell_at q D.mir ws b o)) (sym ev) refl $ move ! (1 ∷ 0 ∷ 2 ∷ []) $ shuts ! tt D q (p, tt) vs b o $
    -- [the token; the fields; a share of a's token; the invariant; what is shown; others]
    use1 𝓛 (‵ (flft κ (Share.left qs.0)) ⊛ ‵ (flft κ (Share.right qs.0))) (𝓛.lfts.lft_split κ qs.0) $ split ! $ move ! (3 ∷ 0 ∷ []) $ shr_bor-open ! tt (tokens_halve 𝓛 (t.value_life ∷ [])) (λ s.
    let after' : ℕ → Fml = Raised 𝓛 pb (po + 0) t s seen room.0 fit room.1 leaf.number in move ! (4 ∷ []) $ use1 𝓛 (‵ (finv (Inv t pb (po + 0))) ⊛ ‵ (finv (Inv t pb (po + 0)))) (𝓛.invs.inv_dup (Inv t pb (po + 0))) $ split ! $ move ! (0 ∷ 3 ∷ []) $
    sets ! (bin ! (get ! refl) (lit ! tt) (record { fits = fits-more })) refl (tt, record { fits = fits-more }) $ first ! $ blocks ! $ sets ! (addr ! (through ! refl (fld ! refl (stop !)))) refl (tt, tt) $
    move ! (0 ∷ 1 ∷ 8 ∷ []) $ use3 𝓛 (raw (𝓣.C _ (vptr pb (po + 0) ∷ vint w64 seen ∷ vint w64 (seen + 1) ∷ []) (λ r. mean 𝓛 (found after' r))))
    (via 𝓤 _ (raises 𝓛 pb (po + 0) t s seen room.0 fit room.1 leaf.number) (exchanges 𝓛 𝓜 𝓡 (code.calls-atomic_table::exchange 𝓡.env wired) (block_ptr pb (po + 0)) seen (seen + 1) are.1.0.1 fits-more after')) $
    Calls-last ! (fm 𝓛 𝓜 𝓡) (found after') (and_then ! (get ! refl) (and_then ! (get ! refl) (and_then ! (get ! refl) (no_more !)))) (λ r. finds ! after' (λ n fits.
    lands_last ! refl (tt, record { fits = fits }) $ exec ! 𝓣.C 𝓣.Λ Ev (after 3 fn.body) (at_ret Ev Post) $ sets ! (of_opd ! (get ! refl)) refl (tt, record { fits = fits }) $
    sets ! (agg ! (no_more !)) refl (tt, tt) $ sets ! (agg ! (and_then ! (get ! refl) (no_more !))) refl (tt, (tt, tt)) $ sets ! (agg ! (and_then ! (get ! refl) (no_more !))) refl (tt, (tt, tt)) $
    sets ! (agg ! (and_then ! (get ! refl) (and_then ! (get ! refl) (and_then ! (get ! refl) (no_more !))))) refl (tt, (record { fits = fits }, ((tt, tt), ((tt, tt), tt)))) $
    -- [what was won; the invariant; the open share; the right half; the fields; what is shown; others]
    fsplit ! $ move ! (3 ∷ 0 ∷ []) $ obor_close ! tt $ drop ! $ move ! (0 ∷ 3 ∷ []) $ use2 𝓛 (‵ (flft κ qs.0)) (𝓛.lfts.lft_join κ qs.0) $
    -- [the token; what was won; the invariant; the fields; what is shown; others]
    move ! (0 ∷ 5 ∷ []) $ join ! $ move ! (1 ∷ []) $ fsplit ! $ move ! (1 ∷ []) $ fpick ! (λ w. let k : Right = risen w in let Told : ℕ → Type 0 = Gains.Told 𝓛 R pb po x t seen room.0 fit room.1 leaf.number s n k in move ! (0 ∷ 3 ∷ 5 ∷ []) $
    use3 𝓛 (some (λ (i : ℕ). given (Told i) (‵ (right_to R pb po x t i k)))) (gains 𝓛 R pb po x t seen room.0 fit room.1 leaf.number s n w) $ pick ! (λ number. learn ! (λ told'. nothing ! $ nothing ! $ fjoin ! $ nothing ! $ fjoin ! $ nothing ! $ fjoin ! $ move ! (1 ∷ 2 ∷ []) $
    -- [the right; the reading; nothing; the tokens]
    let z : Ptr = block_ptr pb po in let h : Row.Denot = record { ptr = z; value = x; name = t; number = number; right = k } in let r : Seen.Denot = record { marker = record {}; name = t; count = n } in let u : Val = vstruct (vcons (vint w64 n) (vcons reading_word (vcons (word_of z) vnil))) in let Same : Type 0 = (t ≡ t) × (n ≡ n) × (x ≡ x) × (t ≡ t) × (z ≡ p) in
    use0 𝓛 (‵ (D.own_val (z, tt) (word_of z ∷ []))) (made R 𝓛 z) $ fjoin ! $ move ! (1 ∷ []) $ use0 𝓛 (‵ (Marks.own_val (tt, tt) (reading_word ∷ []))) (marked 𝓛) $ fjoin ! $
    nothing ! $ move ! (2 ∷ 0 ∷ []) $ fjoin ! $ move ! (1 ∷ 0 ∷ []) $ fjoin ! $ flt_i ! n (2 ^ 64) fits $ feq_i ! (List Val) (vint w64 n ∷ []) (vint w64 n ∷ []) refl $ fjoin ! $
    fjoin ! $ feq_i ! (List Val) (u ∷ []) (u ∷ []) refl $ fjoin ! $
    fpack ! (Valss (u64 ∷ Seen ∷ Row ∷ [])) (λ uss. fsep (feq (List Val) (u ∷ []) (vstruct (of_list (uss.0 ++ (uss.1.0 ++ (uss.1.1.0 ++ [])))) ∷ [])) (owns (u64 ∷ Seen ∷ Row ∷ []) (n, (r, (h, tt))) uss)) (vint w64 n ∷ [], (reading_word ∷ [], (word_of z ∷ [], tt))) $
    use0 𝓛 (raw (fact 𝓤 (Told number))) (fact_i 𝓤 (Told number) (emp 𝓤) told') $ use0 𝓛 (raw (fact 𝓤 Same)) (fact_i 𝓤 Same (emp 𝓤) (refl, refl, refl, refl, sym (at_block p inb))) $ join ! $
    returns ! (look_at ! 0 refl) $ free_all ! refl $ keep ! (3 ∷ 2 ∷ 1 ∷ 0 ∷ []) $ by ! (leaves 𝓛 En hs c y u (n, r, h) (tt, (tt, (tt, tt))) (tt, (tt, (tt, tt))))))))))))))))))
