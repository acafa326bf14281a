-- `table` follows the pointer to the table, which the loan has for a lifetime that ends after this borrow of it.
use mathlib.Core.Path.{refl, sym, subst}
use Prim.Native.Nat.{ℕ}
use mathlib.Core.List.{List, [], ◌∷◌, ◌++◌}
use seplogic.Ra.Ura.{Ura}
use Rattle.std.specs.Prelude.{Option, None, Some, IsSome}
use mir.Syntax.{named}
use mir.Val.{Val, vptr}
use base.Logic.{SProp, ent, sep, id⊢, upd_i, never, fst∗}
use base.Fml.{Lft, Share, Fml, ftrue, fsep, fseps, fwand, fupd, fdead, flft, fbor}
use contract.BorrowLft.{meet_⊑_left}
use prog.Memory.{Memory}
use prog.Routine.{Routine}
use prog.Wp.{Env, WpFn, Tables}
use types.Logic.{Logic, sem}
use contract.Monad.{Fun, fact}
use contract.Running.{tables, tables_of}
use sound.WpLaws.{WpFn-mono}
use types.Kit.{Item, ⋆, ‵, raw, ◌⊛◌, at_ret, ◌$◌, ◌∵◌, !, qed, by, assume, move, keep, drop, use1, use2, split, rewrite, fsplit, fsplit3, fjoin, fpick, fpack, feq_i, feq_l, suffices, join, frame, done}
use types.Part.{whole, sub, look_in}
use types.Tokens.{shr_bor-open, obor_alter, bor_fracture}
use types.Run.{load, stop, fld, of_opd, addr, first, blocks, exec, returns, enter}
use types.ByLocal.{alloc_all, pass_all, free_all, look_at, get, through, sets, sets_last, env}
use denote.Exit.{yes}
use denote.RattleType.{owns}
use denote.Memory.{cell_at, part_at, part_of, shared_of, hidden_shr}
use denote.Moves.{moves_from}
use denote.RawPtr.{Ptr, in_a_block}
use denote.SharingLaws.{contraction}
use denote.Ref.{ShrRef}
use denote.Builtin.{RefOf}
use denote.Signature.{Slot, plain}
use denote.Opens.{hide, unhide}
use denote.Steps.{heard, nothing}
use denote.Triple.Spec.{triple_of}
use denote.Triple.Table.{entered}
use denote.Triple.Walked.{says, Stays, stay_dropped, walk_of, ends_at, Goes-dropped, walk_Meets}
use Rattle.std.proofs.lemmas.Bool.{false≢true}
use Rattle.std_alloc.proofs.VecSteps.Shapes.{after}
use Rattle.string_cache_c.proofs.LoanSteps.{L, word, lent, lent_laws, held, had, made, halves}
use Rattle.string_cache_c.specs.contracts.numbered_table.NumberedTable.{the_row as N}
use Rattle.string_cache_c.specs.contracts.loan.Loan.table as F
use Rattle.string_cache_c.specs.contracts.loan.Loan.table.Key.{name as #self}
use Rattle.string_cache_c.proofs.loan.Loan.table.Statement as stated
use Rattle.string_cache_c.proofs.loan.Loan.table.Code as code

abbrev Lent : Slot 1
Lent = RefOf (0 ∷ []) tt (plain (λ _. L)) (λ _. tt)

abbrev stayed : Stays (F.ended).signature.params (F.ended).kept
stayed = (stay_dropped Lent yes, tt)

module _ {M : Type 1} {𝓤 : Ura M} (𝓛 : Logic 𝓤) (at_mem : Memory → SProp 𝓤) (run : Routine → Fun 𝓤) (𝓣 : Tables 𝓤 𝓛.H) (κ : Lft) (q : Share) (rb ro : ℕ) (p : Ptr) (life : ℕ) where
  open 𝓛 use {H}

  abbrev loan : Option N.Denot → L.Denot
  loan o = record { at = p; life = life; value = o }

  abbrev at : Option N.Denot → List Val → (walk_of 𝓛 F.ended stayed (F.clauses 𝓛 at_mem run)).Ghost
  at o vs = (((κ, tt), (q, tt), tt, (record { ref_ptr = (rb, ro); now = loan o }, tt), (vs, tt)), tt)

  abbrev Post : Option N.Denot → List Val → Val → SProp 𝓤
  Post o vs = (walk_of 𝓛 F.ended stayed (F.clauses 𝓛 at_mem run)).post (at o vs)

  exits : (x : N.Denot) (vs : List Val) (kb kc : ℕ) → ent 𝓤 (⋆ 𝓛 (‵ (flft κ q) ∷ ‵ ((ShrRef (named 0) κ N).own_val (record { ref_ptr = (kb, kc); now = x }) (vptr kb kc ∷ [])) ∷ [])) (Post (Some x) vs (vptr kb kc))
  exits x vs kb kc =
      let r : (ShrRef (named 0) κ N).Denot = record { ref_ptr = (kb, kc); now = x } in
      qed 𝓛 (‵ (flft κ q) ∷ ‵ ((ShrRef (named 0) κ N).own_val r (vptr kb kc ∷ [])) ∷ []) ∵
      suffices ! _ (ends_at 𝓛 F.ended stayed (F.clauses 𝓛 at_mem run) (at (Some x) vs) (vptr kb kc) r (tt, tt) (tt, tt)) $ says ! refl $
      nothing ! $ move ! (1 ∷ 0 ∷ []) $ join ! $ frame ! $ nothing ! $ nothing ! $ fjoin ! $ done !

  module _ (x : N.Denot) where
    abbrev Some_of : Share → Fml
    Some_of s = part_at L s (loan (Some x)) rb ro

    -- the token of the loan's lifetime for a loan that is whole again
    abbrev Again : Share → Share → Fml
    Again s r = fwand (fsep (fdead κ) (fseps (flft (life ∷ []) r ∷ []))) (fupd (Some_of s))

    again : (s r : Share) → ent 𝓤 (sep 𝓤 (sem 𝓛 (lent p x (life ∷ []))) (sem 𝓛 (cell_at s L.mir (word p ∷ []) rb ro))) (sem 𝓛 (Again s r))
    unfolding fseps part_of
    again s r = qed 𝓛 (‵ (lent p x (life ∷ [])) ∷ ‵ (cell_at s L.mir (word p ∷ []) rb ro) ∷ []) ∵ assume ! (‵ (fsep (fdead κ) (fsep (flft (life ∷ []) r) ftrue))) $
        suffices ! (sem 𝓛 (Some_of s)) (upd_i 𝓤 (sem 𝓛 (Some_of s))) $ fsplit3 ! $
        move ! (1 ∷ 3 ∷ []) $ fjoin ! $ fpack ! Share (held life p x) r $ made ! (loan (Some x)) $ move ! (3 ∷ 0 ∷ []) $ fjoin ! $
        fpack ! (List Val) (λ vs. fsep (cell_at s L.mir vs rb ro) (L.own_val (loan (Some x)) vs)) (word p ∷ []) $ keep ! (0 ∷ []) $ done !

    abbrev Had : List (Item 𝓤)
    Had = ‵ (hidden_shr L κ (loan (Some x)) rb ro) ∷ ‵ (flft κ q) ∷ []

    walk : (vs : List Val) → ent 𝓤 (⋆ 𝓛 Had) (WpFn 𝓤 H 𝓣.C 𝓣.Λ code.function (vptr rb ro ∷ []) (Post (Some x) vs))
    unfolding fseps part_of
    walk vs =
        let a = life ∷ [] in
        qed 𝓛 Had ∵ enter ! 𝓣.C 𝓣.Λ code.function (vptr rb ro ∷ []) _ $ alloc_all ! (λ l. pass_all ! refl ((tt, tt), tt) $
        let En : Env 𝓤 H = env code.function.locals l in
        unhide ! $ shr_bor-open ! tt (halves 𝓛 (loan (Some x)) rb ro) (λ s. move ! (1 ∷ []) $ fpick ! (λ us. fsplit ! $ move ! (1 ∷ []) $ had ! (loan (Some x)) us (λ eu. fpick ! (λ r. fsplit ! $
        rewrite ! 2 (λ (ws : List Val). ‵ (cell_at s L.mir ws rb ro)) eu refl $ move ! (1 ∷ []) $
        use1 𝓛 (‵ (lent p x a) ⊛ ‵ (lent p x a)) (contraction 𝓛 (lent p x) (lent_laws p x) a) $ split ! $
        in_a_block ! p (λ y. lent y x a) (fst∗ 𝓤 (never 𝓤) (sem 𝓛 (shared_of N x 0 0 a))) (λ kb kc e. drop ! $
        -- [the loan of the table; the token; the word; the open borrow]
        rewrite ! 2 (λ (y : Ptr). ‵ (cell_at s L.mir (word y ∷ []) rb ro)) e refl $ first ! $ blocks ! $
        sets ! (of_opd ! (load ! (through ! refl (fld ! refl (stop !))) (look_in ! 2 (sub ! 0 refl (whole !))))) refl (tt, tt) $ sets ! (of_opd ! (get ! refl)) refl (tt, tt) $
        rewrite ! 2 (λ (y : Ptr). ‵ (cell_at s L.mir (word y ∷ []) rb ro)) (sym e) refl $
        use1 𝓛 (‵ (lent p x a) ⊛ ‵ (lent p x a)) (contraction 𝓛 (lent p x) (lent_laws p x) a) $ split ! $ move ! (0 ∷ 3 ∷ []) $ use2 𝓛 (‵ (Again s r)) (again s r) $
        nothing ! $ move ! (3 ∷ 0 ∷ []) $ fjoin ! $ move ! (3 ∷ 0 ∷ 1 ∷ []) $ obor_alter ! tt (flft a r ∷ []) $
        use1 𝓛 (‵ (fbor κ (flft a r)) ⊛ ‵ ftrue) (id⊢ 𝓤 _) $ split ! $ bor_fracture ! tt (λ z. flft a z) r $ move ! (0 ∷ 3 ∷ []) $
        use2 𝓛 (‵ (lent p x κ)) (moves_from 𝓛 (lent p x) (lent_laws p x) κ a a (meet_⊑_left a κ)) $
        rewrite ! 0 (λ (y : Ptr). ‵ (lent y x κ)) e refl $ fsplit ! $ drop ! $ hide ! $
        sets_last ! (addr ! (through ! refl (stop !))) refl (tt, tt) $
        exec ! 𝓣.C 𝓣.Λ En (after 1 code.function.body) (at_ret En (Post (Some x) vs)) $ sets ! (of_opd ! (get ! refl)) refl (tt, tt) $
        feq_i ! (List Val) (vptr kb kc ∷ []) (vptr kb kc ∷ []) refl $ fjoin ! $
        returns ! (look_at ! 0 refl) $ free_all ! refl $ keep ! (2 ∷ 0 ∷ []) $ by ! (exits x vs kb kc)))))))

  entry : (o : Option N.Denot) (vs : List Val) → ent 𝓤 ((walk_of 𝓛 F.ended stayed (F.clauses 𝓛 at_mem run)).pre (at o vs)) (WpFn 𝓤 H 𝓣.C 𝓣.Λ code.function (vs ++ []) (Post o vs))
  entry None vs =
      let no : Option N.Denot = None in
      qed 𝓛 (((‵ (flft κ q) ⊛ ‵ ftrue) ⊛ ‵ (owns (ShrRef (named 0) κ L ∷ []) (record { ref_ptr = (rb, ro); now = loan None }, tt) (vs, tt))) ∷ raw (fact 𝓤 (IsSome no)) ∷ []) ∵
      move ! (1 ∷ []) $ heard ! (IsSome no) (λ s. absurd (false≢true s))
  entry (Some x) vs =
      qed 𝓛 (((‵ (flft κ q) ⊛ ‵ ftrue) ⊛ ‵ (owns (ShrRef (named 0) κ L ∷ []) (record { ref_ptr = (rb, ro); now = loan (Some x) }, tt) (vs, tt))) ∷ raw (fact 𝓤 (IsSome (Some x))) ∷ []) ∵
      move ! (1 ∷ []) $ heard ! (IsSome (Some x)) (λ _. split ! $ split ! $ move ! (2 ∷ []) $ fsplit ! $ fsplit ! $ feq_l ! (λ e0. keep ! (0 ∷ 2 ∷ []) $
      by ! (subst (λ (ws : List Val). ent 𝓤 (⋆ 𝓛 (Had x)) (WpFn 𝓤 H 𝓣.C 𝓣.Λ code.function (ws ++ []) (Post (Some x) vs))) (sym e0) (walk x vs))))

pub table_spec : {M : Type 1} → stated.statement M
unfolding tables_of
table_spec 𝓤 𝓛 𝓜 𝓡 wired =
    let 𝓣 : Tables 𝓤 𝓛.H = tables_of 𝓤 𝓛.H 𝓜 (tables 𝓤 𝓛.H 𝓜 𝓡 𝓡.env) in
    entered 𝓤 𝓛.H (triple_of 𝓛 F.signature (F.spec 𝓛 𝓜.mem 𝓡.returns)) 𝓣.C 𝓣.Λ #self code.function (code.unfolded 𝓤 𝓛.H 𝓜 𝓡 wired)
    (walk_Meets 𝓛 F.ended stayed (Goes-dropped 𝓛 1 Lent yes (λ κs x f. refl), tt) (F.clauses 𝓛 𝓜.mem 𝓡.returns) (WpFn 𝓤 𝓛.H 𝓣.C 𝓣.Λ code.function) (WpFn-mono 𝓤 𝓛.H 𝓛.laws 𝓣 code.function)
    (λ z. entry 𝓛 𝓜.mem 𝓡.returns 𝓣 z.0.0.0 z.0.1.0 z.0.3.0.ref_ptr.0 z.0.3.0.ref_ptr.1 z.0.3.0.now.at z.0.3.0.now.life z.0.3.0.now.value z.0.4.0))
