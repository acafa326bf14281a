-- A loan is a word and what it has, which can be had twice.
use mathlib.Core.Path.{◌≡◌, refl, sym, subst}
use Prim.Native.Nat.{ℕ}
use mathlib.Core.List.{List, [], ◌∷◌, ◌++◌}
use seplogic.Ra.Ura.{Ura}
use base.Share as half
use base.Logic.{ent, sep}
use base.Fml.{Lft, Share, Fml, ftrue, fsep, flft}
use ghost.Rules.{Halves}
use mir.Val.{Val, vstruct, vcons, vnil, of_list}
use types.Logic.{Logic, sem}
use types.Kit.{Item, ⋆, Goal, Seq, Step, step, ‵, ◌⊛◌, ◌$◌, ◌∵◌, !, qed, by, move, drop, use1, split, fsplit, fjoin, fpick, fpack, feq_i, feq_l, done}
use denote.RattleType.{RattleType, Valss}
use denote.Laws.{Copy, Tells, Is}
use denote.Memory.{part_at}
use denote.RawPtr.{Ptr, RawPtr, ptr_val}
use denote.Sharing.{ShrLaws}
use denote.SharingLaws.{contraction}
use denote.Copied.{told_Cuts}
use denote.Opens.{Cuts-Halves}
use denote.Steps.{nothing}
use denote.Struct.Struct.{within}
use denote.Struct.Owning.{shape, to}
use denote.Struct.Lending.{lent_at, lent_at_shr_laws}
use Rattle.std.specs.Prelude.{Option, None, Some}
use Rattle.string_cache_c.specs.Loan.{loan_has}
use Rattle.string_cache_c.specs.contracts.numbered_table.NumberedTable.{the_row as N}
use Rattle.string_cache_c.proofs.numbered_table.NumberedTable.TheLaws as numbered
use Rattle.string_cache_c.specs.contracts.loan.Loan as Loan

abbrev pub L : RattleType
L = Loan.the_row

abbrev pub word : Ptr → Val
word p = vstruct (vcons (ptr_val p) vnil)

abbrev pub lent : Ptr → N.Denot → Lft → Fml
lent p x = lent_at N p x

abbrev pub lent_laws : (p : Ptr) (x : N.Denot) → ShrLaws (lent p x)
lent_laws p x = lent_at_shr_laws N numbered.the_row_laws.shr_laws p x

abbrev pub held : ℕ → Ptr → N.Denot → Share → Fml
held life p x share = fsep (flft (life ∷ []) share) (lent p x (life ∷ []))

module _ {M : Type 1} {𝓤 : Ura M} {𝓛 : Logic 𝓤} {K : Type 0} {Γ : List (Item 𝓤)} {G : Goal 𝓤 𝓛.H} where
  pub had : K → (d : L.Denot) (vs : List Val) → (vs ≡ word d.at ∷ [] → Seq K 𝓛 (‵ (loan_has d.life d.at d.value) ∷ Γ) G) → Seq K 𝓛 (‵ (L.own_val d vs) ∷ Γ) G
  had t d vs k = fsplit t $ fpick t (λ vss. fsplit t $ feq_l t (λ ev. fsplit t $ feq_l t (λ e. drop t $ k (subst (λ (ws : List Val). vs ≡ vstruct (of_list (ws ++ [])) ∷ []) e ev))))

  pub made : K → (d : L.Denot) → Step K 𝓛 (‵ (L.own_val d (word d.at ∷ [])) ∷ Γ) G (‵ (loan_has d.life d.at d.value) ∷ Γ) G
  made t d = step (λ s.
      nothing t $ feq_i t (List Val) (ptr_val d.at ∷ []) (ptr_val d.at ∷ []) refl $ fjoin t $ feq_i t (List Val) (word d.at ∷ []) (word d.at ∷ []) refl $ fjoin t $
      fpack t (Valss (RawPtr ∷ [])) (within (shape Loan.the_type) (to Loan.the_type d) (word d.at ∷ [])) (ptr_val d.at ∷ [], tt) $ fjoin t $ s)

module _ {M : Type 1} {𝓤 : Ura M} (𝓛 : Logic 𝓤) where
  has_twice : (life : ℕ) (p : Ptr) (o : Option N.Denot) → ent 𝓤 (sem 𝓛 (loan_has life p o)) (sep 𝓤 (sem 𝓛 (loan_has life p o)) (sem 𝓛 (loan_has life p o)))
  has_twice life p None = qed 𝓛 (‵ ftrue ∷ []) ∵ nothing ! $ done !
  has_twice life p (Some x) = qed 𝓛 (‵ (loan_has life p (Some x)) ∷ []) ∵ fpick ! (λ share. fsplit ! $
      use1 𝓛 (‵ (flft (life ∷ []) (half.left share)) ⊛ ‵ (flft (life ∷ []) (half.right share))) (𝓛.lfts.lft_split (life ∷ []) share) $ split ! $ move ! (2 ∷ []) $
      use1 𝓛 (‵ (lent p x (life ∷ [])) ⊛ ‵ (lent p x (life ∷ []))) (contraction 𝓛 (lent p x) (lent_laws p x) (life ∷ [])) $ split ! $
      move ! (2 ∷ 0 ∷ []) $ fjoin ! $ fpack ! Share (held life p x) (half.left share) $ move ! (2 ∷ 1 ∷ []) $ fjoin ! $ fpack ! Share (held life p x) (half.right share) $ done !)

  copy : Copy 𝓛 L
  copy = record {
    twice = λ d vs. qed 𝓛 (‵ (L.own_val d vs) ∷ []) ∵ had ! d vs (λ e. use1 𝓛 (‵ (loan_has d.life d.at d.value) ⊛ ‵ (loan_has d.life d.at d.value)) (has_twice d.life d.at d.value) $ split ! $
        by ! (subst (λ (us : List Val). ent 𝓤 (⋆ 𝓛 (‵ (loan_has d.life d.at d.value) ∷ ‵ (loan_has d.life d.at d.value) ∷ [])) (sep 𝓤 (sem 𝓛 (L.own_val d us)) (sem 𝓛 (L.own_val d us)))) (sym e)
        (qed 𝓛 (‵ (loan_has d.life d.at d.value) ∷ ‵ (loan_has d.life d.at d.value) ∷ []) ∵ made ! d $ move ! (1 ∷ []) $ made ! d $ done !)));
  }

  tells : Tells L (Is L) (λ d. word d.at ∷ [])
  tells = λ d vs p. subst (λ (ws : List Val). vs ≡ vstruct (of_list (ws ++ [])) ∷ []) p.0.1.1.0 p.0.1.0

  -- a share of a loan in memory is cut and joined
  pub halves : (d : L.Denot) (b o : ℕ) → Halves 𝓤 𝓛.H 𝓛.A (λ q. part_at L q d b o)
  halves d b o = Cuts-Halves 𝓛 (λ q. part_at L q d b o) (told_Cuts 𝓛 L (λ y. word y.at ∷ []) tells copy d b o)
