-- The data field of a `CellRef`, and what is read off what it owns. Assumes `Logic`.
use mathlib.Core.Logic.{inl, inr}
use Rattle.std.proofs.Common.{sym, subst, ◌≡◌, ℕ, T, List, [], ◌∷◌, ◌++◌, refl, ap, ◌∙◌}
use seplogic.Ra.Ura.{Ura}
use mir.Syntax.{ty_ptr, ty_struct, tcons, tnil}
use mir.Val.{Val, vstruct, vcons, vnil, of_list, has_ty, WT}
use base.Logic.{ent, emp, never_e, guard, guard_i}
use base.Fml.{Lft, flft}
use types.Logic.{Logic, sem}
use types.Kit.{‵, ◌$◌, ◌∵◌, !, qed, check, keep, fsplit, done}
use denote.RattleType.{RattleType}
use denote.Laws.{Is}
use denote.Sharing.{one}
use denote.Opens.{Opens}
use denote.Copied.{Struct-Copied}
use denote.RawPtr.{Ptr, InBlock, block_ptr, null_ptr, ptr_val, block_of, count_of}
use denote.Shadow.{makes_shadow}
use denote.Struct.Laws.{RawPtr-copy}
use denote.Struct.Struct.{Struct}
use denote.Struct.Owning.{shape}
use Rattle.counted_cell.specs.contracts.cell_ref.CellRef as cell_ref
use Rattle.counted_cell.specs.contracts.cell_ref.Reading as reading
use Rattle.counted_cell.specs.contracts.cell_ref.Receipt as receipt
use Rattle.counted_cell.specs.contracts.cell_ref.Permit as permit
use Rattle.counted_cell.specs.Counting.{CellName, Right, CanRead, no_right, owner_right, share_right, sole_right, permit_right, right_to, seen_by, seen_with, ref_owns, ref_shares}

abbrev pub word_of : Ptr → Val
word_of p = vstruct (vcons (ptr_val p) vnil)

pub typed : (p : Ptr) → InBlock p → T (has_ty (ty_struct [] (tcons ty_ptr tnil)) (word_of p)) × WT (word_of p)
typed (block_ptr b o) i = (tt, (tt, tt))
typed null_ptr i = absurd i

module _ (R : RattleType) where
  abbrev pub Data : RattleType
  Data = Struct (shape (cell_ref.the_type R))

  pub told : (p : Ptr) (vs : List Val) → Is Data (p, tt) vs → vs ≡ word_of p ∷ []
  told p vs is = is.1.0 ∙ ap (λ (ws : List Val). vstruct (of_list (ws ++ [])) ∷ []) is.1.1.0

  pub made : {M : Type 1} {𝓤 : Ura M} (𝓛 : Logic 𝓤) (p : Ptr) → ent 𝓤 (emp 𝓤) (sem 𝓛 (Data.own_val (p, tt) (word_of p ∷ [])))
  made 𝓛 p = makes_shadow 𝓛 (Data.own_val (p, tt) (word_of p ∷ [])) (λ vss. (tt, (tt, tt))) ((ptr_val p ∷ [], tt), (refl, (refl, tt)))

  pub opened : {M : Type 1} {𝓤 : Ura M} (𝓛 : Logic 𝓤) → Opens 𝓛 Data
  opened {M} {𝓤 = 𝓤} 𝓛 = (Struct-Copied 𝓛 (shape (cell_ref.the_type R)) (refl, tt) (RawPtr-copy.copied M 𝓤 𝓛, tt)).opens

-- whether a `&` to a reference of this right lends anything
abbrev Opens-right : Right → Type 0
Opens-right no_right = ⊥
Opens-right owner_right = Unit {0}
Opens-right share_right = Unit {0}
Opens-right sole_right = ⊥
Opens-right permit_right = ⊥

opens : (r : Right) → CanRead r → Opens-right r
opens r (inl e) = subst Opens-right (sym e) tt
opens r (inr e) = subst Opens-right (sym e) tt

module _ {M : Type 1} {𝓤 : Ura M} (𝓛 : Logic 𝓤) (R : RattleType) (x : R.Denot) (t : CellName) where
  pub seen_in : (p : Ptr) (right : Right) → CanRead right → (κ : Lft) → ent 𝓤 (sem 𝓛 (ref_shares R p x t right κ)) (guard 𝓤 (InBlock p) (sem 𝓛 (seen_by R (block_of p) (count_of p) x t κ)))
  seen_in null_ptr right can κ = never_e 𝓤 _
  seen_in (block_ptr b o) no_right can κ = absurd (opens no_right can)
  seen_in (block_ptr b o) owner_right can κ = guard_i 𝓤 (Unit {0}) (sem 𝓛 (seen_by R b o x t κ)) tt
  seen_in (block_ptr b o) share_right can κ = qed 𝓛 (‵ (seen_with R b o x t share_right κ) ∷ []) ∵ fsplit ! $ check ! tt $ keep ! (0 ∷ []) $ done !
  seen_in (block_ptr b o) sole_right can κ = absurd (opens sole_right can)
  seen_in (block_ptr b o) permit_right can κ = absurd (opens permit_right can)

  -- a `&` to a share shows that there is one
  pub share_in : (p : Ptr) (κ : Lft) → ent 𝓤 (sem 𝓛 (ref_shares R p x t share_right κ)) (sem 𝓛 (one (λ q. flft (t.share_life ∷ []) q) κ))
  share_in null_ptr κ = never_e 𝓤 _
  share_in (block_ptr b o) κ = qed 𝓛 (‵ (seen_with R b o x t share_right κ) ∷ []) ∵ fsplit ! $ keep ! (1 ∷ []) $ done !

  pub owned_in : (p : Ptr) (number : ℕ) (right : Right) → ent 𝓤 (sem 𝓛 (ref_owns R p x t number right)) (guard 𝓤 (InBlock p) (sem 𝓛 (right_to R (block_of p) (count_of p) x t number right)))
  owned_in null_ptr number right = never_e 𝓤 _
  owned_in (block_ptr b o) number right = guard_i 𝓤 (Unit {0}) (sem 𝓛 (right_to R b o x t number right)) tt

-- the data field of a `Reading`
abbrev pub reading_word : Val
reading_word = vstruct (vcons (vstruct vnil) vnil)

abbrev pub Marks : RattleType
Marks = Struct (shape reading.the_type)

pub marked : {M : Type 1} {𝓤 : Ura M} (𝓛 : Logic 𝓤) → ent 𝓤 (emp 𝓤) (sem 𝓛 (Marks.own_val (tt, tt) (reading_word ∷ [])))
marked 𝓛 = makes_shadow 𝓛 (Marks.own_val (tt, tt) (reading_word ∷ [])) (λ vss. (tt, ((λ uss. (tt, tt)), tt))) ((vstruct vnil ∷ [], tt), (refl, ((tt, (refl, tt)), tt)))

-- that of a `Receipt` is like it
abbrev pub ReceiptMarks : RattleType
ReceiptMarks = Struct (shape receipt.the_type)

pub receipt_marked : {M : Type 1} {𝓤 : Ura M} (𝓛 : Logic 𝓤) → ent 𝓤 (emp 𝓤) (sem 𝓛 (ReceiptMarks.own_val (tt, tt) (reading_word ∷ [])))
receipt_marked 𝓛 = makes_shadow 𝓛 (ReceiptMarks.own_val (tt, tt) (reading_word ∷ [])) (λ vss. (tt, ((λ uss. (tt, tt)), tt))) ((vstruct vnil ∷ [], tt), (refl, ((tt, (refl, tt)), tt)))

-- and that of a `Permit`
abbrev pub PermitMarks : RattleType
PermitMarks = Struct (shape permit.the_type)

pub permit_marked : {M : Type 1} {𝓤 : Ura M} (𝓛 : Logic 𝓤) → ent 𝓤 (emp 𝓤) (sem 𝓛 (PermitMarks.own_val (tt, tt) (reading_word ∷ [])))
permit_marked 𝓛 = makes_shadow 𝓛 (PermitMarks.own_val (tt, tt) (reading_word ∷ [])) (λ vss. (tt, ((λ uss. (tt, tt)), tt))) ((vstruct vnil ∷ [], tt), (refl, ((tt, (refl, tt)), tt)))

pub permit_told : (vs : List Val) → Is PermitMarks (tt, tt) vs → vs ≡ reading_word ∷ []
permit_told vs is = is.1.0 ∙ ap (λ (ws : List Val). vstruct (of_list (ws ++ [])) ∷ []) is.1.1.0.1.0

pub reading_told : (vs : List Val) → Is Marks (tt, tt) vs → vs ≡ reading_word ∷ []
reading_told vs is = is.1.0 ∙ ap (λ (ws : List Val). vstruct (of_list (ws ++ [])) ∷ []) is.1.1.0.1.0

pub receipt_told : (vs : List Val) → Is ReceiptMarks (tt, tt) vs → vs ≡ reading_word ∷ []
receipt_told vs is = is.1.0 ∙ ap (λ (ws : List Val). vstruct (of_list (ws ++ [])) ∷ []) is.1.1.0.1.0
