-- A block is room for its header and for the bytes behind it, and those are the block again. Assumes `Logic`.
use Rattle.std.proofs.Common.{◌≡◌, ℕ, zero, suc, ◌+◌, ◌-◌, ◌%◌, List, [], ◌∷◌, length, replicate, refl, ap, ◌∙◌, subst, arith, w8}
use Rattle.std.specs.Prelude.{Option, Some, None}
use Rattle.std.specs.Mem.{type_size}
use native.Mathlib.Nat.{zero-mod, mod_self, mod-one, add-zero}
use seplogic.Ra.Ura.{Ura}
use base.Fraction.{full_share}
use mir.Syntax.{ty_int, ty_array, tcons, tnil}
use mir.Val.{Val, vint, vstruct, vcons, vnil}
use base.Logic.{SProp, ent, sep, wand, via, id⊢}
use base.Fml.{Fml, ftrue, fsep, froom}
use prog.Memory.{size, align, up, pad}
use prog.RawLaws.{size-raw}
use types.Logic.{Logic, sem}
use types.Kit.{‵, ◌⊛◌, ◌$◌, ◌∵◌, !, qed, by, move, keep, use1, split, fjoin, fpack, feq_i, frame, done}
use denote.RattleType.{RattleType, Valss}
use denote.Memory.{lone}
use denote.Plain.{uint_out}
use denote.Builtin.{u8}
use denote.Struct.Struct.{within}
use denote.Struct.Declared as Declared
use denote.Struct.Tuple.{Tuple, tuple_type}
use denote.Steps.{nothing}
use Rattle.counted_cell.specs.Places.{slot, slots}
use Rattle.counted_cell.specs.Block.{header, whole_type, rooms, way_back}

pad-zero : (k : ℕ) → pad k zero ≡ zero
pad-zero k = ap (λ r. (k - r) % k) (zero-mod k) ∙ ap (λ r. r % k) {y = k} (omega arith) ∙ mod_self k

up-zero : (k : ℕ) → up k zero ≡ zero
up-zero k = ap (λ r. zero + r) (pad-zero k)

up-one : (e : ℕ) → up 1 e ≡ e
up-one e = ap (λ r. e + (1 - r) % 1) (mod-one e) ∙ add-zero e

module _ (R : RattleType) {M : Type 1} {𝓤 : Ura M} (𝓛 : Logic 𝓤) (n b o : ℕ) where
  open 𝓛 use {H}

  abbrev at : ℕ → ℕ → Fml
  at u v = fsep (froom (header R) b (o + u)) (fsep (froom (ty_array (ty_int w8) n) b (o + v)) ftrue)

  abbrev u₀ : ℕ
  u₀ = up (align (header R)) zero

  far : up 1 (u₀ + size (header R)) ≡ type_size R
  far = up-one (u₀ + size (header R)) ∙ ap (λ u. u + size (header R)) (up-zero (align (header R))) ∙ omega (arith, size-raw (lone R.mir))

  pub cuts : ent 𝓤 (H.room (whole_type R n) b o) (sep 𝓤 (sem 𝓛 (rooms R n b o)) (sem 𝓛 (way_back R n b o)))
  cuts = let X : SProp 𝓤 = H.room (whole_type R n) b o in
      let here : o + u₀ ≡ o = ap (λ u. o + u) (up-zero (align (header R))) ∙ add-zero o in
      let F : ℕ × ℕ → Fml = λ k. fsep (froom (header R) b k.0) (fsep (froom (ty_array (ty_int w8) n) b (o + k.1)) ftrue) in
      subst (λ (k : ℕ × ℕ). ent 𝓤 X (sep 𝓤 (sem 𝓛 (F k)) (wand 𝓤 (sem 𝓛 (F k)) X))) (λ i. (here i, far i))
      (𝓛.laws.room_fields [] (tcons (header R) (tcons (ty_array (ty_int w8) n) tnil)) b o)

module _ {M : Type 1} {𝓤 : Ura M} (𝓛 : Logic 𝓤) (b : ℕ) where
  open 𝓛 use {H}

  -- room for bytes is a row of empty places, and any row is room
  pub blank : (n o : ℕ) → ent 𝓤 (H.room (ty_array (ty_int w8) n) b o) (sem 𝓛 (slots u8 b o (replicate n None)))
  blank zero o = qed 𝓛 (‵ (froom (ty_array (ty_int w8) 0) b o) ∷ []) ∵ keep ! [] $ done !
  blank (suc n) o = qed 𝓛 (‵ (froom (ty_array (ty_int w8) (suc n)) b o) ∷ []) ∵
      use1 𝓛 (‵ (froom (ty_int w8) b o) ⊛ ‵ (froom (ty_array (ty_int w8) n) b (o + 1))) (𝓛.laws.room_uncons (ty_int w8) n b o) $ split ! $ frame ! $ by ! (blank n (o + 1))

  emptied : (c : Option ℕ) (o : ℕ) → ent 𝓤 (sem 𝓛 (slot u8 b o c)) (H.room (ty_int w8) b o)
  emptied None o = id⊢ 𝓤 (H.room (ty_int w8) b o)
  emptied (Some x) o = via 𝓤 (H.at full_share (ty_int w8) b o (vint w8 x)) (uint_out 𝓛 full_share w8 x b o) (𝓛.laws.at_room (ty_int w8) b o (vint w8 x))

  pub swept : (cs : List (Option ℕ)) (o : ℕ) → ent 𝓤 (sem 𝓛 (slots u8 b o cs)) (H.room (ty_array (ty_int w8) (length cs)) b o)
  swept [] o = 𝓛.laws.room_nil (ty_int w8) b o
  swept (c ∷ cs) o = qed 𝓛 (‵ (slot u8 b o c) ∷ ‵ (slots u8 b (o + 1) cs) ∷ []) ∵
      use1 𝓛 (‵ (froom (ty_int w8) b o)) (emptied c o) $ move ! (1 ∷ []) $ use1 𝓛 (‵ (froom (ty_array (ty_int w8) (length cs)) b (o + 1))) (swept cs (o + 1)) $ move ! (1 ∷ []) $
      by ! (𝓛.laws.room_cons (ty_int w8) (length cs) b o)

abbrev pub four_val : Val → Val → Val → Val → Val
four_val u v w x = vstruct (vcons u (vcons v (vcons w (vcons x vnil))))

pub four_of : {M : Type 1} {𝓤 : Ura M} (𝓛 : Logic 𝓤) (R S T U : RattleType) (x : R.Denot) (y : S.Denot) (z : T.Denot) (w : U.Denot) (u₀ u₁ u₂ u₃ : Val)
    → ent 𝓤 (sep 𝓤 (sem 𝓛 (R.own_val x (u₀ ∷ []))) (sep 𝓤 (sem 𝓛 (S.own_val y (u₁ ∷ []))) (sep 𝓤 (sem 𝓛 (T.own_val z (u₂ ∷ []))) (sem 𝓛 (U.own_val w (u₃ ∷ []))))))
    (sem 𝓛 ((Tuple (R ∷ S ∷ T ∷ U ∷ [])).own_val (x, y, z, w) (four_val u₀ u₁ u₂ u₃ ∷ [])))
four_of 𝓛 R S T U x y z w u₀ u₁ u₂ u₃ =
    qed 𝓛 (‵ (R.own_val x (u₀ ∷ [])) ∷ ‵ (S.own_val y (u₁ ∷ [])) ∷ ‵ (T.own_val z (u₂ ∷ [])) ∷ ‵ (U.own_val w (u₃ ∷ [])) ∷ []) ∵ nothing ! $ move ! (4 ∷ 0 ∷ []) $ fjoin ! $ move ! (3 ∷ 0 ∷ []) $ fjoin ! $
    move ! (2 ∷ 0 ∷ []) $ fjoin ! $ move ! (1 ∷ 0 ∷ []) $ fjoin ! $ feq_i ! (List Val) (four_val u₀ u₁ u₂ u₃ ∷ []) (four_val u₀ u₁ u₂ u₃ ∷ []) refl $ fjoin ! $
    fpack ! (Valss (R ∷ S ∷ T ∷ U ∷ [])) (within (Declared.shape (tuple_type (R ∷ S ∷ T ∷ U ∷ []))) (x, (y, (z, (w, tt)))) (four_val u₀ u₁ u₂ u₃ ∷ [])) (u₀ ∷ [], (u₁ ∷ [], (u₂ ∷ [], (u₃ ∷ [], tt)))) $ done !
