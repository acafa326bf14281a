-- The data field of a `BlockRight`. Assumes `Logic`.
use Rattle.std.proofs.Common.{◌≡◌, List, [], ◌∷◌, ◌++◌, refl, ap, ◌∙◌}
use seplogic.Ra.Ura.{Ura}
use mir.Val.{Val, vstruct, vcons, vnil, of_list}
use base.Logic.{ent, emp}
use types.Logic.{Logic, sem}
use denote.RattleType.{RattleType}
use denote.Laws.{Is}
use denote.Shadow.{makes_shadow}
use denote.Struct.Struct.{Struct}
use denote.Struct.Owning.{shape}
use Rattle.counted_cell.specs.contracts.block_right.BlockRight as part

abbrev pub word : Val
word = vstruct (vcons (vstruct vnil) vnil)

module _ (R : RattleType) where
  abbrev pub Data : RattleType
  Data = Struct (shape (part.the_type R))

  pub told : (vs : List Val) → Is Data (tt, tt) vs → vs ≡ word ∷ []
  told vs is = is.1.0 ∙ ap (λ (ws : List Val). vstruct (of_list (ws ++ [])) ∷ []) is.1.1.0.1.0

  pub made : {M : Type 1} {𝓤 : Ura M} (𝓛 : Logic 𝓤) → ent 𝓤 (emp 𝓤) (sem 𝓛 (Data.own_val (tt, tt) (word ∷ [])))
  made 𝓛 = makes_shadow 𝓛 (Data.own_val (tt, tt) (word ∷ [])) (λ vss. (tt, ((λ uss. (tt, tt)), tt))) ((vstruct vnil ∷ [], tt), (refl, ((tt, (refl, tt)), tt)))
