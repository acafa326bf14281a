-- The data field of a `CellLog` and of a `LogSeen`. Assumes `Logic`.
use Rattle.std.proofs.Common.{[], ◌∷◌, refl}
use seplogic.Ra.Ura.{Ura}
use mir.Val.{Val, vstruct, vcons, vnil}
use base.Logic.{ent, emp}
use types.Logic.{Logic, sem}
use denote.RattleType.{RattleType}
use denote.Shadow.{makes_shadow}
use denote.Struct.Struct.{Struct}
use denote.Struct.Owning.{shape}
use Rattle.counted_cell.specs.contracts.cell_log.CellLog as cell_log
use Rattle.counted_cell.specs.contracts.cell_log.LogSeen as log_seen

abbrev pub token : Val
token = vstruct (vcons (vstruct vnil) vnil)

abbrev pub LogMarks : RattleType
LogMarks = Struct (shape cell_log.the_type)

abbrev pub SeenMarks : RattleType
SeenMarks = Struct (shape log_seen.the_type)

pub log_marked : {M : Type 1} {𝓤 : Ura M} (𝓛 : Logic 𝓤) → ent 𝓤 (emp 𝓤) (sem 𝓛 (LogMarks.own_val (tt, tt) (token ∷ [])))
log_marked 𝓛 = makes_shadow 𝓛 (LogMarks.own_val (tt, tt) (token ∷ [])) (λ vss. (tt, ((λ uss. (tt, tt)), tt))) ((vstruct vnil ∷ [], tt), (refl, ((tt, (refl, tt)), tt)))

pub seen_marked : {M : Type 1} {𝓤 : Ura M} (𝓛 : Logic 𝓤) → ent 𝓤 (emp 𝓤) (sem 𝓛 (SeenMarks.own_val (tt, tt) (token ∷ [])))
seen_marked 𝓛 = makes_shadow 𝓛 (SeenMarks.own_val (tt, tt) (token ∷ [])) (λ vss. (tt, ((λ uss. (tt, tt)), tt))) ((vstruct vnil ∷ [], tt), (refl, ((tt, (refl, tt)), tt)))
