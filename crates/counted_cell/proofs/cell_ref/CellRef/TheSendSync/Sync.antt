use denote.RattleType.{RattleType}
use denote.Param.Send.{IsSend, IsSync}
use Rattle.counted_cell.specs.contracts.cell_ref.CellRef.{the_row}
use Rattle.counted_cell.proofs.CellRefSent.{ref_sync}

pub sync : (T : RattleType) → IsSend T → IsSync T → IsSync (the_row T)
sync T s y = ref_sync T y
