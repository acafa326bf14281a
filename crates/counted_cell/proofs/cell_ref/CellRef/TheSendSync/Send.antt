use denote.RattleType.{RattleType}
use denote.Param.Send.{IsSend, IsSync}
use Rattle.counted_cell.specs.contracts.cell_ref.CellRef.{the_row}
use Rattle.counted_cell.proofs.CellRefSent.{ref_send}

pub send : (T : RattleType) → IsSend T → IsSync T → IsSend (the_row T)
send T s y = ref_send T y
