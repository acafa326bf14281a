use denote.RattleType.{RattleType}
use denote.Param.Send.{IsSync}
use Rattle.counted_cell.proofs.PlacesSent.{Places-sync}
use Rattle.counted_cell.specs.contracts.places.Places.{the_row}

pub sync : (R : RattleType) → IsSync R → IsSync (the_row R)
sync = Places-sync
