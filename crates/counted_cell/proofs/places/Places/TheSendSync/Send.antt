use denote.RattleType.{RattleType}
use denote.Param.Send.{IsSend}
use Rattle.counted_cell.proofs.PlacesSent.{Places-send}
use Rattle.counted_cell.specs.contracts.places.Places.{the_row}

pub send : (R : RattleType) → IsSend R → IsSend (the_row R)
send = Places-send
