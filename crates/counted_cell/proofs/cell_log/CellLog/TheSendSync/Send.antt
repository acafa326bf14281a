use denote.Param.Send.{IsSend}
use Rattle.counted_cell.specs.contracts.cell_log.CellLog.{the_row}
use Rattle.counted_cell.proofs.CellLogSteps.{log_keyless}

pub send : IsSend the_row
send = record { owned = λ d vs. ((λ vss. (tt, ((λ uss. (tt, tt)), tt))), log_keyless d.name d.entries d.gone); leaving = λ k f vs. tt }
