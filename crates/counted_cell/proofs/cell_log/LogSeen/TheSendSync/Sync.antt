use denote.Param.Send.{IsSync, sendable}
use Rattle.counted_cell.specs.contracts.cell_log.LogSeen.{the_row, the_type}
use denote.Struct.Struct.{Struct}
use denote.Struct.Owning.{shape}
use Rattle.counted_cell.proofs.CellLogSteps.{seen_keyless}

pub sync : IsSync the_row
sync = let fields : IsSync (Struct (shape the_type)) = search sendable depth 20 in
    record { shared = λ d b o ν. (fields.shared (tt, tt) b o ν, seen_keyless d.name d.entries d.gone) }
