-- A `&` to a reference has what every holder has. Assumes `Logic`.
use denote.RattleType.{RattleType}
use denote.Param.Laws.{Laws}
use denote.Param.Shared.{copy_shared}
use denote.Struct.Field.{RawPtr-field}
use denote.Struct.Laws.{RawPtr-copy}
use denote.Struct.Lending.{of_Lends}
use Rattle.counted_cell.specs.contracts.cell_ref.CellRef as C
use Rattle.counted_cell.proofs.cell_ref.CellRef.TheLaw.Statement.{statement}
use Rattle.counted_cell.proofs.CellRefLent.{ref_laws, Lends-ref}

pub shares : (T : RattleType) (L : Laws T) → statement T L
shares T L = of_Lends (C.struct T) (C.the_codes T.Denot T.coded) (C.the_heap T) (C.the_lent T)
    (λ d p. ref_laws T L.shr_laws d.value d.name d.ptr d.right) (copy_shared RawPtr-field RawPtr-copy, tt)
    (λ M 𝓤 𝓛 d p. Lends-ref T L.shr_laws d.value d.name 𝓛 (C.the_row T).lives d.ptr d.number d.right)
