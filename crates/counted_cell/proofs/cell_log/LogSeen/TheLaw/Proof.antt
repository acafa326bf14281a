-- A `&` to what was seen has what was seen, which can be had twice. Assumes `Logic`.
use base.Logic.{snd∗}
use base.Before.{before}
use types.Logic.{sem}
use denote.Builtin.{unit}
use denote.Param.Shared.{copy_shared}
use denote.Struct.Laws.{field_copy}
use denote.Struct.Lending.{of_Lends}
use Rattle.core.specs.contracts.marker.PhantomData as marker
use Rattle.counted_cell.specs.CellLog.{seen_owns}
use Rattle.counted_cell.specs.contracts.cell_log.LogSeen as C
use Rattle.counted_cell.proofs.CellLogSteps.{seen_twice, lends_twice}
use Rattle.counted_cell.proofs.cell_log.LogSeen.TheLaw.Statement.{statement}

pub shares : statement
shares =
    of_Lends C.struct (C.the_codes (marker.the_row unit).coded) C.the_heap C.the_lent
    (λ d p. record { contraction = λ M 𝓤 𝓛 κ. seen_twice 𝓛 d.name d.entries d.gone; mono = λ M 𝓤 𝓛 κ' κ. snd∗ 𝓤 (sem 𝓛 (before κ' κ)) (sem 𝓛 (seen_owns d.name d.entries d.gone)) })
    (copy_shared (marker.the_field unit) (field_copy (marker.the_type unit) tt), tt)
    (λ M 𝓤 𝓛 d p. lends_twice 𝓛 (seen_owns d.name d.entries d.gone) (seen_twice 𝓛 d.name d.entries d.gone) C.the_row.lives)
