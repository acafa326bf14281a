-- A loan may go to another thread: it has nothing, or a `&` to a table.
use Prim.Native.Nat.{ℕ}
use mathlib.Core.List.{[], ◌∷◌}
use base.Shift.{Keyless}
use denote.RawPtr.{Ptr}
use denote.Param.Send.{IsSend, AllSend, owning_send, struct_send, sendable}
use denote.Struct.Struct.{exits_of}
use denote.Struct.Owning.{shape, fields, to}
use Rattle.std.specs.Prelude.{Option, None, Some}
use Rattle.std_alloc.proofs.SendSync.{quiet, seen}
use Rattle.string_cache_c.specs.Loan.{loan_has}
use Rattle.string_cache_c.specs.contracts.numbered_table.NumberedTable as NumberedTable
use Rattle.string_cache_c.proofs.numbered_table.NumberedTable.TheSendSync.{the_sync as numbered}
use Rattle.string_cache_c.specs.contracts.loan.Loan.{the_row, the_type}

keyless : (life : ℕ) (p : Ptr) (o : Option NumberedTable.the_row.Denot) → Keyless (loan_has life p o)
keyless life p None = tt
keyless life p (Some x) = λ share. (tt, seen NumberedTable.the_row numbered p x (life ∷ []))

pub send : IsSend the_row
send =
    let all : AllSend (fields the_type) = (search sendable, tt) in
    owning_send the_type all (λ d. keyless d.life d.at d.value)
    (λ k. quiet (to the_type) (exits_of k (fields the_type)) ((struct_send (shape the_type) all).leaving k))
