use Rattle.std.proofs.Common.{◌+◌}
use base.Fraction.{full_share}
use base.Shift.{Keyless}
use denote.RattleType.{RattleType}
use denote.RawPtr.{Ptr, block_ptr, null_ptr}
use denote.Param.Send.{IsSend, AllSend, part_keyless, owning_send, struct_send, sendable}
use denote.Struct.Struct.{Struct, exits_of}
use denote.Struct.Declared as Declared
use denote.Memory.{part_of}
use denote.Builtin.{u64}
use Rattle.counted_cell.specs.contracts.header.Header as block
use denote.Struct.Owning.{shape, fields, to}
use Rattle.counted_cell.specs.Counting.{CellName, offset}
use Rattle.counted_cell.specs.BlockRight.{block_right_owns}
use Rattle.counted_cell.specs.contracts.block_right.BlockRight.{the_row, the_type}
use Rattle.counted_cell.proofs.CellRefSent.{quiet}

ns : IsSend u64
ns = search sendable

owned : (T : RattleType) → IsSend T → (p : Ptr) (x : T.Denot) (t : CellName) → Keyless (block_right_owns T p x t)
unfolding part_of
owned T s null_ptr x t = tt
owned T s (block_ptr b o) x t = (part_keyless T s full_share x b (o + offset T), ((tt, part_keyless T s full_share x b (o + offset T)), part_keyless (Struct (Declared.shape (block.the_type T))) (struct_send (Declared.shape (block.the_type T)) (ns, (s, tt))) full_share (0, (x, tt)) b o))

pub send : (T : RattleType) → IsSend T → IsSend (the_row T)
send T s =
    let O = the_type T in let all : AllSend (fields O) = (search sendable, tt) in
    owning_send O all (λ d. owned T s d.ptr d.value d.name) (λ k. quiet (to O) (exits_of k (fields O)) ((struct_send (shape O) all).leaving k))
