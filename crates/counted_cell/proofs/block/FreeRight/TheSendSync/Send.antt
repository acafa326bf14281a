use Rattle.std.proofs.Common.{ℕ}
use base.Shift.{Keyless}
use denote.RattleType.{RattleType}
use denote.RawPtr.{Ptr, block_ptr, null_ptr}
use denote.Param.Send.{IsSend, Frees, AllSend, owning_send, struct_send, sendable}
use denote.Struct.Struct.{exits_of}
use denote.Struct.Owning.{shape, fields, to}
use Rattle.core.specs.declared.alloc.Allocator.{Ghosts}
use Rattle.counted_cell.specs.Block.{free_right_owns}
use Rattle.counted_cell.specs.contracts.block.FreeRight.{the_row, the_type}
use Rattle.counted_cell.proofs.CellRefSent.{quiet}

module _ (B A : RattleType) (g : Ghosts A.Denot) (f : Frees g g.dealloc_token) where
  owned : (a : A.Denot) (p : Ptr) (n : ℕ) → Keyless (free_right_owns B (g.dealloc_token a) p n)
  owned a (block_ptr b o) n = (((tt, (tt, tt)), tt), f.frees a _ (block_ptr b o))
  owned a null_ptr n = tt

pub send : (B A : RattleType) (g : Ghosts A.Denot) → IsSend A → Frees g g.dealloc_token → IsSend (the_row B A g)
send B A g s f =
    let O = the_type B A g in let all : AllSend (fields O) = (search sendable, tt) in
    owning_send O all (λ d. owned B A g f d.alloc d.at d.len) (λ k. quiet (to O) (exits_of k (fields O)) ((struct_send (shape O) all).leaving k))
