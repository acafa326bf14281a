-- A reference may cross threads where its value may be shared and sent. Assumes `Logic`.
use Rattle.std.proofs.Common.{ℕ, suc, ◌+◌, Bool, true, false, List, [], ◌∷◌}
use base.Fml.{Lft}
use base.Shift.{Keyless}
use types.Keyed.{token, entry_keyless, entries_keyless}
use denote.Exit.{Exit, unchanged, leaves, hidden, under}
use denote.RattleType.{RattleType}
use denote.RawPtr.{Ptr, block_ptr, null_ptr}
use denote.Builtin.{RawPtr}
use denote.Struct.Struct.{exits_of}
use denote.Struct.Owning.{shape, fields, to}
use denote.Param.Send.{IsSend, IsSync, Quiet, owning_send, struct_send, struct_sync, sendable}
use Rattle.counted_cell.specs.Counting.{CellName, Right, no_right, owner_right, share_right, sole_right, permit_right, permit_by, shares_out, spare, seats, phase, offset, shown, reads, seen_by, ref_owns, ref_shares}
use Rattle.counted_cell.specs.contracts.cell_ref.CellRef.{the_row, the_type}

pub quiet : {D X : Type 0} (to : D → X) (e : Exit X) → Quiet e → Quiet (hidden (under to e))
quiet to unchanged q = λ x w. tt
quiet to (leaves L l S s r₀) q = λ d. q (to d)

out_keyless : (t : CellName) (n : ℕ) (y : Bool) → Keyless (shares_out t n y)
out_keyless t n true = λ r c. tt
out_keyless t n false = ((λ _. tt), tt)

spare_keyless : (t : CellName) (k : ℕ) (grows : Bool) → Keyless (spare t grows k)
spare_keyless t k true = entries_keyless token t.receipts k (λ _. tt)
spare_keyless t k false = tt

permit_keyless : (t : CellName) (grows : Bool) (number : ℕ) → Keyless (permit_by t grows number)
permit_keyless t true number = tt
permit_keyless t false number = entry_keyless token t.receipts number tt

seats_keyless : (t : CellName) (k : ℕ) (outs : List Bool) → Keyless (seats t k outs)
seats_keyless t k [] = (entries_keyless token t.claims k (λ _. tt), spare_keyless t k t.grows)
seats_keyless t k (true ∷ outs) = (entry_keyless token t.receipts k tt, seats_keyless t (suc k) outs)
seats_keyless t k (false ∷ outs) = (entry_keyless token t.claims k tt, seats_keyless t (suc k) outs)

phase_keyless : (t : CellName) (b o : ℕ) (y : Bool) → Keyless (phase t b o y)
phase_keyless t b o true = λ n. (tt, ((λ _. tt), (((λ r c. tt), out_keyless t n), (λ outs. ((λ _. tt), seats_keyless t 0 outs)))))
phase_keyless t b o false = tt

module _ (T : RattleType) (y : IsSync T) (x : T.Denot) (t : CellName) where
  shown_keyless : (b o : ℕ) (κ : Lft) → Keyless (shown T b o x t κ)
  shown_keyless b o κ = (tt, y.shared x b (o + offset T) κ)

  reads_keyless : (b o : ℕ) → Keyless (reads T b o x t)
  reads_keyless b o = ((λ e c. tt), (phase_keyless t b (o + 0), shown_keyless b o (t.value_life ∷ [])))

  pub owned_keyless : (p : Ptr) (number : ℕ) (right : Right) → Keyless (ref_owns T p x t number right)
  owned_keyless null_ptr number right = tt
  owned_keyless (block_ptr b o) number no_right = tt
  owned_keyless (block_ptr b o) number owner_right = reads_keyless b o
  owned_keyless (block_ptr b o) number share_right = (reads_keyless b o, ((λ e c. tt), entry_keyless token t.claims number tt))
  owned_keyless (block_ptr b o) number sole_right = (tt, tt)
  owned_keyless (block_ptr b o) number permit_right = permit_keyless t t.grows number

  seen_keyless : (b o : ℕ) (κ : Lft) → Keyless (seen_by T b o x t κ)
  seen_keyless b o κ = ((λ q. tt), (phase_keyless t b (o + 0), shown_keyless b o (t.value_life ∷ [])))

  pub shared_keyless : (p : Ptr) (right : Right) (κ : Lft) → Keyless (ref_shares T p x t right κ)
  shared_keyless null_ptr right κ = tt
  shared_keyless (block_ptr b o) no_right κ = tt
  shared_keyless (block_ptr b o) owner_right κ = seen_keyless b o κ
  shared_keyless (block_ptr b o) share_right κ = (seen_keyless b o κ, (λ q. tt))
  shared_keyless (block_ptr b o) sole_right κ = tt
  shared_keyless (block_ptr b o) permit_right κ = tt

ps : IsSend RawPtr
ps = search sendable

py : IsSync RawPtr
py = search sendable

pub ref_send : (T : RattleType) → IsSync T → IsSend (the_row T)
ref_send T y = let O = the_type T in owning_send O (ps, tt) (λ d. owned_keyless T y d.value d.name d.ptr d.number d.right) (λ k. quiet (to O) (exits_of k (fields O)) ((struct_send (shape O) (ps, tt)).leaving k))

pub ref_sync : (T : RattleType) → IsSync T → IsSync (the_row T)
ref_sync T y = record { shared = λ d b o κ. ((struct_sync (shape (the_type T)) (py, tt)).shared (to (the_type T) d) b o κ, shared_keyless T y d.value d.name d.ptr d.right κ) }
