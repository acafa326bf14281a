-- A row of places may cross threads where its items may. Assumes `Logic`.
use Rattle.std.specs.Prelude.{ℕ, ◌+◌, List, [], ◌∷◌, Option, Some, None}
use Rattle.std.specs.Mem.{type_size}
use base.Fraction.{full_share}
use base.Shift.{Keyless}
use denote.RattleType.{RattleType}
use denote.RawPtr.{Ptr, block_ptr, null_ptr}
use denote.Struct.Struct.{exits_of}
use denote.Struct.Owning.{shape, fields, to}
use denote.Param.Send.{IsSend, IsSync, Common, AllSend, part_keyless, owning_send, struct_send, struct_sync, sendable}
use Rattle.std_alloc.proofs.SendSync.{quiet}
use Rattle.counted_cell.specs.Places.{slots, slots_lent, places_own, places_lent}
use Rattle.counted_cell.specs.contracts.places.Places as Places

module _ (R : RattleType) where
  slots-Keyless : IsSend R → (b o : ℕ) (cs : List (Option R.Denot)) → Keyless (slots R b o cs)
  slots-Keyless s b o [] = tt
  slots-Keyless s b o (Some x ∷ cs) = (part_keyless R s full_share x b o, slots-Keyless s b (o + type_size R) cs)
  slots-Keyless s b o (None ∷ cs) = (tt, slots-Keyless s b (o + type_size R) cs)

  slots_lent-Common : IsSync R → (b o : ℕ) (cs : List (Option R.Denot)) → Common (slots_lent R b o cs)
  slots_lent-Common y b o [] κ = tt
  slots_lent-Common y b o (Some x ∷ cs) κ = (y.shared x b o κ, slots_lent-Common y b (o + type_size R) cs κ)
  slots_lent-Common y b o (None ∷ cs) κ = (tt, slots_lent-Common y b (o + type_size R) cs κ)

  cells-Keyless : IsSend R → (p : Ptr) (cs : List (Option R.Denot)) → Keyless (places_own R p cs)
  cells-Keyless s (block_ptr b o) cs = (tt, slots-Keyless s b o cs)
  cells-Keyless s null_ptr cs = tt

  places_lent-Common : IsSync R → (p : Ptr) (cs : List (Option R.Denot)) → Common (places_lent R p cs)
  places_lent-Common y (block_ptr b o) cs κ = (tt, slots_lent-Common y b o cs κ)
  places_lent-Common y null_ptr cs κ = tt

  pub Places-send : IsSend R → IsSend (Places.the_row R)
  Places-send s =
      let O = Places.the_type R in let all : AllSend (fields O) = (search sendable, tt) in
      owning_send O all (λ d. cells-Keyless s d.at d.slots) (λ k. quiet (to O) (exits_of k (fields O)) ((struct_send (shape O) all).leaving k))

  pub Places-sync : IsSync R → IsSync (Places.the_row R)
  Places-sync y = let O = Places.the_type R in record { shared = λ d b o κ. ((struct_sync (shape O) (search sendable, tt)).shared (to O d) b o κ, places_lent-Common y d.at d.slots κ) }
