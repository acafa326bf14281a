-- Nodes may cross threads, and be shared by them, as their items may. Assumes `Logic`.
use Rattle.std.proofs.Common.{List, [], ◌∷◌}
use mir.Syntax.{Ty}
use mir.Raw.{raw as bare}
use base.Fraction.{full_share}
use base.Fml.{ftrue}
use base.Shift.{Keyless}
use denote.Exit.{Exit, unchanged, leaves, hidden, under}
use denote.RattleType.{RattleType}
use denote.RawPtr.{Ptr, block_ptr, null_ptr, block_of, count_of, in_block}
use denote.Memory.{lone, part_of}
use denote.Builtin.{RawPtr}
use denote.Struct.Struct.{Struct, exits_of}
use denote.Struct.Owning.{shape, fields, to}
use denote.Struct.Declared as Declared
use denote.Param.Send.{IsSend, IsSync, Quiet, Common, AllSend, part_keyless, owning_send, struct_send, struct_sync, sendable}
use Rattle.std.proofs.Crossing.{frees}
use Rattle.node_chain.specs.Nodes.{heap_token, node_owns, nodes_own, passed_own, next_lent}
use Rattle.node_chain.specs.contracts.nodes.Node as node
use Rattle.node_chain.specs.contracts.nodes.Nodes as nodes
use Rattle.node_chain.specs.contracts.nodes.StoredNodes as stored

quiet : {D X : Type 0} (to : D → X) (e : Exit X) → Quiet e → Quiet (hidden (under to e))
quiet to unchanged q = λ x w. tt
quiet to (leaves L l S s r₀) q = λ d. q (to d)

pointer_send : IsSend RawPtr
pointer_send = search sendable

pointer_sync : IsSync RawPtr
pointer_sync = search sendable

inside : (p : Ptr) → Keyless (in_block p ftrue)
inside (block_ptr b o) = tt
inside null_ptr = tt

heap_keyless : (ty : Ty) (p : Ptr) → Keyless (heap_token ty p)
heap_keyless = frees.frees (record { memory = record { seal = tt } })

module _ (T : RattleType) where
  module _ (s : IsSend T) where
    node_keyless : (p n : Ptr) (x : T.Denot) → Keyless (node_owns T p n x)
    unfolding part_of
    node_keyless null_ptr n x = (tt, heap_keyless (bare (lone (node.the_row T).mir)) null_ptr)
    node_keyless (block_ptr b o) n x = (part_keyless (Struct (Declared.shape (node.the_type T))) (struct_send (Declared.shape (node.the_type T)) (pointer_send, (s, tt))) full_share (n, (x, tt)) b o, heap_keyless (bare (lone (node.the_row T).mir)) (block_ptr b o))

    left_keyless : (p : Ptr) (ns : List Ptr) (xs : List T.Denot) → Keyless (nodes_own T p ns xs)
    left_keyless p [] [] = tt
    left_keyless p [] (x ∷ xs) = tt
    left_keyless p (n ∷ ns) [] = tt
    left_keyless p (n ∷ ns) (x ∷ xs) = (node_keyless p n x, left_keyless n ns xs)

    passed_keyless : (h p n : Ptr) (qs : List Ptr) (xs : List T.Denot) → Keyless (passed_own T h p n qs xs)
    passed_keyless h p n [] [] = λ e. tt
    passed_keyless h p n [] (x ∷ xs) = tt
    passed_keyless h p n (q ∷ qs) [] = tt
    passed_keyless h p n (q ∷ qs) (x ∷ xs) = (node_keyless p n x, passed_keyless h q p qs xs)

    pub nodes_send : IsSend (nodes.the_row T)
    nodes_send =
        let O = nodes.the_type T in let all : AllSend (fields O) = (pointer_send, (pointer_send, (pointer_send, tt))) in
        owning_send O all (λ d. (left_keyless d.next d.nexts d.left, passed_keyless d.head d.previous d.next d.priors d.passed)) (λ k. quiet (to O) (exits_of k (fields O)) ((struct_send (shape O) all).leaving k))

    pub stored_send : IsSend (stored.the_row T)
    stored_send =
        let O = stored.the_type T in let all : AllSend (fields O) = (pointer_send, tt) in
        owning_send O all (λ d. left_keyless d.head d.nexts d.items) (λ k. quiet (to O) (exits_of k (fields O)) ((struct_send (shape O) all).leaving k))

  module _ (s : IsSync T) where
    node_common : (p n : Ptr) (x : T.Denot) (ns : List Ptr) (xs : List T.Denot) → Common (next_lent T p (n ∷ ns) (x ∷ xs))
    node_common p n x ns xs κ = (inside p, (struct_sync (Declared.shape (node.the_type T)) (pointer_sync, (s, tt))).shared (n, (x, tt)) (block_of p) (count_of p) κ)

    lent_common : (p : Ptr) (ns : List Ptr) (xs : List T.Denot) → Common (next_lent T p ns xs)
    lent_common p [] [] κ = tt
    lent_common p [] (x ∷ xs) κ = tt
    lent_common p (n ∷ ns) [] κ = tt
    lent_common p (n ∷ ns) (x ∷ xs) κ = node_common p n x ns xs κ

    pub nodes_sync : IsSync (nodes.the_row T)
    nodes_sync = let O = nodes.the_type T in record {
      shared = λ d b o κ. ((struct_sync (shape O) (pointer_sync, (pointer_sync, (pointer_sync, tt)))).shared (to O d) b o κ, lent_common d.next d.nexts d.left κ);
    }
