-- What nodes with a place among them own and lend, at items of the row R.
use Rattle.std.specs.Prelude.{◌≡◌, List, [], ◌∷◌}
use mir.Syntax.{Ty}
use base.Fml.{Lft, Fml, ftrue, ffalse, fsep, fex}
use denote.RattleType.{RattleType}
use denote.RawPtr.{Ptr}
use denote.Sharing.{nothing, said}
use denote.Struct.Lending.{lent_at}
use Rattle.std.specs.contracts.impls.GlobalAllocator.TheImpl.{ghosts}
use Rattle.std_alloc.specs.Box.Ownership.{box_owns}
use Rattle.node_chain.specs.contracts.nodes.Node.{the_row}

-- the right to free a block of the heap. Every handle to the heap gives the same right
abbrev pub heap_token : Ty → Ptr → Fml
heap_token = ghosts.dealloc_token (record { memory = record { seal = tt } })

module _ (R : RattleType) where
  -- the node at p, which leads to n, and the right to free its block
  abbrev pub node_owns : Ptr → Ptr → R.Denot → Fml
  node_owns p n x = box_owns heap_token (the_row R) p (record { next = n; item = x })

  -- the nodes that are left: the first is at p, and each leads to the next one, at the first of the ns
  abbrev pub nodes_own : Ptr → List Ptr → List R.Denot → Fml
  nodes_own p [] [] = ftrue
  nodes_own p [] (x ∷ xs) = ffalse
  nodes_own p (n ∷ ns) [] = ffalse
  nodes_own p (n ∷ ns) (x ∷ xs) = fsep (node_owns p n x) (nodes_own n ns xs)

  -- the nodes that were passed, the last one first: it is at p and leads to n, and the one before it is at the first of the qs. The first of all is
  -- at h
  abbrev pub passed_own : Ptr → Ptr → Ptr → List Ptr → List R.Denot → Fml
  passed_own h p n [] [] = fex (h ≡ n) (λ _. ftrue)
  passed_own h p n [] (x ∷ xs) = ffalse
  passed_own h p n (q ∷ qs) [] = ffalse
  passed_own h p n (q ∷ qs) (x ∷ xs) = fsep (node_owns p n x) (passed_own h q p qs xs)

  -- the nodes that are left, and those that were passed
  abbrev pub both_own : Ptr → Ptr → Ptr → List Ptr → List R.Denot → List Ptr → List R.Denot → Fml
  both_own h p n qs passed ns left = fsep (nodes_own n ns left) (passed_own h p n qs passed)

  -- a `&` sees the first node that is left
  abbrev pub next_lent : Ptr → List Ptr → List R.Denot → Lft → Fml
  next_lent p [] [] = nothing
  next_lent p [] (x ∷ xs) = said ffalse
  next_lent p (n ∷ ns) [] = said ffalse
  next_lent p (n ∷ ns) (x ∷ xs) = lent_at (the_row R) p (record { next = n; item = x })
