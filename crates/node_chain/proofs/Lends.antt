-- A `&` to nodes is made where one to the first that is left is. Assumes `Logic`.
use Rattle.std.proofs.Common.{List, [], ◌∷◌}
use seplogic.Ra.Ura.{Ura}
use mir.Raw.{raw as bare}
use base.Fraction.{full_share}
use base.Fml.{Lft, ftrue, ffalse, Incl}
use types.Logic.{Logic}
use denote.RattleType.{RattleType}
use denote.Memory.{lone}
use denote.Param.Laws.{Laws}
use denote.RawPtr.{Ptr, lies_at}
use denote.Shares.{Shares-less}
use denote.Sharing.{ShrLaws}
use denote.SharingLaws.{nothing_shr_laws, said_shr_laws}
use denote.Struct.Lending.{Lends, Lends-false, Lends-nothing, Lends-first, Lends-lies, lent_at, lent_at_shr_laws}
use Rattle.node_chain.specs.Nodes.{heap_token, node_owns, nodes_own, next_lent}
use Rattle.node_chain.specs.contracts.nodes.Node as node
use Rattle.node_chain.proofs.nodes.Node.TheLaws as node_laws

module _ (R : RattleType) (L : Laws R) where
  abbrev NodeRow : RattleType
  NodeRow = node.the_row R

  abbrev LN : Laws NodeRow
  LN = node_laws.the_row_laws R L

  pub next_laws : (p : Ptr) (ns : List Ptr) (xs : List R.Denot) → ShrLaws (next_lent R p ns xs)
  next_laws p [] [] = nothing_shr_laws
  next_laws p [] (x ∷ xs) = said_shr_laws ffalse tt
  next_laws p (n ∷ ns) [] = said_shr_laws ffalse tt
  next_laws p (n ∷ ns) (x ∷ xs) = lent_at_shr_laws NodeRow LN.shr_laws p (record { next = n; item = x })

  pub Lends-nodes : {M : Type 1} {𝓤 : Ura M} (𝓛 : Logic 𝓤) (l : Lft) → Incl l NodeRow.lives → (p : Ptr) (ns : List Ptr) (xs : List R.Denot) → Lends 𝓛 (nodes_own R p ns xs) (next_lent R p ns xs) l
  Lends-nodes 𝓛 l inc p [] [] = Lends-nothing 𝓛 ftrue l
  Lends-nodes 𝓛 l inc p [] (x ∷ xs) = Lends-false 𝓛 (next_lent R p [] (x ∷ xs)) l
  Lends-nodes 𝓛 l inc p (n ∷ ns) [] = Lends-false 𝓛 (next_lent R p (n ∷ ns) []) l
  Lends-nodes 𝓛 l inc p (n ∷ ns) (x ∷ xs) =
      let d : NodeRow.Denot = record { next = n; item = x } in
      Lends-first 𝓛 (node_owns R p n x) (nodes_own R n ns xs) (lent_at NodeRow p d) l
      (Lends-first 𝓛 (lies_at NodeRow full_share p d) (heap_token (bare (lone NodeRow.mir)) p) (lent_at NodeRow p d) l (Lends-lies 𝓛 NodeRow l p d (Shares-less 𝓛 NodeRow NodeRow.lives l inc (LN.shares 𝓛) d)))
