-- A `&` to the nodes is made where one to the first that is left is. Assumes `Logic`.
use mathlib.Core.List.{[], ◌++◌}
use contract.BorrowLft.{⊑_meet, meet_⊑_left}
use denote.RattleType.{RattleType}
use denote.Param.Laws.{Laws}
use denote.Param.Shared.{copy_shared}
use denote.Struct.Field.{RawPtr-field}
use denote.Struct.Laws.{RawPtr-copy}
use denote.Struct.Lending.{of_Lends, Lends-first}
use Rattle.node_chain.specs.Nodes.{nodes_own, passed_own, next_lent}
use Rattle.node_chain.specs.contracts.nodes.Nodes as C
use Rattle.node_chain.proofs.nodes.Nodes.TheLaw.Statement.{statement}
use Rattle.node_chain.proofs.Lends.{next_laws, Lends-nodes}

pub shares : (T : RattleType) (L : Laws T) → statement T L
shares T L = let one = copy_shared RawPtr-field RawPtr-copy in
    of_Lends (C.struct T) (C.the_codes T.Denot T.coded) (C.the_heap T) (C.the_lent T)
    (λ d p. next_laws T L d.next d.nexts d.left) (one, (one, (one, tt)))
    (λ M 𝓤 𝓛 d p. Lends-first 𝓛 (nodes_own T d.next d.nexts d.left) (passed_own T d.head d.previous d.next d.priors d.passed) (next_lent T d.next d.nexts d.left) (C.the_row T).lives
    (Lends-nodes T L 𝓛 (C.the_row T).lives (⊑_meet _ (T.lives ++ []) (T.lives ++ []) (meet_⊑_left (T.lives ++ []) _) (meet_⊑_left (T.lives ++ []) _)) d.next d.nexts d.left))
