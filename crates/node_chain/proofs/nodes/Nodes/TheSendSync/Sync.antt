use denote.RattleType.{RattleType}
use denote.Param.Send.{IsSync}
use Rattle.node_chain.specs.contracts.nodes.Nodes.{the_row}
use Rattle.node_chain.proofs.Sent.{nodes_sync}

pub sync : (T : RattleType) → IsSync T → IsSync (the_row T)
sync = nodes_sync
