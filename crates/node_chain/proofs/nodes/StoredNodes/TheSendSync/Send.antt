use denote.RattleType.{RattleType}
use denote.Param.Send.{IsSend}
use Rattle.node_chain.specs.contracts.nodes.StoredNodes.{the_row}
use Rattle.node_chain.proofs.Sent.{stored_send}

pub send : (T : RattleType) → IsSend T → IsSend (the_row T)
send = stored_send
