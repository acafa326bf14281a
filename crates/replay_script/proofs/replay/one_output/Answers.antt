use Rattle.text_forms.specs.Tables.{empty_tables}
use Rattle.replay_script.proofs.OneOutput.{one_output}
use Rattle.replay_script.proofs.replay.one_output.Goals as goal

pub returns : goal.returns
returns c = one_output empty_tables
