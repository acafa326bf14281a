use Rattle.std.proofs.Common.{sym, ◌∙◌}
use Rattle.example_named.proofs.AllOk.{each_ok}
use Rattle.example_named.proofs.readers.look_up_all.Goals as goal

pub returns : goal.returns
returns g c = each_ok _ c.args.texts.now c.in_ok-all.all.items c.in_ok-results.results.items c.in_ok-all.ensures (sym c.in_ok-results.results.ok.0 ∙ c.in_ok-results.ensures.len) c.in_ok-results.ensures.each
