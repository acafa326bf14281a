use Rattle.std.proofs.Common.{inr}
use Rattle.table_generator.proofs.Making.{rest_reached}
use Rattle.table_generator.proofs.generate.tried.Goals as goal

pub returns-then-is_power_of_two-clause-reached : goal.returns-then-is_power_of_two-clause-reached
returns-then-is_power_of_two-clause-reached c = λ few. inr (rest_reached c.args.count c.args.bound c.min-second.result c.requires.count c.if-count-eq3.false c.if-count-eq5.false few c.min-second.ensures)

pub returns-clause-reached : goal.returns-clause-reached
returns-clause-reached c = λ few. inr (rest_reached c.args.count c.args.bound c.min-second.result c.requires.count c.if-count-eq3.false c.if-count-eq5.false few c.min-second.ensures)
