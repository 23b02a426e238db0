use Rattle.planner.proofs.Serving.{serves_told}
use Rattle.planner.proofs.recipes.serves.Goals as goal

pub returns-then-m-to : goal.returns-then-m-to
returns-then-m-to c t table right below =
    serves_told t table c.args.kept c.args.latch c.args.m c.without.result c.difference.result right below c.without.ensures
    c.difference.ensures c.args.to c.is_empty.result c.is_empty.ensures c.if-m-latch.true c.if-m-to.true
