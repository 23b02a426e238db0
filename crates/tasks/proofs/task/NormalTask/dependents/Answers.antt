use Rattle.std.proofs.Common.{rules, tests}
use Rattle.theory.specs.Class.{dependent?}
use Rattle.theory.specs.Tasks.{asks?}
use Rattle.tasks.proofs.task.NormalTask.dependents.Goals as goal

pub returns : goal.returns
unfolding dependent?
returns c = c.thrown_where.ensures (λ m. asks? c.args.position (m.asks c.args.latch)) (λ m b k. search (rules, tests))
