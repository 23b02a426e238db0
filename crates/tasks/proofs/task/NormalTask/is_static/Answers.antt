use Rattle.std.proofs.Common.{arith}
use Rattle.std.proofs.lemmas.Grind.{common_steps}
use Rattle.theory.specs.Class.{static?}
use Rattle.tasks.proofs.task.NormalTask.is_static.Goals as goal

pub returns-then-not-is_thrown : goal.returns-then-not-is_thrown
unfolding static?
returns-then-not-is_thrown c = grind (arith, common_steps)

pub returns-then-is_asked : goal.returns-then-is_asked
unfolding static?
returns-then-is_asked c = grind (arith, common_steps)

pub returns-else-is_asked : goal.returns-else-is_asked
unfolding static?
returns-else-is_asked c = grind (arith, common_steps)
