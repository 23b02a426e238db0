use Rattle.tables.specs.Items.{items}
use Rattle.tasks.specs.Tasks.{task_of}
use Rattle.planner.proofs.Placing.{Placing}
use Rattle.planner.proofs.order.place_all.Given as goal

-- as many latches are placed as there were turns
abbrev pub invariant-loop : goal.invariant-loop
invariant-loop l = Placing (task_of l.task) l.placed (items l.latches) l.counter
