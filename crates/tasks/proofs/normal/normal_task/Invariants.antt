use Rattle.tables.specs.Items.{items}
use Rattle.tasks.proofs.NormalFormTasks.{Brought}
use Rattle.tasks.proofs.normal.normal_task.Given as goal

-- the moves so far are brought to normal form
abbrev pub invariant-loop-number : goal.invariant-loop-number
invariant-loop-number l = Brought l.book l.start l.number (items l.moves)
