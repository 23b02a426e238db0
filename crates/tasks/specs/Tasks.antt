-- Tasks in normal form as the planner keeps them. Assumes nothing.
--   move_of m    the move that m stands for
--   moves_of t   the moves of t
--   task_of t    the task that t stands for
use Rattle.std.specs.Prelude.{List, map}
use Rattle.tables.specs.Items.{items}
use Rattle.theory.specs.Tasks.{Move, Task}
use Rattle.tasks.specs.declared.task.NormalMove.{NormalMove}
use Rattle.tasks.specs.declared.task.NormalTask.{NormalTask}
use Rattle.tasks.specs.Asks.{asks_of}

-- the move that a record stands for
abbrev pub move_of : NormalMove → Move
move_of m = record { number = m.number; latch = m.latch; to = m.to; asks = asks_of m.asks }

-- the moves of a task, by rising number
abbrev pub moves_of : NormalTask → List Move
moves_of t = map move_of (items t.moves)

-- the task that a record stands for
abbrev pub task_of : NormalTask → Task
task_of t = record { width = t.width; moves = moves_of t; want = asks_of t.want }
