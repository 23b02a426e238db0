-- Moves in the places of a task. Assumes nothing.
--   no_move            an empty place
--   move_at moves k    the move at place k
use Rattle.std.specs.Prelude.{ℕ, false, List, slice_index_or}
use Rattle.book.specs.Settings.{nothing_asked}
use Rattle.tasks.specs.declared.task.NormalMove.{NormalMove}

-- an empty place
abbrev pub no_move : NormalMove
no_move = record { number = 0; latch = 0; to = false; asks = nothing_asked }

-- the move at place k, an empty one behind the last place
abbrev pub move_at : List NormalMove → ℕ → NormalMove
move_at moves k = slice_index_or moves k no_move
