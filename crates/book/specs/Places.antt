-- Names and moves in the places of a book. Assumes nothing.
--   name_of n         the bytes of the name n
--   name_at names k   the bytes of the name at place k
--   no_move           an empty place for a move
--   move_at moves k   the move at place k
use Rattle.std.specs.Prelude.{ℕ, false, List, [], map, take, slice_index_or}
use Rattle.book.specs.declared.name.Name.{Name}
use Rattle.book.specs.declared.moves.Move.{Move}
use Rattle.book.specs.Settings.{nothing_asked}

-- the bytes of a name
abbrev pub name_of : Name → List ℕ
name_of n = take n.len n.bytes

-- the bytes of the name at place k, none behind the last place
abbrev pub name_at : List Name → ℕ → List ℕ
name_at names k = slice_index_or (map name_of names) k []

-- an empty place for a move
abbrev pub no_move : Move
no_move = record { latch = 0; to = false; when = nothing_asked }

-- the move at place k, an empty one behind the last place
abbrev pub move_at : List Move → ℕ → Move
move_at moves k = slice_index_or moves k no_move
