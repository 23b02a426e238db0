-- How much a book holds. Assumes nothing.
--   most_moves   the most moves of a book
use Rattle.std.specs.Prelude.{ℕ}

-- the most moves of a book
abbrev pub most_moves : ℕ
most_moves = 128
