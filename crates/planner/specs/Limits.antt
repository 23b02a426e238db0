-- How much a route holds. Assumes nothing.
--   most_entries   the most entries of a route
use Rattle.std.specs.Prelude.{ℕ, ◌*◌}
use Rattle.words.specs.Sets.{most_latches}

-- two for each latch
abbrev pub most_entries : ℕ
most_entries = 2 * most_latches
