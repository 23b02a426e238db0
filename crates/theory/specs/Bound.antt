-- How many moves a route has at most. Assumes nothing.
--   longest n         of n latches
--   longest_route n   the same, if a book can have n latches
use Rattle.std.specs.Prelude.{ℕ, ◌-◌, ◌*◌, ◌/◌, ◌^◌, cond, ◌&&◌, Some, None, Option, nat_le}
use Rattle.words.specs.Sets.{most_latches}

-- (5 × 3^(n − 1) − 1) / 2, which is a whole number
abbrev pub longest : ℕ → ℕ
longest n = (5 * 3 ^ (n - 1) - 1) / 2

-- a book has from 1 to the most latches
abbrev pub longest_route : ℕ → Option ℕ
longest_route n = cond (nat_le 1 n && nat_le n most_latches) (Some (longest n)) None
