-- The order of latches as the planner keeps it. Assumes nothing.
--   Members s vs         the set s and the list vs have the same latches
--   PlacedNext t vs o    o is the lowest latch that can be placed next behind those of vs, if there is one
--   order_of o           the latches of o in order
use Rattle.std.specs.Prelude.{◌≡◌, ℕ, List, Option, MatchOption}
use Rattle.std.proofs.Math.Option.{none, some}
use Rattle.tables.specs.Items.{items}
use Rattle.words.specs.declared.LatchSet.{LatchSet}
use Rattle.words.specs.Sets.{has}
use Rattle.theory.specs.Searches.{has as listed, lowest}
use Rattle.theory.specs.Tasks.{Task}
use Rattle.theory.specs.Order.{next?}
use Rattle.planner.specs.declared.order.list.Order.{Order}

-- the latches of the set are those of the list
abbrev pub Members : LatchSet → List ℕ → Type 0
Members s vs = (u : ℕ) → has s u ≡ listed vs u

-- the lowest latch that can be placed next
abbrev pub PlacedNext : Task → List ℕ → Option ℕ → Type 0
PlacedNext t vs o = MatchOption o (lowest (next? t vs) t.width ≡ none) (λ v. lowest (next? t vs) t.width ≡ some v)

-- the latches in order
abbrev pub order_of : Order → List ℕ
order_of o = items o.latches
