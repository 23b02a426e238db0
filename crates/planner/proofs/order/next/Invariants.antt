use Rattle.std.proofs.Common.{◌≡◌, ℕ, ◌<◌, true, List}
use mathlib.Core.Option.{none}
use Rattle.words.specs.Sets.{has}
use Rattle.theory.specs.Searches.{lowest}
use Rattle.theory.specs.Order.{next?}
use Rattle.tasks.specs.Tasks.{task_of}
use Rattle.planner.specs.Orders.{Members}
use Rattle.planner.proofs.order.next.Given as goal

-- no latch before v can be placed
abbrev pub invariant-next : goal.invariant-next
invariant-next l = (vs : List ℕ) → Members l.placed vs → lowest (next? (task_of l.task) vs) l.v ≡ none

-- the predecessors before p are placed
abbrev pub invariant-loop-p : goal.invariant-loop-p
invariant-loop-p l = (u : ℕ) → u < l.p → has l.before u ≡ true → has l.placed u ≡ true

abbrev pub decreases-search : goal.decreases-search
decreases-search l = 0
