use Rattle.std.proofs.Common.{◌≡◌, ◌-◌, length}
use Rattle.planner.specs.Orders.{order_of}
use Rattle.planner.proofs.recipes.making.Making.place_all.Given as goal

-- the task and the order stay
abbrev pub invariant-loop-self : goal.invariant-loop-self
invariant-loop-self l = (l.self.task.now ≡ l.fn.self.task.now) × (l.self.order.now ≡ l.fn.self.order.now)

-- fewer latches are left
abbrev pub decreases-loop-self : goal.decreases-loop-self
decreases-loop-self l = length (order_of l.self.order.now) - l.self.placed
