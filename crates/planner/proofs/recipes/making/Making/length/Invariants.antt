use Rattle.std.proofs.Common.{◌^◌, ◌≤◌}
use Rattle.planner.proofs.RecipeLengths.{Counted}
use Rattle.planner.specs.Orders.{order_of}
use Rattle.planner.proofs.recipes.making.Making.length.Given as goal

-- the length behind the latches so far
abbrev pub invariant-loop-latch : goal.invariant-loop-latch
invariant-loop-latch l =
    (l.length ≤ 3 ^ l.latch-index) × Counted (order_of l.self.order.now) l.self.table l.helpers l.latch-index l.length
