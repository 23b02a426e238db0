use Rattle.std.proofs.Common.{◌-◌, length}
use Rattle.planner.specs.Orders.{order_of}
use Rattle.planner.proofs.recipes.kept.Recipes.+extend.Given as goal

-- fewer latches of the order are left
abbrev pub decreases-extend : goal.decreases-extend
decreases-extend l = length (order_of l.self.now.order) - l.from
