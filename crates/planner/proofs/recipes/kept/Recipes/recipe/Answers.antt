use Rattle.std.proofs.Common.{ℕ, ◌<◌, sym, subst}
use Rattle.words.specs.Sets.{most_latches}
use Rattle.planner.specs.Orders.{order_of}
use Rattle.planner.proofs.OrderFresh.{latch_below}
use Rattle.planner.proofs.recipes.kept.Recipes.recipe.Goals as goal

pub bounds-self-latch : goal.bounds-self-latch
bounds-self-latch c =
    let s = c.args.self.now in
    subst (λ (v : ℕ). v < most_latches) (sym c.latch.ensures) (latch_below s.task (order_of s.order) s.orders c.args.place c.requires)
