use Rattle.planner.specs.RecipesKept.{kept_behind}
use Rattle.planner.proofs.RecipeChoice.{NoneServes}
use Rattle.planner.proofs.recipes.making.Making.recipe.Given as goal

-- no move before the place serves
abbrev pub invariant-loop-place : goal.invariant-loop-place
invariant-loop-place l = NoneServes l.self.task.now (kept_behind l.self.task.now l.self.order.now l.self.placed) l.latch l.to l.place
