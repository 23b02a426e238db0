use Rattle.planner.proofs.recipes.kept.Recipes.+move_at.Given as goal

-- the place in the order falls
abbrev pub decreases-move_at : goal.decreases-move_at
decreases-move_at l = l.place
