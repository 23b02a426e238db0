-- What is true of the table of a route. Assumes nothing.
--   route_numbers t          the moves of the route of t, by number
--   entry_numbers s e        the moves of the recipe of an entry, by number
--   Listed s es              the recipes of the entries, one after another, are the route
use Rattle.std.specs.Prelude.{◌≡◌, ℕ, List}
use Rattle.std.specs.List.{flat_map}
use Rattle.theory.specs.Route.{route}
use Rattle.tasks.specs.declared.task.NormalTask.{NormalTask}
use Rattle.tasks.specs.Tasks.{task_of}
use Rattle.planner.specs.declared.recipes.kept.Recipes.{Recipes}
use Rattle.planner.specs.declared.route.entry.Entry.{Entry}
use Rattle.planner.specs.Made.{numbers, recipe_numbers, latch_at}

-- the route, by number
abbrev pub route_numbers : NormalTask → List ℕ
route_numbers t = numbers (route (task_of t))

-- the recipe of an entry, by number
abbrev pub entry_numbers : Recipes → Entry → List ℕ
entry_numbers s e = recipe_numbers s.task e.to (latch_at s.order e.place)

-- the entries open to the route
abbrev pub Listed : Recipes → List Entry → Type 0
Listed s es = route_numbers s.task ≡ flat_map (entry_numbers s) es
