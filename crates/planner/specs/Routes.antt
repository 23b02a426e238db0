-- What a route means. Assumes nothing.
--   moves_of r   the moves of the route r, by number: those of the rules' route of its task
use Rattle.std.specs.Prelude.{ℕ, List}
use Rattle.planner.specs.declared.route.tabled.Route.{Route}
use Rattle.planner.specs.Listed.{route_numbers}

-- the moves of a route
abbrev pub moves_of : Route → List ℕ
moves_of r = route_numbers r.recipes.task
