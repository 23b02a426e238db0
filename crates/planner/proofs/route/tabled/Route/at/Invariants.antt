use Rattle.std.proofs.Common.{◌≡◌, drop}
use Rattle.std.specs.List.{flat_map}
use Rattle.planner.specs.Listed.{entry_numbers}
use Rattle.planner.specs.Lookup.{nth}
use Rattle.planner.specs.Routes.{moves_of}
use Rattle.planner.proofs.route.tabled.Route.at.Given as goal

-- what is at place k is at what is left of k in what is left of the entries
abbrev pub invariant-loop-entry : goal.invariant-loop-entry
invariant-loop-entry l = nth (moves_of l.self) l.k ≡ nth (flat_map (entry_numbers l.self.recipes) (drop l.entry-index l.entry-items)) l.rest
