use Rattle.std.proofs.Common.{◌≡◌, length, take}
use Rattle.std.specs.List.{flat_map}
use Rattle.planner.specs.Listed.{entry_numbers}
use Rattle.planner.proofs.recipes.kept.Recipes.length.Given as goal

-- the moves of the entries so far
abbrev pub invariant-loop-entry : goal.invariant-loop-entry
invariant-loop-entry l = l.length ≡ length (flat_map (entry_numbers l.self) (take l.entry-index l.entry-items))
