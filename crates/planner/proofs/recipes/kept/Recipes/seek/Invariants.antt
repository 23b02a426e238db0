use Rattle.std.proofs.Common.{◌≡◌, ℕ, List, ◌++◌, drop}
use Rattle.planner.specs.Lookup.{nth, helped, in_turn}
use Rattle.planner.proofs.recipes.kept.Recipes.seek.Given as goal

-- what is at place k is at what is left of k in what is left of the latches
abbrev pub invariant-loop-turn : goal.invariant-loop-turn
invariant-loop-turn l =
    (ys : List ℕ) →
    nth (helped l.self.task l.to l.helpers (in_turn l.self.order l.to l.placed) ++ ys) l.k
    ≡ nth (helped l.self.task l.to l.helpers (drop l.turn (in_turn l.self.order l.to l.placed)) ++ ys) l.rest
