use Rattle.std.proofs.Common.{true, ◌∙◌}
use Rattle.planner.proofs.Judging.{no_way_told}
use Rattle.planner.proofs.recipes.kept.Recipes.is_no_way.Goals as goal

pub returns : goal.returns
returns c =
    let s = c.args.self.now in
    no_way_told s.task c.kept_to-kept.result c.difference.result (λ u. c.kept_to-kept.ensures u ∙ s.members true u) c.difference.ensures
    c.is_empty.result c.is_empty.ensures
