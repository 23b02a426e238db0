use Rattle.std.proofs.Common.{length, ap, arith}
use Rattle.words.specs.Sets.{has}
use Rattle.planner.proofs.Listing.{all_fit, all_laid}
use Rattle.planner.proofs.recipes.kept.Recipes.entries.Goals as goal

pub extend-requires : goal.extend-requires
extend-requires c = (omega arith, omega (arith, all_fit c.args.self.now (has c.from.result), ap length c.new-entries.ensures))

pub returns-clause-parts : goal.returns-clause-parts
returns-clause-parts c = all_laid c.args.self.now c.from.result _ _ c.from.ensures c.new-entries.ensures c.extend.ensures
