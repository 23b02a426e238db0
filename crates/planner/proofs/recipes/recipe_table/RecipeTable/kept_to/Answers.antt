use Rattle.std.proofs.Common.{is_some, ap, inl, inr, arith}
use Rattle.std.proofs.lemmas.Bool.{cases_lt}
use Rattle.std.proofs.lemmas.Bool.Decides.{nat_tests}
use Rattle.std.proofs.lemmas.List.{get_or_past}
use Rattle.planner.specs.declared.recipes.recipe_table.Kept.{Kept as KeptRecipes}
use Rattle.planner.specs.declared.recipes.recipe_table.Kept.TheVariants.{Neither}
use Rattle.planner.specs.RecipesKept.{recipe_in}
use Rattle.planner.proofs.recipes.recipe_table.RecipeTable.kept_to.Goals as goal

pub returns : goal.returns
returns c u =
    let table = c.args.self.now in
    let e = c.from_fn.ensures u in
    elim (cases_lt u 32) [
      | inl l ↦ grind (arith, nat_tests, e)
      | inr g ↦
          let none = ap (λ (k : KeptRecipes). is_some (recipe_in c.args.to k)) (get_or_past table.kept u Neither (omega (arith, table.places))) in
          grind (arith, nat_tests, e, none)
    ]
