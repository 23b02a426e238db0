use Rattle.std.proofs.Common.{true, is_some, sym, refl, ap, ◌∙◌, arith}
use Rattle.std.proofs.lemmas.Bool.Decides.{nat_tests}
use Rattle.words.specs.Sets.{most_latches}
use Rattle.words.proofs.Members.{no_member}
use Rattle.planner.proofs.RecipesTabled.{none_tabled, nothing_kept}
use Rattle.planner.specs.declared.recipes.recipe_table.Kept.{Kept as KeptRecipes}
use Rattle.planner.specs.RecipesKept.{recipe_in}
use Rattle.planner.specs.Orders.{order_of}
use Rattle.planner.proofs.recipes.making.Making.new.Goals as goal

pub invariant_of-result-2 : goal.invariant_of-result-2
invariant_of-result-2 c =
    let t = c.args.task.now in
    record {
      orders = c.requires;
      splits = λ v l. let e = c.from_fn.ensures v in grind (arith, nat_tests, e, t.narrow);
      room = omega arith;
      kept_ones = λ u. no_member u ∙ sym (ap (λ (x : KeptRecipes). is_some (recipe_in true x)) (nothing_kept most_latches u));
      tabled = ∣ none_tabled t (order_of c.args.order.now) (record { kept = _; places = _ }) refl ∣₁;
    }
