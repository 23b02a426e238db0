-- What the recipes under way are known to be, fact by fact.
use Rattle.std.proofs.Common.{◌≡◌, ℕ, Bool, length, subst₂}
use Rattle.std.proofs.Math.Logic.{∥∥₁_elim}
use Rattle.std.proofs.Props.{props}
use Rattle.theory.specs.Recipes.{kept?}
use Rattle.theory.specs.Route.{kept_table}
use Rattle.planner.specs.declared.order.list.Order.{Order}
use Rattle.planner.specs.declared.recipes.recipe_table.RecipeTable.{RecipeTable}
use Rattle.tasks.specs.declared.task.NormalTask.{NormalTask}
use Rattle.tasks.specs.Tasks.{task_of}
use Rattle.planner.specs.Made.{Orders}
use Rattle.planner.specs.Orders.{order_of}
use Rattle.planner.specs.RecipesKept.{Lengths, Short, Tabled, kept_behind, kept_in?}
use Rattle.planner.proofs.RecipesTabled.{all_tabled}

module _ (t : NormalTask) (order : Order) (k : ℕ) (table : RecipeTable) (h : ∥ Tabled t (order_of order) k (kept_behind t order k) table ∥₁) where
  pub members_of : (x : Bool) (u : ℕ) → kept_in? x table u ≡ kept? x (kept_behind t order k u)
  members_of = ∥∥₁_elim h (hlevel props) (λ d. d.members)

  pub lengths_of : Lengths (kept_behind t order k) table
  lengths_of = ∥∥₁_elim h (hlevel props) (λ d. d.lengths)

  pub short_of : Short (order_of order) k table
  short_of = ∥∥₁_elim h (hlevel props) (λ d. d.short)

-- once all latches are placed, the table stands for that of the task
pub finished :
    (t : NormalTask) (o : Order) (t' : NormalTask) (o' : Order) (k : ℕ) (table : RecipeTable) → t' ≡ t → o' ≡ o → k ≡ length (order_of o) → Orders t o →
    ∥ Tabled t' (order_of o') k (kept_behind t' o' k) table ∥₁ → ∥ Tabled t (order_of o) (length (order_of o)) (kept_table (task_of t)) table ∥₁
finished t o t' o' k table same same_order all ordered h =
    let Under : NormalTask → Order → Type 0 = λ u p. ∥ Tabled u (order_of p) k (kept_behind u p k) table ∥₁ in
    ∥∥₁_elim (subst₂ Under same same_order h) (hlevel props) (λ d. ∣ all_tabled t (order_of o) k table all ordered d ∣₁)
