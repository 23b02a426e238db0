-- Going down into a recipe: it is kept if it has a move, and it is its helpers' recipes to 1, its move, and their recipes to 0.
use Rattle.std.proofs.Common.{◌≡◌, ℕ, ◌<◌, Bool, true, false, List, ◌∷◌, ◌++◌, length, ap, ◌∙◌, inl, inr, arith}
use Rattle.std.proofs.lemmas.Bool.{cases_Bool}
use Rattle.words.specs.Sets.{has}
use Rattle.theory.specs.Recipes.{kept?, helper?}
use Rattle.theory.specs.Route.{kept_table}
use Rattle.theory.proofs.Opening.{no_recipe}
use Rattle.tables.specs.Items.{items}
use Rattle.tasks.specs.declared.task.NormalTask.{NormalTask}
use Rattle.tasks.specs.Places.{move_at}
use Rattle.tasks.specs.Tasks.{task_of}
use Rattle.planner.specs.declared.recipes.kept.Recipes.{Recipes}
use Rattle.planner.specs.Lookup.{helped, in_turn}
use Rattle.planner.specs.Made.{numbers, recipe_numbers, latch_at, kept_place?, move_by}
use Rattle.planner.specs.RecipesKept.{before, recipe_at}
use Rattle.planner.proofs.Seeking.{parts_numbers, in_order}
use Rattle.planner.specs.Orders.{order_of}

-- a recipe that has a move is kept
pub kept_if_long : (t : NormalTask) (x : Bool) (u k : ℕ) → k < length (recipe_numbers t x u) → kept? x (kept_table (task_of t) u) ≡ true
kept_if_long t x u k l =
    elim (cases_Bool (kept? x (kept_table (task_of t) u))) [
      | inl h ↦ h
      | inr h ↦ let none : length (recipe_numbers t x u) ≡ 0 = ap (λ ms. length (numbers ms)) (no_recipe x (kept_table (task_of t) u) h) in absurd (omega arith)
    ]

module _ (s : Recipes) (i : ℕ) (l : i < length (order_of s.order)) where
  pub helpers_of : (x : Bool) → kept_place? s.task s.order x i ≡ true → (u : ℕ) →
      has (recipe_at x s.table (latch_at s.order i)).helpers u
      ≡ helper? (task_of s.task) (latch_at s.order i) (move_by s.task s.order s.table x i) u
  helpers_of x h = s.helpers x i (l, h)

  -- the moves of a kept recipe
  pub unrolled : (x : Bool) → kept_place? s.task s.order x i ≡ true →
      recipe_numbers s.task x (latch_at s.order i)
      ≡ helped s.task true (recipe_at x s.table (latch_at s.order i)).helpers (in_turn s.order true i)
      ++ ((move_at (items s.task.moves) (recipe_at x s.table (latch_at s.order i)).place).number
      ∷ helped s.task false (recipe_at x s.table (latch_at s.order i)).helpers (in_turn s.order false i))
  unrolled x h =
      let helpers = (recipe_at x s.table (latch_at s.order i)).helpers in
      s.opens x i (l, h)
      ∙ parts_numbers s.task (latch_at s.order i) (move_by s.task s.order s.table x i) helpers (helpers_of x h) (before (order_of s.order) i)
      ∙ ap (λ (vs : List ℕ). helped s.task true helpers (in_turn s.order true i)
      ++ ((move_at (items s.task.moves) (recipe_at x s.table (latch_at s.order i)).place).number ∷ helped s.task false helpers vs))
      (in_order s.order i (omega arith))
