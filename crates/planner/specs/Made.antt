-- What is true of the tables of a task's recipes. Assumes nothing.
--   numbers ms                     the numbers of moves
--   recipe_numbers t x u           the numbers of the moves of the kept recipe of u to x; none if it is not kept
--   latch_at order i               the latch placed at place i
--   kept_place? t order x i        the latch at place i has a kept recipe to x
--   move_by t order table x i      the move of the recipe to x of the latch at place i
--   Orders t order                 the latches stand in the order of the task
--   Members t table                the recipes that are kept are those of the task
--   Counts t table                 each recipe has the length of the one kept
--   Within t order table           a kept recipe's move is one of the task
--   Helpers t order table          the helpers of a kept recipe are those of its move
--   Opens t order table            a kept recipe opens to its helpers' recipes to 1, its move, and their recipes to 0
use Rattle.std.specs.Prelude.{◌≡◌, ℕ, ◌<◌, Bool, true, List, map, length, slice_index}
use Rattle.words.specs.Sets.{has}
use Rattle.theory.specs.Tasks.{Move}
use Rattle.theory.specs.Order.{order as order_meant}
use Rattle.theory.specs.Recipes.{kept?, moves_to, helper?, recipe_parts, opened}
use Rattle.theory.specs.Route.{kept_table}
use Rattle.rules.specs.NormalForm.{number_of}
use Rattle.tables.specs.Items.{items}
use Rattle.tasks.specs.declared.task.NormalTask.{NormalTask}
use Rattle.tasks.specs.Places.{move_at}
use Rattle.tasks.specs.Tasks.{move_of, task_of}
use Rattle.planner.specs.declared.order.list.Order.{Order}
use Rattle.planner.specs.declared.recipes.recipe_table.RecipeTable.{RecipeTable}
use Rattle.planner.specs.Orders.{order_of}
use Rattle.planner.specs.RecipesKept.{before, kept_in?, recipe_at}

-- the numbers of moves
abbrev pub numbers : List Move → List ℕ
numbers ms = map number_of ms

-- the moves of a kept recipe, by number
abbrev pub recipe_numbers : NormalTask → Bool → ℕ → List ℕ
recipe_numbers t x u = numbers (moves_to x (kept_table (task_of t) u))

-- the latch at a place
abbrev pub latch_at : Order → ℕ → ℕ
latch_at order i = slice_index (order_of order) i

-- the recipe to x is kept
abbrev pub kept_place? : NormalTask → Order → Bool → ℕ → Bool
kept_place? t order x i = kept? x (kept_table (task_of t) (latch_at order i))

-- the move of a recipe
abbrev pub move_by : NormalTask → Order → RecipeTable → Bool → ℕ → Move
move_by t order table x i = move_of (move_at (items t.moves) (recipe_at x table (latch_at order i)).place)

-- the order of the task
abbrev pub Orders : NormalTask → Order → Type 0
Orders t order = order_of order ≡ order_meant (task_of t)

-- the latches with kept recipes
abbrev pub Members : NormalTask → RecipeTable → Type 0
Members t table = (x : Bool) (u : ℕ) → kept_in? x table u ≡ kept? x (kept_table (task_of t) u)

-- the lengths of recipes, 0 where none is kept
abbrev pub Counts : NormalTask → RecipeTable → Type 0
Counts t table = (x : Bool) (u : ℕ) → (recipe_at x table u).length ≡ length (recipe_numbers t x u)

-- the moves of recipes stand in the task
abbrev pub Within : NormalTask → Order → RecipeTable → Type 0
Within t order table =
    (x : Bool) (i : ℕ) → (i < length (order_of order)) × (kept_place? t order x i ≡ true) → (recipe_at x table (latch_at order i)).place < length (items t.moves)

-- the helpers of recipes
abbrev pub Helpers : NormalTask → Order → RecipeTable → Type 0
Helpers t order table =
    (x : Bool) (i : ℕ) → (i < length (order_of order)) × (kept_place? t order x i ≡ true) → (u : ℕ) →
    has (recipe_at x table (latch_at order i)).helpers u ≡ helper? (task_of t) (latch_at order i) (move_by t order table x i) u

-- what recipes open to
abbrev pub Opens : NormalTask → Order → RecipeTable → Type 0
Opens t order table =
    (x : Bool) (i : ℕ) → (i < length (order_of order)) × (kept_place? t order x i ≡ true) →
    recipe_numbers t x (latch_at order i)
    ≡ numbers (opened (kept_table (task_of t)) (recipe_parts (task_of t) (latch_at order i) (move_by t order table x i) (before (order_of order) i)))
