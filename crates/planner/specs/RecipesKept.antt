-- Recipes as the planner keeps them. Assumes nothing.
--   Splits t s                          of the latches of t, those in s are splitting
--   KeepsOne s kept                     the latches in s have a kept recipe to 1, and no others
--   Helps t v m s                       the latches in s are the helpers of m, a move of v
--   before latches i                    the first i latches of a list, the last of them first
--   no_recipe                           the recipe of no move
--   recipe_in x c                       the recipe to x, if it is one of the kept ones c
--   recipe_or x c                       that recipe, or the one of no move
--   kept_of one zero wanted             what is kept of these recipes to 1 and to 0, if they were made
--   kept_at table u                     what is kept of u
--   kept_in? x table u                  the recipe of u to x is kept
--   recipe_at x table u                 the recipe of u to x, or the one of no move
--   Lengths kept table                  each recipe has the length of the one kept
--   Short latches k table               the recipes of the latch at each place i before k have at most 3 ^ i moves
--   StandsFor t v placed c r            c is r, a recipe of v behind the latches of placed: its move, its helpers and its length
--   recipe_by t kept v placed c         the recipe of v by the move of c, behind the latches of placed
--   Made t kept v placed x n c          c is the recipe of v to x, and has at most n moves
--   Chosen t kept v placed x n o        the recipe of v to x, if some move serves, has at most n moves; o is that recipe
--   kept_last t kept placed v           what is kept of v, placed behind these latches
--   kept_behind t order k               what is kept of each of the first k latches of the order
--   Held t v placed n k c               the recipes c are k, what is kept of v behind the latches of placed, of at most n moves
--   Tabled t latches k kept table       the table holds what is kept, the first k of the latches being placed
use Rattle.std.specs.Prelude.{◌≡◌, ℕ, ◌^◌, ◌<◌, ◌≤◌, Bool, true, false, List, reverse, length, take, Option, MatchOption, slice_index, slice_index_or, None, Some, is_some, unwrap_or}
use Rattle.std.proofs.Math.Option.{none, some}
use Rattle.words.specs.declared.LatchSet.{LatchSet}
use Rattle.words.specs.Sets.{has, no_latch}
use Rattle.theory.specs.Tasks.{Move, Task}
use Rattle.theory.specs.Class.{splitting?}
use Rattle.theory.specs.Recipes.{Kept, Table, kept?, recipe_to, moves_to, helper?, recipe_with, recipe_parts, recipe, keep, table_of}
use Rattle.theory.specs.Recipes.{Recipe as RecipeMeant}
use Rattle.planner.specs.declared.order.list.Order.{Order}
use Rattle.planner.specs.declared.recipes.recipe.Recipe.{Recipe}
use Rattle.planner.specs.declared.recipes.recipe_table.Kept.{Kept as KeptRecipes}
use Rattle.planner.specs.declared.recipes.recipe_table.Kept.TheVariants.{Neither, One, Both}
use Rattle.planner.specs.declared.recipes.recipe_table.RecipeTable.{RecipeTable}
use Rattle.tables.specs.Items.{items}
use Rattle.tasks.specs.declared.task.NormalTask.{NormalTask}
use Rattle.planner.specs.Orders.{order_of}
use Rattle.tasks.specs.Places.{move_at}
use Rattle.tasks.specs.Tasks.{move_of, task_of}

-- the splitting latches of a task
abbrev pub Splits : Task → LatchSet → Type 0
Splits t s = (v : ℕ) → v < t.width → has s v ≡ splitting? t v

-- the latches with a kept recipe to 1
abbrev pub KeepsOne : LatchSet → Table → Type 0
KeepsOne s kept = (u : ℕ) → has s u ≡ kept? true (kept u)

-- the latches that are thrown around a move
abbrev pub Helps : Task → ℕ → Move → LatchSet → Type 0
Helps t v m s = (u : ℕ) → has s u ≡ helper? t v m u

-- the latches before place i, the last first
abbrev pub before : List ℕ → ℕ → List ℕ
before latches i = reverse (take i latches)

-- the recipe of no move
abbrev pub no_recipe : Recipe
no_recipe = record { place = 0; helpers = no_latch; length = 0 }

-- the recipe to x, if it is kept
abbrev pub recipe_in : Bool → KeptRecipes → Option Recipe
recipe_in x Neither = None
recipe_in true (One up) = Some up
recipe_in false (One up) = None
recipe_in true (Both up down) = Some up
recipe_in false (Both up down) = Some down

-- the recipe to x, the one of no move if it is not kept
abbrev pub recipe_or : Bool → KeptRecipes → Recipe
recipe_or x c = unwrap_or (recipe_in x c) no_recipe

-- both recipes if both were made; the one to 1 alone unless its latch is wanted at 0
abbrev pub kept_of : Option Recipe → Option Recipe → Bool → KeptRecipes
kept_of None zero wanted = Neither
kept_of (Some up) None true = Neither
kept_of (Some up) None false = One up
kept_of (Some up) (Some down) wanted = Both up down

-- what is kept of a latch, nothing behind the last place
abbrev pub kept_at : RecipeTable → ℕ → KeptRecipes
kept_at table u = slice_index_or table.kept u Neither

-- the recipe of a latch to x is kept
abbrev pub kept_in? : Bool → RecipeTable → ℕ → Bool
kept_in? x table u = is_some (recipe_in x (kept_at table u))

-- the recipe of a latch to x, the one of no move if it is not kept
abbrev pub recipe_at : Bool → RecipeTable → ℕ → Recipe
recipe_at x table u = recipe_or x (kept_at table u)

-- the lengths of the recipes that are kept, 0 where none is
abbrev pub Lengths : Table → RecipeTable → Type 0
Lengths kept table = (x : Bool) (u : ℕ) → (recipe_at x table u).length ≡ length (moves_to x (kept u))

-- a recipe is at most three times as long as those of the latch placed before
abbrev pub Short : List ℕ → ℕ → RecipeTable → Type 0
Short latches k table = (i : ℕ) → i < k → (x : Bool) → (recipe_at x table (slice_index latches i)).length ≤ 3 ^ i

-- what a recipe stands for
pub record StandsFor (t : NormalTask) (v : ℕ) (placed : List ℕ) (c : Recipe) (r : RecipeMeant) : Type 0 where
  pub within : c.place < length (items t.moves)
  pub helps : Helps (task_of t) v (move_of (move_at (items t.moves) c.place)) c.helpers
  pub parts : r.parts ≡ recipe_parts (task_of t) v (move_of (move_at (items t.moves) c.place)) placed
  pub counted : c.length ≡ length r.moves

-- the recipe by a move of the task
abbrev pub recipe_by : NormalTask → Table → ℕ → List ℕ → Recipe → RecipeMeant
recipe_by t kept v placed c = recipe_with kept (recipe_parts (task_of t) v (move_of (move_at (items t.moves) c.place)) placed)

-- the recipe that was made, and what it stands for
pub record Made (t : NormalTask) (kept : Table) (v : ℕ) (placed : List ℕ) (x : Bool) (n : ℕ) (c : Recipe) : Type 0 where
  pub is : recipe (task_of t) kept placed v x ≡ some (recipe_by t kept v placed c)
  pub stands : StandsFor t v placed c (recipe_by t kept v placed c)
  pub short : c.length ≤ n

-- the recipe, if one was made
abbrev pub Chosen : NormalTask → Table → ℕ → List ℕ → Bool → ℕ → Option Recipe → Type 0
Chosen t kept v placed x n o = MatchOption o (recipe (task_of t) kept placed v x ≡ none) (Made t kept v placed x n)

-- what is kept of the latch placed last
abbrev pub kept_last : Task → Table → List ℕ → ℕ → Kept
kept_last t kept placed v = keep (t.want v) (recipe t kept placed v true) (recipe t kept placed v false)

-- what is kept of the first latches of the order
abbrev pub kept_behind : NormalTask → Order → ℕ → Table
kept_behind t order k = table_of (task_of t) (before (order_of order) k)

-- what the recipes of one latch stand for
pub record Held (t : NormalTask) (v : ℕ) (placed : List ℕ) (n : ℕ) (k : Kept) (c : KeptRecipes) : Type 0 where
  pub member : (x : Bool) → is_some (recipe_in x c) ≡ kept? x k
  pub counted : (x : Bool) → (recipe_or x c).length ≡ length (moves_to x k)
  pub short : (x : Bool) → (recipe_or x c).length ≤ n
  pub stands : (x : Bool) → kept? x k ≡ true → StandsFor t v placed (recipe_or x c) (recipe_to x k)

-- what a table stands for
pub record Tabled (t : NormalTask) (latches : List ℕ) (k : ℕ) (kept : Table) (table : RecipeTable) : Type 0 where
  pub members : (x : Bool) (u : ℕ) → kept_in? x table u ≡ kept? x (kept u)
  pub lengths : Lengths kept table
  pub short : Short latches k table
  pub stands : (i : ℕ) → i < k → (x : Bool) → kept? x (kept (slice_index latches i)) ≡ true →
      StandsFor t (slice_index latches i) (before latches i) (recipe_at x table (slice_index latches i)) (recipe_to x (kept (slice_index latches i)))
