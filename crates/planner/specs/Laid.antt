-- Entries of a route, as they are laid one behind another. Assumes nothing.
--   no_entry                     an empty place
--   entry_at es k                the entry at place k
--   entry_part order e           the recipe that an entry stands for
--   parts_of order es            the recipes of entries
--   Placed order es              each entry has a place of the order
--   rest order i                 the latches from place i on
--   size W vs                    how many latches of the list are in W
--   Puts b place to es after     the entries es and, if b, one more
--   Extends s set i es after     the entries es and the route of the latches of the set from place i on
use Rattle.std.specs.Prelude.{◌≡◌, ℕ, ◌+◌, ◌*◌, ◌<◌, ◌≤◌, Bool, false, cond, List, [], ◌∷◌, ◌++◌, map, length, drop, slice_index_or}
use Rattle.words.specs.declared.LatchSet.{LatchSet}
use Rattle.words.specs.Sets.{has}
use Rattle.theory.specs.Searches.{In}
use Rattle.theory.specs.Recipes.{Part, recipe_of}
use Rattle.theory.specs.Route.{when, set_route, kept_table}
use Rattle.tasks.specs.Tasks.{task_of}
use Rattle.planner.specs.declared.order.list.Order.{Order}
use Rattle.planner.specs.declared.recipes.kept.Recipes.{Recipes}
use Rattle.planner.specs.declared.route.entry.Entry.{Entry}
use Rattle.planner.specs.Made.{latch_at}
use Rattle.planner.specs.Orders.{order_of}

-- an empty place
abbrev pub no_entry : Entry
no_entry = record { place = 0; to = false }

-- the entry at a place
abbrev pub entry_at : List Entry → ℕ → Entry
entry_at es k = slice_index_or es k no_entry

-- the recipe of an entry
abbrev pub entry_part : Order → Entry → Part
entry_part order e = recipe_of (latch_at order e.place) e.to

-- the recipes of entries
abbrev pub parts_of : Order → List Entry → List Part
parts_of order es = map (entry_part order) es

-- each entry has a place of the order
abbrev pub Placed : Order → List Entry → Type 0
Placed order es = (k : ℕ) → k < length es → (entry_at es k).place < length (order_of order)

-- the latches from a place on
abbrev pub rest : Order → ℕ → List ℕ
rest order i = drop i (order_of order)

-- how many latches of a list are in a set
abbrev pub size : (ℕ → Bool) → List ℕ → ℕ
size W [] = 0
size W (v ∷ vs) = cond (W v) 1 0 + size W vs

-- one entry more, if the test passes
pub record Puts (b : Bool) (place : ℕ) (to : Bool) (es after : List Entry) : Type 0 where
  pub room : length after ≤ length es + 1
  pub placed : (order : Order) → place < length (order_of order) → Placed order es → Placed order after
  pub parts : (order : Order) → parts_of order after ≡ parts_of order es ++ when b (recipe_of (latch_at order place) to)

-- the route of a set behind the entries
pub record Extends (s : Recipes) (set : LatchSet) (i : ℕ) (es after : List Entry) : Type 0 where
  pub room : length after ≤ length es + 2 * size (has set) (rest s.order i)
  pub placed : Placed s.order es → Placed s.order after
  pub parts : (W : ℕ → Bool) → ((u : ℕ) → In (rest s.order i) u → has set u ≡ W u) →
      parts_of s.order after ≡ parts_of s.order es ++ set_route (task_of s.task) (kept_table (task_of s.task)) (rest s.order i) W
