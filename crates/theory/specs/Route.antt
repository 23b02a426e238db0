-- The route: recipes along the order, with each splitting latch thrown between its two sides. Assumes nothing.
--   when b p                       the part p, if b
--   on_side t x v W                the latches of W on the x side of v
--   on_neither t v W               the latches of W on neither side of v
--   split_route t table v R R0 R1  with a splitting latch v: R, R0 and R1 are the routes of the others on neither, the zero and the one side
--   plain_route t v R              with a latch v that is not splitting: R is the route of the others
--   set_route t table vs W         the route of the latches of W, vs being the order
--   kept_table t                   what is kept of each latch of t
--   entries t                      the route of all latches: recipes, one after another
--   route t                        the same with all recipes opened: moves
--   no_way? t                      a latch wanted at 1 has no kept recipe to 1
use Rattle.std.specs.Prelude.{ℕ, Bool, true, false, not, ◌&&◌, List, [], ◌∷◌, ◌++◌}
use Rattle.theory.specs.Searches.{some_below}
use Rattle.theory.specs.Tasks.{Move, Task, asks?}
use Rattle.theory.specs.Class.{side?, splitting?}
use Rattle.theory.specs.Order.{latest_first, order}
use Rattle.theory.specs.Recipes.{Part, recipe_of, Table, kept?, opened, table_of}

-- the part, if the test passes
abbrev pub when : Bool → Part → List Part
when true p = p ∷ []
when false p = []

-- the latches of W on one side of v
abbrev pub on_side : Task → Bool → ℕ → (ℕ → Bool) → ℕ → Bool
on_side t x v W u = W u && side? t x v u

-- the latches of W on neither side of v
abbrev pub on_neither : Task → ℕ → (ℕ → Bool) → ℕ → Bool
on_neither t v W u = W u && (not (side? t false v u) && not (side? t true v u))

-- neither side, zero side, v to 1 if that is kept, one side, and v to 0 if v to 1 was put in and v is wanted at 0
abbrev pub split_route : Task → Table → ℕ → List Part → List Part → List Part → List Part
split_route t table v neither zero_side one_side =
    neither
    ++ (zero_side
    ++ (when (kept? true (table v)) (recipe_of v true)
    ++ (one_side ++ when (kept? true (table v) && asks? false (t.want v)) (recipe_of v false))))

-- the others, then v to 1 if it is wanted at 1
abbrev pub plain_route : Task → ℕ → List Part → List Part
plain_route t v others = others ++ when (asks? true (t.want v)) (recipe_of v true)

-- by the first latch of the order that is in W
unfoldable pub set_route : Task → Table → List ℕ → (ℕ → Bool) → List Part
set_route t table [] W = []
set_route t table (v ∷ rest) W =
    elim (W v) [
      | false ↦ set_route t table rest W
      | true ↦
          elim (splitting? t v) [
            | true ↦
                split_route t table v (set_route t table rest (on_neither t v W)) (set_route t table rest (on_side t false v W))
                (set_route t table rest (on_side t true v W))
            | false ↦ plain_route t v (set_route t table rest W)
          ]
    ]

-- the table once all latches are placed
unfoldable pub kept_table : Task → Table
kept_table t = table_of t (latest_first t)

-- the whole route, recipe by recipe
unfoldable pub entries : Task → List Part
entries t = set_route t (kept_table t) (order t) (λ v. true)

-- the whole route, move by move
unfoldable pub route : Task → List Move
route t = opened (kept_table t) (entries t)

-- no way is said
unfoldable pub no_way? : Task → Bool
no_way? t = some_below (λ v. asks? true (t.want v) && not (kept? true (kept_table t v))) t.width
