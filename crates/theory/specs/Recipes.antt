-- Recipes: for each latch, in order, the moves that throw it to 1 and back to 0 and leave every other latch as it was. Assumes nothing.
--   Part                       a move, or the recipe of a latch to a position
--   Recipe                     a list of parts, and the moves that these come to
--   Kept                       what is kept of a latch: no recipe, the one to 1, or both
--   kept? x k                  the recipe to x is kept
--   empty_recipe               the recipe without parts
--   recipe_to x k              the recipe to x; the empty one if it is not kept
--   moves_to x k               its moves
--   Table                      what is kept of each latch
--   opened_part table p        the moves of one part, a recipe's from the table
--   opened table ps            the moves of a list of parts
--   recipe_with table ps       the recipe with these parts
--   serves? t table v x m      m throws v to x, and each other latch that it asks at 1 has a kept recipe to 1
--   helper? t v m u            u is another latch, not splitting, that m asks at 1
--   recipe_parts t v m placed  the helpers' recipes to 1, last placed first, m, and their recipes to 0, first placed first
--   made t table placed v x    the recipe of each move that serves, by rising number
--   chosen rs                  the one of these that is taken
--   recipe t table placed v x  the recipe of v to x, if some move serves
--   keep want one zero         what is kept of a latch, of the recipes to 1 and to 0 if they were made
--   table_of t placed          what is kept once these latches are placed, the last first
use Rattle.std.specs.Prelude.{ℕ, Bool, true, false, cond, not, ◌&&◌, ◌||◌, List, [], ◌∷◌, ◌++◌, map, filter, ◌==◌}
use Rattle.std.specs.Bool.{beq}
use Rattle.std.proofs.Math.Option.{Option, none, some}
use Rattle.std.specs.List.{flat_map}
use Rattle.theory.specs.Searches.{all_below}
use Rattle.theory.specs.Tasks.{Ask, Move, Task, asks?}
use Rattle.theory.specs.Class.{splitting?}

-- what recipes and routes are made of
pub data Part : Type 0 where
  lone_move : Move → Part
  recipe_of : ℕ → Bool → Part

-- a recipe is looked at part by part, and played move by move
pub record Recipe : Type 0 where
  pub parts : List Part
  pub moves : List Move

-- the recipes of a latch that are kept, to 1 first
pub data Kept : Type 0 where
  none_kept : Kept
  one_kept : Recipe → Kept
  both_kept : Recipe → Recipe → Kept

-- both, or the one to 1
abbrev pub kept? : Bool → Kept → Bool
kept? x none_kept = false
kept? true (one_kept to_one) = true
kept? false (one_kept to_one) = false
kept? x (both_kept to_one to_zero) = true

-- no part, so no move
abbrev pub empty_recipe : Recipe
empty_recipe = record { parts = []; moves = [] }

-- the recipe to x
abbrev pub recipe_to : Bool → Kept → Recipe
recipe_to x none_kept = empty_recipe
recipe_to true (one_kept to_one) = to_one
recipe_to false (one_kept to_one) = empty_recipe
recipe_to true (both_kept to_one to_zero) = to_one
recipe_to false (both_kept to_one to_zero) = to_zero

-- the moves of the recipe to x
abbrev pub moves_to : Bool → Kept → List Move
moves_to x k = (recipe_to x k).moves

-- by the latch's number
abbrev pub Table : Type 0
Table = ℕ → Kept

-- the moves of one part
abbrev pub opened_part : Table → Part → List Move
opened_part table (lone_move m) = m ∷ []
opened_part table (recipe_of v x) = moves_to x (table v)

-- the moves of all parts, one after another
abbrev pub opened : Table → List Part → List Move
opened table ps = flat_map (opened_part table) ps

-- the parts, opened
abbrev pub recipe_with : Table → List Part → Recipe
recipe_with table ps = record { parts = ps; moves = opened table ps }

-- m can make a recipe of v to x
abbrev pub serves? : Task → Table → ℕ → Bool → Move → Bool
serves? t table v x m =
    (m.latch == v && beq m.to x) && all_below (λ u. (u == v) || (not (asks? true (m.asks u)) || kept? true (table u))) t.width

-- u has to be thrown to 1 for m, a move of v, and back behind it; no splitting latch is
abbrev pub helper? : Task → ℕ → Move → ℕ → Bool
helper? t v m u = not (u == v) && (asks? true (m.asks u) && not (splitting? t u))

-- the recipe of v by m; the list has the latches placed before v, the last first
unfoldable pub recipe_parts : Task → ℕ → Move → List ℕ → List Part
recipe_parts t v m [] = lone_move m ∷ []
recipe_parts t v m (u ∷ us) =
    elim (helper? t v m u) [
      | true ↦ recipe_of u true ∷ (recipe_parts t v m us ++ (recipe_of u false ∷ []))
      | false ↦ recipe_parts t v m us
    ]

-- a recipe of v to x for each move that serves
abbrev pub made : Task → Table → List ℕ → ℕ → Bool → List Recipe
made t table placed v x = map (λ m. recipe_with table (recipe_parts t v m placed)) (filter (serves? t table v x) t.moves)

-- the first move that serves makes the recipe
unfoldable pub chosen : List Recipe → Option Recipe
chosen [] = none
chosen (r ∷ rs) = some r

-- the recipe of v to x, if some move serves; the list has the latches placed before v, the last first
abbrev pub recipe : Task → Table → List ℕ → ℕ → Bool → Option Recipe
recipe t table placed v x = chosen (made t table placed v x)

-- both recipes are kept if both were made; the one to 1 alone is kept unless the latch is wanted at 0
abbrev pub keep : Ask → Option Recipe → Option Recipe → Kept
keep want none none = none_kept
keep want none (some to_zero) = none_kept
keep want (some to_one) none = cond (asks? false want) none_kept (one_kept to_one)
keep want (some to_one) (some to_zero) = both_kept to_one to_zero

-- the table, latch by latch in the order
unfoldable pub table_of : Task → List ℕ → Table
table_of t [] u = none_kept
table_of t (v ∷ placed) u =
    elim (v == u) [
      | true ↦ keep (t.want v) (recipe t (table_of t placed) placed v true) (recipe t (table_of t placed) placed v false)
      | false ↦ table_of t placed u
    ]
