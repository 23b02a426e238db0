-- The move at a place of a recipe, found part by part. Assumes nothing.
--   nth xs k                      what stands at place k of xs, if anything does
--   helped t x s vs               the numbers of the moves of the recipes to x of those latches of vs that are in s, one recipe after another
--   in_turn order x n             the first n latches of the order: the last of them first for x at 1, the first first for x at 0
--   Holds t order x s n k w       place k of the recipes to x of the helpers s among the first n latches is what w says
--   Sought t order x s n k r      r is where that place is, or the place left behind all of them
use Rattle.std.specs.Prelude.{◌≡◌, ℕ, zero, suc, ◌<◌, Bool, true, false, cond, List, [], ◌∷◌, ◌++◌, length, take, Some, None, Option, Result, MatchResult}
use Rattle.std.specs.List.{flat_map}
use Rattle.words.specs.declared.LatchSet.{LatchSet}
use Rattle.words.specs.Sets.{has}
use Rattle.tasks.specs.declared.task.NormalTask.{NormalTask}
use Rattle.planner.specs.declared.lookup.place.Inside.{Inside}
use Rattle.planner.specs.declared.order.list.Order.{Order}
use Rattle.planner.specs.Made.{recipe_numbers, latch_at}
use Rattle.planner.specs.Orders.{order_of}
use Rattle.planner.specs.RecipesKept.{before}

-- what stands at a place
abbrev pub nth : {A : Type 0} → List A → ℕ → Option A
nth [] k = None
nth (x ∷ xs) zero = Some x
nth (x ∷ xs) (suc k) = nth xs k

-- the recipes of the helpers among these latches
abbrev pub helped : NormalTask → Bool → LatchSet → List ℕ → List ℕ
helped t x s vs = flat_map (λ u. cond (has s u) (recipe_numbers t x u) []) vs

-- helpers are thrown to 1 last placed first, and to 0 first placed first
abbrev pub in_turn : Order → Bool → ℕ → List ℕ
in_turn order true n = before (order_of order) n
in_turn order false n = take n (order_of order)

-- the place is in the recipe of one of the latches
pub record Holds (t : NormalTask) (order : Order) (x : Bool) (s : LatchSet) (n k : ℕ) (w : Inside) : Type 0 where
  pub before : w.place < n
  pub inside : w.rest < length (recipe_numbers t x (latch_at order w.place))
  pub same : (ys : List ℕ) → nth (helped t x s (in_turn order x n) ++ ys) k ≡ nth (recipe_numbers t x (latch_at order w.place)) w.rest

-- found, or passed over
abbrev pub Sought : NormalTask → Order → Bool → LatchSet → ℕ → ℕ → Result Inside ℕ → Type 0
Sought t order x s n k r =
    MatchResult r (Holds t order x s n k) (λ rest. (ys : List ℕ) → nth (helped t x s (in_turn order x n) ++ ys) k ≡ nth ys rest)
