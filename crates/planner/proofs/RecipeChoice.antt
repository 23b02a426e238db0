-- The recipe of a latch is made by the first move that serves.
use Rattle.std.proofs.Common.{◌≡◌, ℕ, zero, suc, ◌+◌, ◌<◌, ◌≤◌, Bool, true, false, cond, List, [], ◌∷◌, map, length, get_or, filter, sym, refl, ap, ◌∙◌, subst, inl, inr, arith}
use mathlib.Core.Option.{none, some}
use Rattle.std.proofs.lemmas.List.{get_or_read}
use Rattle.words.specs.declared.LatchSet.{LatchSet}
use Rattle.words.specs.Sets.{Below}
use Rattle.theory.specs.Tasks.{Move}
use Rattle.theory.specs.Recipes.{Table, opened, recipe_with, serves?, recipe_parts, chosen, recipe}
use Rattle.theory.specs.Recipes.{Recipe as RecipeMeant}
use Rattle.theory.proofs.Searches.{below_cases}
use Rattle.tables.specs.Items.{items}
use Rattle.tasks.specs.declared.task.NormalMove.{NormalMove}
use Rattle.tasks.specs.declared.task.NormalTask.{NormalTask}
use Rattle.tasks.specs.Places.{no_move, move_at}
use Rattle.tasks.specs.Tasks.{move_of, task_of}
use Rattle.planner.specs.RecipesKept.{Helps, Made}

-- the test of the move at a place
abbrev pub test_at : (Move → Bool) → List NormalMove → ℕ → Bool
test_at test ms k = test (move_of (move_at ms k))

module _ (test : Move → Bool) (make : Move → RecipeMeant) where
  -- where no move passes none is taken
  none_chosen : (ms : List NormalMove) → ((k : ℕ) → k < length ms → test_at test ms k ≡ false) → chosen (map make (filter test (map move_of ms))) ≡ none
  unfolding chosen
  none_chosen [] h = refl
  none_chosen (m ∷ ms) h =
      let rest = filter test (map move_of ms) in
      ap (λ (b : Bool). chosen (map make (cond b (move_of m ∷ rest) rest))) (h 0 (omega arith)) ∙ none_chosen ms (λ k l. h (suc k) (omega arith))

  -- the first move that passes is taken
  first_chosen :
      (ms : List NormalMove) (i : ℕ) → i < length ms → ((k : ℕ) → k < i → test_at test ms k ≡ false) → test_at test ms i ≡ true →
      chosen (map make (filter test (map move_of ms))) ≡ some (make (move_of (move_at ms i)))
  unfolding chosen
  first_chosen [] i l h e = absurd (omega arith)
  first_chosen (m ∷ ms) zero l h e =
      let rest = filter test (map move_of ms) in
      ap (λ (b : Bool). chosen (map make (cond b (move_of m ∷ rest) rest))) e
  first_chosen (m ∷ ms) (suc i) l h e =
      let rest = filter test (map move_of ms) in
      ap (λ (b : Bool). chosen (map make (cond b (move_of m ∷ rest) rest))) (h 0 (omega arith))
      ∙ first_chosen ms i (omega arith) (λ k a. h (suc k) (omega arith)) e

module _ (t : NormalTask) where
  -- the move that a loop over the moves of the task reads
  pub move_read :
      (ms : List NormalMove) (i : ℕ) (m : NormalMove) → ms ≡ items t.moves → i < length ms → m ≡ get_or ms i m →
      (i < length (items t.moves)) × (m ≡ move_at (items t.moves) i)
  move_read ms i m e l r = (
    omega (arith, ap length e),
    get_or_read ms i m l r no_move ∙ ap (λ (ks : List NormalMove). move_at ks i) e,
  )

  -- it asks latches of the task alone
  pub read_within : (i : ℕ) (m : NormalMove) → (i < length (items t.moves)) × (m ≡ move_at (items t.moves) i) → Below t.width m.asks.named
  read_within i m r = subst (λ (k : NormalMove). Below t.width k.asks.named) (sym r.1) (t.within i r.0)

  module _ (kept : Table) (v : ℕ) (x : Bool) where
    -- no move before place i serves
    abbrev pub NoneServes : ℕ → Type 0
    NoneServes i = (k : ℕ) → k < i → test_at (serves? (task_of t) kept v x) (items t.moves) k ≡ false

    -- one more does not
    pub none_more : (i : ℕ) → NoneServes i → test_at (serves? (task_of t) kept v x) (items t.moves) i ≡ false → NoneServes (i + 1)
    none_more i h e k l =
        elim (below_cases k i (omega arith)) [
          | inl a ↦ h k a
          | inr s ↦ ap (test_at (serves? (task_of t) kept v x) (items t.moves)) s ∙ e
        ]

    -- what a move makes
    by : List ℕ → Move → RecipeMeant
    by placed m = recipe_with kept (recipe_parts (task_of t) v m placed)

    -- no recipe is made where no move serves
    pub none_made : (placed : List ℕ) → NoneServes (length (items t.moves)) → recipe (task_of t) kept placed v x ≡ none
    unfolding by
    none_made placed h =
        none_chosen (serves? (task_of t) kept v x) (by placed) (items t.moves) h

    -- the first move that serves makes the recipe
    pub first_made :
        (placed : List ℕ) (n i : ℕ) (s : LatchSet) (many : ℕ) → i < length (items t.moves) → NoneServes i → test_at (serves? (task_of t) kept v x) (items t.moves) i ≡ true →
        Helps (task_of t) v (move_of (move_at (items t.moves) i)) s →
        many ≡ length (opened kept (recipe_parts (task_of t) v (move_of (move_at (items t.moves) i)) placed)) → many ≤ n →
        Made t kept v placed x n (record { place = i; helpers = s; length = many })
    unfolding by
    first_made placed n i s many l h e helps counts short =
        let serving = serves? (task_of t) kept v x in record {
          is =
              first_chosen serving (by placed) (items t.moves) i l h e;
          stands = record {
            within = l;
            helps = helps;
            parts = refl;
            counted = counts;
          };
          short = short;
        }
