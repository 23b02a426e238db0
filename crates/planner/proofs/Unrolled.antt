-- A kept recipe, opened by the whole table: its helpers' recipes to 1, its move, and their recipes to 0.
use Rattle.std.proofs.Common.{◌≡◌, ℕ, zero, suc, ◌<◌, ◌≤◌, Bool, true, false, List, [], ◌∷◌, ◌++◌, length, get_or, sym, refl, ap, ◌∙◌, subst, inl, inr, arith}
use lib.ListN.{length-map}
use Rattle.std.proofs.lemmas.Bool.{cases_Bool, cases_lt}
use Rattle.theory.specs.Searches.{In}
use Rattle.theory.specs.Tasks.{Move, Task}
use Rattle.theory.specs.Recipes.{Kept, Table, kept?, recipe_to, moves_to, helper?, recipe_parts, opened, table_of}
use Rattle.theory.specs.Recipes.{Recipe as RecipeMeant}
use Rattle.theory.specs.Route.{kept_table}
use Rattle.theory.proofs.Opening.{opened_alone, opened_unhelped, opened_helped}
use Rattle.theory.proofs.Tables.{table_tail, kept_move}
use Rattle.rules.specs.NormalForm.{number_of}
use Rattle.tasks.specs.declared.task.NormalTask.{NormalTask}
use Rattle.tasks.specs.Tasks.{task_of}
use Rattle.planner.specs.declared.order.list.Order.{Order}
use Rattle.planner.specs.declared.recipes.recipe_table.RecipeTable.{RecipeTable}
use Rattle.planner.specs.Made.{numbers, latch_at, move_by, Orders, Counts, Within, Helpers, Opens}
use Rattle.planner.specs.Orders.{order_of}
use Rattle.planner.specs.RecipesKept.{before, Tabled}
use Rattle.planner.proofs.OrderFresh.{before_next, fresh_at, in_before, order_before}

-- tables that keep the same of the latches before open a recipe alike
opened_alike :
    (t : Task) (v : ℕ) (m : Move) (T T' : Table) (us : List ℕ) → ((u : ℕ) → In us u → T u ≡ T' u) →
    opened T (recipe_parts t v m us) ≡ opened T' (recipe_parts t v m us)
opened_alike t v m T T' [] same = opened_alone t T v m ∙ sym (opened_alone t T' v m)
opened_alike t v m T T' (u ∷ us) same =
    let rest = opened_alike t v m T T' us (λ w i. same w (inr i)) in
    elim (cases_Bool (helper? t v m u)) [
      | inl h ↦
          opened_helped t T v m u us h
          ∙ ap (λ (k : Kept). moves_to true k ++ (opened T (recipe_parts t v m us) ++ moves_to false k)) (same u (inl refl))
          ∙ ap (λ (ms : List Move). moves_to true (T' u) ++ (ms ++ moves_to false (T' u))) rest
          ∙ sym (opened_helped t T' v m u us h)
      | inr h ↦ opened_unhelped t T v m u us h ∙ rest ∙ sym (opened_unhelped t T' v m u us h)
    ]

-- the latches of an order, each new where it stands
module _ (t : Task) (latches : List ℕ) (n : ℕ) (fresh : (k : ℕ) → k < n → In (before latches k) (get_or latches k 0) → ⊥) (room : n ≤ length latches) where
  before_grows : (i k u : ℕ) → i ≤ k → k ≤ n → In (before latches i) u → In (before latches k) u
  before_grows i zero u l h w = let e : i ≡ 0 = omega arith in subst (λ (j : ℕ). In (before latches j) u) e w
  before_grows i (suc k) u l h w =
      elim (cases_lt i (suc k)) [
        | inl a ↦ subst (λ (us : List ℕ). In us u) (sym (before_next latches k (omega arith))) (inr (before_grows i k u (omega arith) (omega arith) w))
        | inr g ↦ let e : i ≡ suc k = omega arith in subst (λ (j : ℕ). In (before latches j) u) e w
      ]

  -- what is kept of a latch placed before stays
  table_stays : (i k u : ℕ) → i ≤ k → k ≤ n → In (before latches i) u → table_of t (before latches k) u ≡ table_of t (before latches i) u
  table_stays i zero u l h w = let e : 0 ≡ i = omega arith in ap (λ (j : ℕ). table_of t (before latches j) u) e
  table_stays i (suc k) u l h w =
      elim (cases_lt i (suc k)) [
        | inl a ↦
            ap (λ (us : List ℕ). table_of t us u) (before_next latches k (omega arith))
            ∙ table_tail t (before latches k) (get_or latches k 0) u
            (λ e. fresh k (omega arith) (subst (In (before latches k)) (sym e) (before_grows i k u (omega arith) (omega arith) w)))
            ∙ table_stays i k u (omega arith) (omega arith) w
        | inr g ↦ let e : suc k ≡ i = omega arith in ap (λ (j : ℕ). table_of t (before latches j) u) e
      ]

  -- what is kept of the latch at place i
  table_placed : (i : ℕ) → i < n → table_of t (before latches n) (get_or latches i 0) ≡ table_of t (get_or latches i 0 ∷ before latches i) (get_or latches i 0)
  table_placed i l =
      table_stays (suc i) n (get_or latches i 0) (omega arith) (omega arith) (in_before latches (suc i) i (omega arith) (omega arith))
      ∙ ap (λ (us : List ℕ). table_of t us (get_or latches i 0)) (before_next latches i (omega arith))

  -- a recipe opens to its parts, by the table of all latches
  moves_unrolled :
      (i : ℕ) (x : Bool) (m : Move) → i < n → kept? x (table_of t (before latches n) (get_or latches i 0)) ≡ true →
      (recipe_to x (table_of t (before latches n) (get_or latches i 0))).parts ≡ recipe_parts t (get_or latches i 0) m (before latches i) →
      moves_to x (table_of t (before latches n) (get_or latches i 0))
      ≡ opened (table_of t (before latches n)) (recipe_parts t (get_or latches i 0) m (before latches i))
  moves_unrolled i x m l k parts =
      let v = get_or latches i 0 in
      let here = table_placed i l in
      let made = kept_move t (before latches i) v x (sym (ap (kept? x) here) ∙ k) in
      let whole = made.3 ∙ sym (ap (recipe_to x) here) in
      sym (ap (λ (r : RecipeMeant). r.moves) whole)
      ∙ ap (opened (table_of t (before latches i))) (ap (λ (r : RecipeMeant). r.parts) whole ∙ parts)
      ∙ opened_alike t v m (table_of t (before latches i)) (table_of t (before latches n)) (before latches i)
      (λ u w. sym (table_stays i n u (omega arith) (omega arith) w))

-- the tables of a task's recipes
module _ (t : NormalTask) (order : Order) (table : RecipeTable) (ordered : Orders t order)
    (tabled : Tabled t (order_of order) (length (order_of order)) (kept_table (task_of t)) table) where
  pub counts : Counts t table
  counts x u = tabled.lengths x u ∙ sym (length-map (moves_to x (kept_table (task_of t) u)) number_of)

  pub within : Within t order table
  within x i h = (tabled.stands i h.0 x h.1).within

  pub helpers : Helpers t order table
  helpers x i h = (tabled.stands i h.0 x h.1).helps

  pub opens : Opens t order table
  unfolding kept_table
  opens x i h =
      let all = order_before (task_of t) (order_of order) ordered in
      let fresh : (k : ℕ) → k < length (order_of order) → In (before (order_of order) k) (get_or (order_of order) k 0) → ⊥ =
      λ k l. (fresh_at (task_of t) (order_of order) ordered k l).1 in
      subst (λ (us : List ℕ). kept? x (table_of (task_of t) us (latch_at order i)) ≡ true →
      (recipe_to x (table_of (task_of t) us (latch_at order i))).parts ≡ recipe_parts (task_of t) (latch_at order i) (move_by t order table x i) (before (order_of order) i) →
      numbers (moves_to x (table_of (task_of t) us (latch_at order i)))
      ≡ numbers (opened (table_of (task_of t) us) (recipe_parts (task_of t) (latch_at order i) (move_by t order table x i) (before (order_of order) i)))) all
      (λ k p. ap numbers (moves_unrolled (task_of t) (order_of order) (length (order_of order)) fresh (omega arith) i x (move_by t order table x i) h.0 k p))
      h.1 (tabled.stands i h.0 x h.1).parts
