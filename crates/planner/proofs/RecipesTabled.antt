-- The table latch by latch: nothing is kept at first, and each latch of the order adds what is kept of it.
use Rattle.std.proofs.Common.{◌≡◌, ℕ, zero, suc, ◌+◌, ◌^◌, ◌<◌, ◌≤◌, Bool, true, ◌≢◌, List, ◌∷◌, length, get_or, set, replicate, is_some, sym, refl, ap, ◌∙◌, subst, subst₂, inl, inr, arith, get_or-set_other, get_or-set_same}
use Rattle.std.proofs.lemmas.Bool.{cases_eq}
use Rattle.words.specs.declared.LatchSet.{LatchSet}
use Rattle.words.specs.Sets.{most_latches, has, has_put}
use Rattle.words.proofs.Members.{put_here, put_other}
use Rattle.theory.specs.Searches.{In}
use Rattle.theory.specs.Order.{order}
use Rattle.theory.specs.Recipes.{Kept, kept?, recipe_to, moves_to, Table, table_of}
use Rattle.theory.specs.Route.{kept_table}
use Rattle.theory.proofs.Searches.{below_cases}
use Rattle.theory.proofs.Tables.{table_head, table_tail}
use Rattle.planner.specs.declared.recipes.recipe_table.Kept.{Kept as KeptRecipes}
use Rattle.planner.specs.declared.recipes.recipe_table.Kept.TheVariants.{Neither}
use Rattle.planner.specs.declared.recipes.recipe_table.RecipeTable.{RecipeTable}
use Rattle.tasks.specs.declared.task.NormalTask.{NormalTask}
use Rattle.tasks.specs.Tasks.{task_of}
use Rattle.planner.specs.RecipesKept.{before, recipe_in, recipe_or, kept_at, kept_in?, recipe_at, StandsFor, Held, Tabled, kept_last}
use Rattle.planner.proofs.RecipeLengths.{before_more}
use Rattle.planner.proofs.OrderFresh.{in_before, order_before}

-- where there is no recipe yet, none is found
pub nothing_kept : (n u : ℕ) → get_or {A = KeptRecipes} (replicate n Neither) u Neither ≡ Neither
nothing_kept zero u = refl
nothing_kept (suc n) zero = refl
nothing_kept (suc n) (suc u) = nothing_kept n u

-- at first nothing is kept
pub none_tabled :
    (t : NormalTask) (latches : List ℕ) (table : RecipeTable) → table.kept ≡ replicate most_latches Neither →
    Tabled t latches 0 (table_of (task_of t) (before latches 0)) table
unfolding table_of
none_tabled t latches table e = record {
  members = λ x u. ap (λ (c : KeptRecipes). is_some (recipe_in x c)) (none u);
  lengths = λ x u. ap (λ (c : KeptRecipes). (recipe_or x c).length) (none u);
  short = λ i l. absurd (omega arith);
  stands = λ i l. absurd (omega arith);
}
  where
    none : (u : ℕ) → kept_at table u ≡ Neither
    none u = ap (λ (cs : List KeptRecipes). get_or cs u Neither) e ∙ nothing_kept most_latches u

-- once the recipes of a latch are written, the latches with a kept recipe to 1 are those before, with or without that one
pub kept_more :
    (table : RecipeTable) (v : ℕ) (c : KeptRecipes) (s t : LatchSet) → v < most_latches → ((u : ℕ) → has s u ≡ kept_in? true table u) →
    ((u : ℕ) → has t u ≡ has_put s v (is_some (recipe_in true c)) u) →
    (u : ℕ) → has t u ≡ is_some (recipe_in true (get_or (set table.kept v c) u Neither))
kept_more table v c s t l so_far put u =
    elim (cases_eq u v) [
      | inl same ↦
          put u
          ∙ ap (has_put s v _) same
          ∙ put_here s v (is_some (recipe_in true c)) l
          ∙ ap kept
          (sym (get_or-set_same table.kept v c Neither (omega (arith, table.places))) ∙ ap (λ (w : ℕ). get_or (set table.kept v c) w Neither) (sym same))
      | inr other ↦
          put u
          ∙ put_other s v u (is_some (recipe_in true c)) other
          ∙ so_far u
          ∙ ap kept (sym (get_or-set_other table.kept v u c Neither other))
    ]
  where
    kept : KeptRecipes → Bool
    kept k = is_some (recipe_in true k)

module _ (t : NormalTask) (latches : List ℕ) (k : ℕ) (table : RecipeTable) (so_far : Tabled t latches k (table_of (task_of t) (before latches k)) table)
    (inside : k < length latches) (fresh : In (before latches k) (get_or latches k 0) → ⊥) where
  -- the table with it
  now : Table
  now = table_of (task_of t) (get_or latches k 0 ∷ before latches k)

  -- once the next latch is written, the table stands for one latch more
  pub more_tabled :
      (after : RecipeTable) (c : KeptRecipes) → get_or latches k 0 < most_latches → after.kept ≡ set table.kept (get_or latches k 0) c →
      Held t (get_or latches k 0) (before latches k) (3 ^ k) (kept_last (task_of t) (table_of (task_of t) (before latches k)) (before latches k) (get_or latches k 0)) c →
      Tabled t latches (k + 1) (table_of (task_of t) (before latches (k + 1))) after
  unfolding now
  more_tabled after c below written held = subst (λ (us : List ℕ). Tabled t latches (k + 1) (table_of (task_of t) us) after) (sym (before_more latches k inside)) tabled
    where
      head : now (get_or latches k 0) ≡ kept_last (task_of t) (table_of (task_of t) (before latches k)) (before latches k) (get_or latches k 0)
      head = table_head (task_of t) (before latches k) (get_or latches k 0)

      tail : (u : ℕ) → u ≢ get_or latches k 0 → now u ≡ table_of (task_of t) (before latches k) u
      tail u n = table_tail (task_of t) (before latches k) (get_or latches k 0) u (λ e. n (sym e))

      other : (i : ℕ) → i < k → get_or latches i 0 ≢ get_or latches k 0
      other i l e = fresh (subst (In (before latches k)) e (in_before latches k i l (omega arith)))

      here : kept_at after (get_or latches k 0) ≡ c
      here =
          ap (λ (cs : List KeptRecipes). get_or cs (get_or latches k 0) Neither) written
          ∙ get_or-set_same table.kept (get_or latches k 0) c Neither (omega (arith, table.places))

      there : (u : ℕ) → u ≢ get_or latches k 0 → kept_at after u ≡ kept_at table u
      there u n =
          ap (λ (cs : List KeptRecipes). get_or cs u Neither) written ∙ get_or-set_other table.kept (get_or latches k 0) u c Neither n

      now_held : Held t (get_or latches k 0) (before latches k) (3 ^ k) (now (get_or latches k 0)) (kept_at after (get_or latches k 0))
      now_held = subst₂ (Held t (get_or latches k 0) (before latches k) (3 ^ k)) (sym head) (sym here) held

      place : (i : ℕ) → i < k + 1 → i < suc k
      place i l = omega arith

      tabled : Tabled t latches (k + 1) (table_of (task_of t) (get_or latches k 0 ∷ before latches k)) after
      tabled = record {
        members = λ x u.
            elim (cases_eq u (get_or latches k 0)) [
              | inl e ↦ subst (λ (w : ℕ). kept_in? x after w ≡ kept? x (now w)) (sym e) (now_held.member x)
              | inr n ↦ ap (λ (d : KeptRecipes). is_some (recipe_in x d)) (there u n) ∙ so_far.members x u ∙ sym (ap (kept? x) (tail u n))
            ];
        lengths = λ x u.
            elim (cases_eq u (get_or latches k 0)) [
              | inl e ↦ subst (λ (w : ℕ). (recipe_at x after w).length ≡ length (moves_to x (now w))) (sym e) (now_held.counted x)
              | inr n ↦
                  ap (λ (d : KeptRecipes). (recipe_or x d).length) (there u n) ∙ so_far.lengths x u
                  ∙ sym (ap (λ (q : Kept). length (moves_to x q)) (tail u n))
            ];
        short = λ i l x.
            elim (below_cases i k (place i l)) [
              | inl a ↦ subst (λ (d : KeptRecipes). (recipe_or x d).length ≤ 3 ^ i) (sym (there _ (other i a))) (so_far.short i a x)
              | inr e ↦ subst (λ (j : ℕ). (recipe_at x after (get_or latches j 0)).length ≤ 3 ^ j) (sym e) (now_held.short x)
            ];
        stands = λ i l x.
            elim (below_cases i k (place i l)) [
              | inl a ↦ λ h.
                  subst₂ (λ (d : KeptRecipes) (q : Kept). StandsFor t (get_or latches i 0) (before latches i) (recipe_or x d) (recipe_to x q))
                  (sym (there _ (other i a))) (sym (tail _ (other i a))) (so_far.stands i a x (sym (ap (kept? x) (tail _ (other i a))) ∙ h))
              | inr e ↦
                  subst (λ (j : ℕ). kept? x (now (get_or latches j 0)) ≡ true →
                  StandsFor t (get_or latches j 0) (before latches j) (recipe_at x after (get_or latches j 0)) (recipe_to x (now (get_or latches j 0)))) (sym e)
                  (now_held.stands x)
            ];
      }

-- with all latches of the order placed, it stands for the table of the task
pub all_tabled :
    (t : NormalTask) (vs : List ℕ) (k : ℕ) (table : RecipeTable) → k ≡ length vs → vs ≡ order (task_of t) →
    Tabled t vs k (table_of (task_of t) (before vs k)) table → Tabled t vs (length vs) (kept_table (task_of t)) table
unfolding kept_table
all_tabled t vs k table e same tabled =
    subst (λ (us : List ℕ). Tabled t vs (length vs) (table_of (task_of t) us) table) (order_before (task_of t) vs same)
    (subst (λ (i : ℕ). Tabled t vs i (table_of (task_of t) (before vs i)) table) e tabled)
