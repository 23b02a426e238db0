-- The length of a recipe, counted along the order.
use Rattle.std.proofs.Common.{◌≡◌, ℕ, suc, ◌+◌, ◌*◌, ◌^◌, ◌<◌, ◌≤◌, Bool, true, false, List, [], ◌∷◌, ◌++◌, reverse, length, get_or, take, sym, refl, ap, ◌∙◌, subst, add-one, arith, length-append}
use Rattle.std.proofs.lemmas.List.{take_more, reverse-append, get_or-take}
use Rattle.words.specs.declared.LatchSet.{LatchSet}
use Rattle.words.specs.Sets.{has}
use Rattle.theory.specs.Tasks.{Move, Task}
use Rattle.theory.specs.Recipes.{Table, moves_to, recipe_parts, opened}
use Rattle.theory.proofs.Lengths.{three_pow_le}
use Rattle.theory.proofs.Opening.{opened_alone, opened_unhelped, opened_helped}
use Rattle.planner.specs.declared.recipes.recipe_table.RecipeTable.{RecipeTable}
use Rattle.planner.specs.RecipesKept.{Helps, Lengths, Short, recipe_at, before}

-- one more latch is placed behind the others
pub before_more : (latches : List ℕ) (i : ℕ) → i < length latches → before latches (i + 1) ≡ get_or latches i 0 ∷ before latches i
before_more latches i l = ap reverse (take_more latches i 0 l) ∙ reverse-append (take i latches) (get_or latches i 0 ∷ [])

-- the length behind the first i latches
abbrev pub Counted : List ℕ → RecipeTable → LatchSet → ℕ → ℕ → Type 0
Counted latches table helpers i n =
    (t : Task) (v : ℕ) (m : Move) (kept : Table) → Helps t v m helpers → Lengths kept table → n ≡ length (opened kept (recipe_parts t v m (before latches i)))

-- behind no latch it is the move alone
pub counted_alone : (latches : List ℕ) (table : RecipeTable) (helpers : LatchSet) → Counted latches table helpers 0 1
counted_alone latches table helpers t v m kept helps same = sym (ap length (opened_alone t kept v m))

-- the next power is three times as large
pub three_times : (i : ℕ) → 3 ^ (i + 1) ≡ 3 * 3 ^ i
three_times i = let next : 3 ^ suc i ≡ 3 * 3 ^ i = omega arith in ap (λ (k : ℕ). 3 ^ k) (add-one i) ∙ next

-- up to 32 latches, three powers of 3 fit 64 bits
pub powers_fit : (i : ℕ) → i < 32 → 3 * 3 ^ i < 2 ^ 64
powers_fit i l = let most : 3 ^ i ≤ 3 ^ 31 = three_pow_le i 31 (omega arith) in omega arith

-- the latch at place i, read among the first n
module _ (latches : List ℕ) (table : RecipeTable) (helpers : LatchSet) (n i : ℕ) (l : i < n) (room : n ≤ length latches) (xs : List ℕ)
    (first : xs ≡ take n latches) where
  read : get_or xs i 0 ≡ get_or latches i 0
  read = ap (λ (us : List ℕ). get_or us i 0) first ∙ get_or-take n latches i 0 l

  -- its recipes are short
  pub short_at : Short latches n table → (x : Bool) → (recipe_at x table (get_or xs i 0)).length ≤ 3 ^ i
  short_at short x = subst (λ (u : ℕ). (recipe_at x table u).length ≤ 3 ^ i) (sym read) (short i l x)

  -- it adds nothing if it does not help
  pub counted_unhelped :
      (many : ℕ) → has helpers (get_or xs i 0) ≡ false → Counted latches table helpers i many → Counted latches table helpers (i + 1) many
  counted_unhelped many h so_far t v m kept helps same =
      so_far t v m kept helps same
      ∙ sym (ap length (ap (λ (us : List ℕ). opened kept (recipe_parts t v m us)) (before_more latches i (omega arith))
      ∙ opened_unhelped t kept v m (get_or latches i 0) (before latches i) (sym (helps (get_or latches i 0)) ∙ ap (has helpers) (sym read) ∙ h)))

  -- a helper adds its two recipes
  pub counted_helped :
      (many one other : ℕ) → has helpers (get_or xs i 0) ≡ true → one ≡ (recipe_at true table (get_or xs i 0)).length →
      other ≡ (recipe_at false table (get_or xs i 0)).length → Counted latches table helpers i many →
      Counted latches table helpers (i + 1) (many + (one + other))
  counted_helped many one other h e f so_far t v m kept helps same =
      let u = get_or latches i 0 in
      let inner = opened kept (recipe_parts t v m (before latches i)) in
      let whole : length (opened kept (recipe_parts t v m (before latches (i + 1)))) ≡ length (moves_to true (kept u) ++ (inner ++ moves_to false (kept u))) =
      ap length (ap (λ (us : List ℕ). opened kept (recipe_parts t v m us)) (before_more latches i (omega arith))
      ∙ opened_helped t kept v m u (before latches i) (sym (helps u) ∙ ap (has helpers) (sym read) ∙ h)) in
      let parts : length (moves_to true (kept u) ++ (inner ++ moves_to false (kept u))) ≡ length (moves_to true (kept u)) + (length inner + length (moves_to false (kept u))) =
      simp length-append refl in
      let up : one ≡ length (moves_to true (kept u)) = e ∙ ap (λ (w : ℕ). (recipe_at true table w).length) read ∙ same true u in
      let down : other ≡ length (moves_to false (kept u)) = f ∙ ap (λ (w : ℕ). (recipe_at false table w).length) read ∙ same false u in
      omega (arith, so_far t v m kept helps same, whole, parts)
