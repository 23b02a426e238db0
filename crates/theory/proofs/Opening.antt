-- The moves of a recipe's parts, and of a route's entries.
use Rattle.std.proofs.Common.{◌≡◌, ℕ, Bool, true, false, cond, ◌&&◌, List, [], ◌∷◌, ◌++◌, sym, refl, ap, ◌∙◌, append_assoc, append-nil}
use Rattle.theory.specs.Tasks.{Move, Task, asks?}
use Rattle.theory.specs.Class.{splitting?}
use Rattle.theory.specs.Recipes.{Part, recipe_of, Kept, none_kept, one_kept, both_kept, kept?, moves_to, Table, opened_part, opened, helper?, recipe_parts}
use Rattle.theory.specs.Route.{when, on_side, on_neither, split_route, plain_route, set_route}

pub opened_append : (table : Table) (ps qs : List Part) → opened table (ps ++ qs) ≡ opened table ps ++ opened table qs
opened_append table [] qs = refl
opened_append table (p ∷ ps) qs =
    ap (λ l. opened_part table p ++ l) (opened_append table ps qs) ∙ sym (append_assoc (opened_part table p) (opened table ps) (opened table qs))

pub opened_when : (table : Table) (b : Bool) (v : ℕ) (x : Bool) → opened table (when b (recipe_of v x)) ≡ cond b (moves_to x (table v)) []
opened_when table true v x = append-nil (moves_to x (table v))
opened_when table false v x = refl

-- a recipe that is not kept has no moves
pub recipe_if_kept : (x : Bool) (k : Kept) → cond (kept? x k) (moves_to x k) [] ≡ moves_to x k
recipe_if_kept true none_kept = refl
recipe_if_kept false none_kept = refl
recipe_if_kept true (one_kept one) = refl
recipe_if_kept false (one_kept one) = refl
recipe_if_kept true (both_kept one zero) = refl
recipe_if_kept false (both_kept one zero) = refl

pub no_recipe : (x : Bool) (k : Kept) → kept? x k ≡ false → moves_to x k ≡ []
no_recipe x k h = sym (recipe_if_kept x k) ∙ ap (λ b. cond b (moves_to x k) []) h

-- the recipe of v by m, latch by latch
module _ (t : Task) (table : Table) (v : ℕ) (m : Move) where
  pub opened_alone : opened table (recipe_parts t v m []) ≡ m ∷ []
  unfolding recipe_parts
  opened_alone = refl

  choose : ℕ → List ℕ → Bool → List Part
  choose u us b = elim b [ true ↦ recipe_of u true ∷ (recipe_parts t v m us ++ (recipe_of u false ∷ [])) | false ↦ recipe_parts t v m us ]

  pub opened_unhelped : (u : ℕ) (us : List ℕ) → helper? t v m u ≡ false → opened table (recipe_parts t v m (u ∷ us)) ≡ opened table (recipe_parts t v m us)
  unfolding recipe_parts choose
  opened_unhelped u us h = ap (λ b. opened table (choose u us b)) h

  pub opened_helped : (u : ℕ) (us : List ℕ) → helper? t v m u ≡ true →
      opened table (recipe_parts t v m (u ∷ us)) ≡ moves_to true (table u) ++ (opened table (recipe_parts t v m us) ++ moves_to false (table u))
  unfolding recipe_parts choose
  opened_helped u us h =
      ap (λ b. opened table (choose u us b)) h
      ∙ ap (λ l. moves_to true (table u) ++ l)
      (opened_append table (recipe_parts t v m us) (recipe_of u false ∷ [])
      ∙ ap (λ l. opened table (recipe_parts t v m us) ++ l) (append-nil (moves_to false (table u))))

-- the moves of the route of a set
abbrev pub route_moves : Task → Table → List ℕ → (ℕ → Bool) → List Move
route_moves t table rest W = opened table (set_route t table rest W)

-- v back to 0, if it was thrown to 1 and is wanted at 0
abbrev pub back_moves : Task → Table → ℕ → List Move
back_moves t table v = cond (kept? true (table v) && asks? false (t.want v)) (moves_to false (table v)) []

-- the moves around a splitting latch, and with one that is not splitting
abbrev pub split_moves : Task → Table → ℕ → List Move → List Move → List Move → List Move
split_moves t table v neither zero_side one_side = neither ++ (zero_side ++ (moves_to true (table v) ++ (one_side ++ back_moves t table v)))

abbrev pub plain_moves : Task → Table → ℕ → List Move → List Move
plain_moves t table v others = others ++ cond (asks? true (t.want v)) (moves_to true (table v)) []

module _ (t : Task) (table : Table) (v : ℕ) where
  opened_split : (neither zero_side one_side : List Part) →
      opened table (split_route t table v neither zero_side one_side) ≡ split_moves t table v (opened table neither) (opened table zero_side) (opened table one_side)
  opened_split neither zero_side one_side =
      opened_append table neither _
      ∙ ap (λ l. opened table neither ++ l) (opened_append table zero_side _
      ∙ ap (λ l. opened table zero_side ++ l) (opened_append table (when (kept? true (table v)) (recipe_of v true)) _
      ∙ ap (λ l. l ++ opened table (one_side ++ when (kept? true (table v) && asks? false (t.want v)) (recipe_of v false)))
      (opened_when table (kept? true (table v)) v true ∙ recipe_if_kept true (table v))
      ∙ ap (λ l. moves_to true (table v) ++ l) (opened_append table one_side _
      ∙ ap (λ l. opened table one_side ++ l) (opened_when table (kept? true (table v) && asks? false (t.want v)) v false))))

  opened_plain : (others : List Part) → opened table (plain_route t v others) ≡ plain_moves t table v (opened table others)
  opened_plain others =
      opened_append table others _ ∙ ap (λ l. opened table others ++ l) (opened_when table (asks? true (t.want v)) v true)

-- the route of a set by the first latch of the order: not in W, or in W and not splitting or splitting
module _ (t : Task) (table : Table) (v : ℕ) (rest : List ℕ) (W : ℕ → Bool) where
  parts_route : List Part
  parts_route = split_route t table v (set_route t table rest (on_neither t v W)) (set_route t table rest (on_side t false v W)) (set_route t table rest (on_side t true v W))

  first_latch : Bool → Bool → List Part
  first_latch inside splits = elim inside [ false ↦ set_route t table rest W | true ↦ elim splits [ true ↦ parts_route | false ↦ plain_route t v (set_route t table rest W) ] ]

  pub route_out : W v ≡ false → route_moves t table (v ∷ rest) W ≡ route_moves t table rest W
  unfolding set_route first_latch parts_route
  route_out h = ap (λ b. opened table (first_latch b (splitting? t v))) h

  pub route_plain : W v ≡ true → splitting? t v ≡ false → route_moves t table (v ∷ rest) W ≡ plain_moves t table v (route_moves t table rest W)
  unfolding set_route first_latch parts_route
  route_plain h n =
      ap (λ b. opened table (first_latch b (splitting? t v))) h ∙ ap (λ b. opened table (first_latch true b)) n
      ∙ opened_plain t table v (set_route t table rest W)

  pub route_split : W v ≡ true → splitting? t v ≡ true →
      route_moves t table (v ∷ rest) W
      ≡ split_moves t table v (route_moves t table rest (on_neither t v W)) (route_moves t table rest (on_side t false v W))
      (route_moves t table rest (on_side t true v W))
  unfolding set_route first_latch parts_route
  route_split h y =
      ap (λ b. opened table (first_latch b (splitting? t v))) h ∙ ap (λ b. opened table (first_latch true b)) y
      ∙ opened_split t table v (set_route t table rest (on_neither t v W)) (set_route t table rest (on_side t false v W)) (set_route t table rest (on_side t true v W))
