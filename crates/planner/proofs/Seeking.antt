-- A recipe by its helpers: their recipes to 1, the move, and their recipes to 0; and seeking a place among them, turn by turn.
use Rattle.std.proofs.Common.{◌≡◌, ℕ, ◌+◌, ◌-◌, ◌<◌, ◌≤◌, Bool, true, false, cond, List, [], ◌∷◌, ◌++◌, reverse, length, get_or, take, drop, sym, ap, ◌∙◌, inl, inr, append_assoc, append-nil, arith}
use Rattle.std.proofs.lemmas.List.{map-append, reverse-append, reverse-reverse, length-reverse, length-take-le, get_or-reverse, get_or-take, drop_more}
use Rattle.std.proofs.lemmas.Bool.{cases_Bool}
use Rattle.words.specs.declared.LatchSet.{LatchSet}
use Rattle.words.specs.Sets.{has}
use Rattle.theory.specs.Tasks.{Move}
use Rattle.theory.specs.Recipes.{moves_to, helper?, recipe_parts, opened}
use Rattle.theory.specs.Route.{kept_table}
use Rattle.theory.proofs.Opening.{opened_alone, opened_unhelped, opened_helped}
use Rattle.rules.specs.NormalForm.{number_of}
use Rattle.tasks.specs.declared.task.NormalTask.{NormalTask}
use Rattle.tasks.specs.Tasks.{task_of}
use Rattle.planner.specs.declared.order.list.Order.{Order}
use Rattle.planner.specs.Lookup.{nth, helped, in_turn}
use Rattle.planner.specs.Made.{numbers, recipe_numbers, latch_at}
use Rattle.planner.specs.RecipesKept.{before}
use Rattle.planner.proofs.Nth.{nth_left, nth_behind}
use Rattle.planner.specs.Orders.{order_of}

-- the recipes of a list and one more latch
helped_last : (t : NormalTask) (x : Bool) (s : LatchSet) (vs : List ℕ) (u : ℕ) → helped t x s (vs ++ (u ∷ [])) ≡ helped t x s vs ++ cond (has s u) (recipe_numbers t x u) []
helped_last t x s [] u = append-nil (cond (has s u) (recipe_numbers t x u) [])
helped_last t x s (v ∷ vs) u =
    ap (λ (ks : List ℕ). cond (has s v) (recipe_numbers t x v) [] ++ ks) (helped_last t x s vs u)
    ∙ sym (append_assoc (cond (has s v) (recipe_numbers t x v) []) (helped t x s vs) (cond (has s u) (recipe_numbers t x u) []))

-- the parts of a recipe, by its helpers
module _ (t : NormalTask) (v : ℕ) (m : Move) (s : LatchSet) (helps : (u : ℕ) → has s u ≡ helper? (task_of t) v m u) where
  whole : List ℕ → List ℕ
  whole us = helped t true s us ++ (m.number ∷ helped t false s (reverse us))

  -- around one latch more
  around : (u : ℕ) (us : List ℕ) (b : Bool) → has s u ≡ b →
      cond b (recipe_numbers t true u) [] ++ (whole us ++ cond b (recipe_numbers t false u) []) ≡ whole (u ∷ us)
  unfolding whole
  around u us b e =
      let up = cond b (recipe_numbers t true u) [] in
      let down = cond b (recipe_numbers t false u) [] in
      let lower : helped t false s (reverse us) ++ down ≡ helped t false s (reverse (u ∷ us)) =
      ap (λ (c : Bool). helped t false s (reverse us) ++ cond c (recipe_numbers t false u) []) (sym e)
      ∙ sym (helped_last t false s (reverse us) u) ∙ ap (helped t false s) (sym (reverse-append (u ∷ []) us)) in
      ap (λ (ks : List ℕ). up ++ ks) (append_assoc (helped t true s us) (m.number ∷ helped t false s (reverse us)) down)
      ∙ sym (append_assoc up (helped t true s us) (m.number ∷ (helped t false s (reverse us) ++ down)))
      ∙ ap (λ (ks : List ℕ). (up ++ helped t true s us) ++ (m.number ∷ ks)) lower
      ∙ ap (λ (c : Bool). (cond c (recipe_numbers t true u) [] ++ helped t true s us) ++ (m.number ∷ helped t false s (reverse (u ∷ us)))) (sym e)

  pub parts_numbers : (us : List ℕ) →
      numbers (opened (kept_table (task_of t)) (recipe_parts (task_of t) v m us)) ≡ helped t true s us ++ (m.number ∷ helped t false s (reverse us))
  unfolding whole
  parts_numbers [] = ap numbers (opened_alone (task_of t) (kept_table (task_of t)) v m)
  parts_numbers (u ∷ us) =
      let table = kept_table (task_of t) in
      let inner = opened table (recipe_parts (task_of t) v m us) in
      let rest = parts_numbers us in
      elim (cases_Bool (has s u)) [
        | inl e ↦
            ap numbers (opened_helped (task_of t) table v m u us (sym (helps u) ∙ e))
            ∙ map-append number_of (moves_to true (table u)) (inner ++ moves_to false (table u))
            ∙ ap (λ (ks : List ℕ). recipe_numbers t true u ++ ks) (map-append number_of inner (moves_to false (table u)))
            ∙ ap (λ (ks : List ℕ). recipe_numbers t true u ++ (ks ++ recipe_numbers t false u)) rest
            ∙ around u us true e
        | inr e ↦
            ap numbers (opened_unhelped (task_of t) table v m u us (sym (helps u) ∙ e))
            ∙ rest ∙ sym (append-nil (whole us)) ∙ around u us false e
      ]

-- the latches in turn
module _ (order : Order) (n : ℕ) (room : n ≤ length (order_of order)) where
  inside : n ≤ length (order_of order)
  inside = room

  pub turns : (x : Bool) → length (in_turn order x n) ≡ n
  turns true = length-reverse (take n (order_of order)) ∙ length-take-le n (order_of order) inside
  turns false = length-take-le n (order_of order) inside

  pub last_first : (k : ℕ) → k < n → latch_at order (n - 1 - k) ≡ get_or (in_turn order true n) k 0
  last_first k l =
      let len = length-take-le n (order_of order) inside in
      let place : length (take n (order_of order)) - 1 - k ≡ n - 1 - k = omega (arith, len) in
      sym (get_or-reverse (take n (order_of order)) k 0 (omega (arith, len))
      ∙ ap (λ (j : ℕ). get_or (take n (order_of order)) j 0) place ∙ get_or-take n (order_of order) (n - 1 - k) 0 (omega arith))

  pub first_first : (k : ℕ) → k < n → latch_at order k ≡ get_or (in_turn order false n) k 0
  first_first k l = sym (get_or-take n (order_of order) k 0 l)

  -- the latches before, in their order
  pub in_order : reverse (before (order_of order) n) ≡ in_turn order false n
  in_order = reverse-reverse (take n (order_of order))

-- one turn: the latch is no helper; the place is in its recipe; it is behind
module _ (t : NormalTask) (x : Bool) (s : LatchSet) (vs : List ℕ) (k : ℕ) (l : k < length vs) (ys : List ℕ) where
  turned : helped t x s (drop k vs) ++ ys ≡ cond (has s (get_or vs k 0)) (recipe_numbers t x (get_or vs k 0)) [] ++ (helped t x s (drop (k + 1) vs) ++ ys)
  turned =
      ap (λ (us : List ℕ). helped t x s us ++ ys) (drop_more vs k 0 l)
      ∙ append_assoc (cond (has s (get_or vs k 0)) (recipe_numbers t x (get_or vs k 0)) []) (helped t x s (drop (k + 1) vs)) ys

  pub turn_over : (r : ℕ) → has s (get_or vs k 0) ≡ false → nth (helped t x s (drop k vs) ++ ys) r ≡ nth (helped t x s (drop (k + 1) vs) ++ ys) r
  turn_over r e =
      ap (λ (ks : List ℕ). nth ks r) (turned ∙ ap (λ (b : Bool). cond b (recipe_numbers t x (get_or vs k 0)) [] ++ (helped t x s (drop (k + 1) vs) ++ ys)) e)

  helping : has s (get_or vs k 0) ≡ true → helped t x s (drop k vs) ++ ys ≡ recipe_numbers t x (get_or vs k 0) ++ (helped t x s (drop (k + 1) vs) ++ ys)
  helping e = turned ∙ ap (λ (b : Bool). cond b (recipe_numbers t x (get_or vs k 0)) [] ++ (helped t x s (drop (k + 1) vs) ++ ys)) e

  pub turn_inside : (r : ℕ) → has s (get_or vs k 0) ≡ true → r < length (recipe_numbers t x (get_or vs k 0)) →
      nth (helped t x s (drop k vs) ++ ys) r ≡ nth (recipe_numbers t x (get_or vs k 0)) r
  turn_inside r e h = ap (λ (ks : List ℕ). nth ks r) (helping e) ∙ nth_left (recipe_numbers t x (get_or vs k 0)) _ r h

  pub turn_behind : (r n q : ℕ) → has s (get_or vs k 0) ≡ true → n ≡ length (recipe_numbers t x (get_or vs k 0)) → n ≤ r → q ≡ r - n →
      nth (helped t x s (drop k vs) ++ ys) r ≡ nth (helped t x s (drop (k + 1) vs) ++ ys) q
  turn_behind r n q e c h p = ap (λ (ks : List ℕ). nth ks r) (helping e) ∙ nth_behind (recipe_numbers t x (get_or vs k 0)) _ r n q c h p
