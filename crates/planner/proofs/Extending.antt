-- Laying the route of a set behind other entries, by the first latch of the order.
use Rattle.std.proofs.Common.{◌≡◌, ℕ, ◌+◌, ◌<◌, ◌≤◌, Bool, true, false, cond, not, ◌&&◌, List, ◌∷◌, ◌++◌, sym, refl, ap, ◌∙◌, subst, ap₂, inl, inr, append_assoc, append-nil, arith, length}
use Rattle.std.proofs.lemmas.Bool.{both_ways, ne_eqb, not_from_false}
use Rattle.words.specs.declared.LatchSet.{LatchSet}
use Rattle.words.specs.Sets.{has, has_without, Empty}
use Rattle.theory.specs.Searches.{In}
use Rattle.theory.specs.Tasks.{asks?}
use Rattle.theory.specs.Class.{side?, splitting?}
use Rattle.theory.specs.Recipes.{Part, recipe_of, kept?}
use Rattle.theory.specs.Route.{when, on_side, on_neither, set_route, kept_table}
use Rattle.theory.proofs.Sides.{sides_apart}
use Rattle.tasks.specs.Asks.{asks_of}
use Rattle.tasks.specs.Tasks.{task_of}
use Rattle.planner.specs.declared.recipes.kept.Recipes.{Recipes}
use Rattle.planner.specs.declared.route.entry.Entry.{Entry}
use Rattle.planner.specs.Laid.{parts_of, rest, size, Puts, Extends}
use Rattle.planner.specs.Made.{latch_at}
use Rattle.planner.proofs.Rests.{rest_next, rest_end, rest_fresh, rest_within, size_alike, size_parts}
use Rattle.planner.proofs.SetRoutes.{set_route_out, set_route_plain, set_route_split, set_route_none}
use Rattle.planner.specs.Orders.{order_of}

module _ (s : Recipes) (set : LatchSet) (i : ℕ) (es : List Entry) where
  -- no latch is left
  nothing : ((u : ℕ) → In (rest s.order i) u → has set u ≡ false) → Extends s set i es es
  nothing none = record {
    room = omega arith;
    placed = λ p. p;
    parts = λ W same.
        sym (append-nil (parts_of s.order es))
        ∙ ap (λ (ps : List Part). parts_of s.order es ++ ps)
        (sym (set_route_none (task_of s.task) (kept_table (task_of s.task)) (rest s.order i) W (λ u h. sym (same u h) ∙ none u h)));
  }

  pub extends_empty : Empty set → Extends s set i es es
  extends_empty e = nothing (λ u h. e u)

  pub extends_end : length (order_of s.order) ≤ i → Extends s set i es es
  extends_end l = nothing (λ u h. absurd (subst (λ (vs : List ℕ). In vs u) (rest_end s.order i l) h))

-- with the latch v at place i
module _ (s : Recipes) (set : LatchSet) (i : ℕ) (l : i < length (order_of s.order)) (v : ℕ) (at : v ≡ latch_at s.order i) where
  abbrev later : List ℕ
  later = rest s.order (i + 1)

  next : rest s.order i ≡ v ∷ later
  next = rest_next s.order i l ∙ ap (λ (w : ℕ). w ∷ later) (sym at)

  -- what is known of all latches from v on is known of v and of those behind it
  here : (W : ℕ → Bool) → ((u : ℕ) → In (rest s.order i) u → has set u ≡ W u) → has set v ≡ W v
  here W same = same v (subst (λ (vs : List ℕ). In vs v) (sym next) (inl refl))

  behind : (W : ℕ → Bool) → ((u : ℕ) → In (rest s.order i) u → has set u ≡ W u) → (u : ℕ) → In later u → has set u ≡ W u
  behind W same u h = same u (subst (λ (vs : List ℕ). In vs u) (sym next) (inr h))

  pub size_next : size (has set) (rest s.order i) ≡ cond (has set v) 1 0 + size (has set) later
  size_next = ap (size (has set)) next

  -- v is not in the set
  pub extends_out : (es after : List Entry) → has set v ≡ false → Extends s set (i + 1) es after → Extends s set i es after
  extends_out es after h e = record {
    room = omega (arith, e.room, size_next, ap {B = ℕ} (λ (b : Bool). cond b 1 0) h);
    placed = e.placed;
    parts = λ W same.
        e.parts W (behind W same)
        ∙ ap (λ (ps : List Part). parts_of s.order es ++ ps)
        (sym (ap (λ (vs : List ℕ). set_route (task_of s.task) (kept_table (task_of s.task)) vs W) next
        ∙ set_route_out (task_of s.task) (kept_table (task_of s.task)) v later W (sym (here W same) ∙ h)));
  }

  module _ (inside : has set v ≡ true) (others : LatchSet) (without : (j : ℕ) → has others j ≡ has_without set v j) where
    -- behind v, the others are the set
    pub others_later : (u : ℕ) → In later u → has others u ≡ has set u
    others_later u h =
        without u
        ∙ ap (λ (b : Bool). has set u && b) (not_from_false _ (ne_eqb u v (λ e. rest_fresh s.order s.task s.orders i l (subst (In later) (e ∙ at) h))))
        ∙ kept_as (has set u)
      where
        kept_as : (b : Bool) → (b && true) ≡ b
        kept_as true = refl
        kept_as false = refl

    pub size_others : size (has set) (rest s.order i) ≡ 1 + size (has others) later
    size_others =
        omega (arith, size_next, ap {B = ℕ} (λ (b : Bool). cond b 1 0) inside, size_alike (has others) (has set) later others_later)

    -- v is not splitting
    pub extends_plain :
        (es one after : List Entry) (b : Bool) → splitting? (task_of s.task) v ≡ false → b ≡ asks? true (asks_of s.task.want v) →
        Extends s others (i + 1) es one → Puts b i true one after → Extends s set i es after
    extends_plain es one after b sp asked e p = record {
      room = omega (arith, e.room, p.room, size_others);
      placed = λ q. p.placed s.order l (e.placed q);
      parts = λ W same.
          let t = task_of s.task in
          let table = kept_table (task_of s.task) in
          p.parts s.order
          ∙ ap (λ (w : ℕ). parts_of s.order one ++ when b (recipe_of w true)) (sym at)
          ∙ ap₂ {A = List Part} {B = Bool} (λ ps c. ps ++ when c (recipe_of v true)) (e.parts W (λ u h. others_later u h ∙ behind W same u h)) asked
          ∙ append_assoc (parts_of s.order es) (set_route t table later W) (when (asks? true (t.want v)) (recipe_of v true))
          ∙ ap (λ (ps : List Part). parts_of s.order es ++ ps)
          (sym (ap (λ (vs : List ℕ). set_route t table vs W) next ∙ set_route_plain t table v later W (sym (here W same) ∙ inside) sp));
    }

    -- v is splitting
    module _ (zero one neither : LatchSet) (sp : splitting? (task_of s.task) v ≡ true)
        (zeros : (j : ℕ) → has zero j ≡ (has others j && side? (task_of s.task) false v j))
        (ones : (j : ℕ) → has one j ≡ (has others j && side? (task_of s.task) true v j))
        (neithers : (j : ℕ) → has neither j ≡ ((has others j && not (has zero j)) && not (has one j))) where
      -- on neither side
      aside : (j : ℕ) → has neither j ≡ (has others j && (not (side? (task_of s.task) false v j) && not (side? (task_of s.task) true v j)))
      aside j =
          neithers j
          ∙ ap₂ {A = Bool} {B = Bool} (λ a b. (has others j && not a) && not b) (zeros j) (ones j)
          ∙ both (has others j) (side? (task_of s.task) false v j) (side? (task_of s.task) true v j)
        where
          both : (o a b : Bool) → ((o && not (o && a)) && not (o && b)) ≡ (o && (not a && not b))
          both true true b = refl
          both true false b = refl
          both false a b = refl

      -- no latch behind v is in two of the three
      pub size_sides : size (has neither) later + (size (has zero) later + size (has one) later) ≤ size (has others) later
      size_sides =
          size_parts (has neither) (has zero) (has one) (has others) later (λ u h.
          three u (sides_apart (task_of s.task) v u sp (rest_within s.order s.task s.orders (i + 1) u h)))
        where
          counted : (o a b : Bool) → (a ≡ true → b ≡ false) →
              cond (o && (not a && not b)) 1 0 + (cond (o && a) 1 0 + cond (o && b) 1 0) ≤ cond o 1 0
          counted true true true h = absurd (both_ways true (h refl) refl)
          counted true true false h = omega arith
          counted true false true h = omega arith
          counted true false false h = omega arith
          counted false a b h = omega arith

          three : (u : ℕ) → (side? (task_of s.task) false v u ≡ true → side? (task_of s.task) true v u ≡ false) →
              cond (has neither u) 1 0 + (cond (has zero u) 1 0 + cond (has one u) 1 0) ≤ cond (has others u) 1 0
          three u h =
              rw (aside u, zeros u, ones u) (counted (has others u) (side? (task_of s.task) false v u) (side? (task_of s.task) true v u) h)

      pub extends_split :
          (es e1 e2 e3 e4 after : List Entry) (k b : Bool) → k ≡ kept? true (kept_table (task_of s.task) v) →
          b ≡ (k && asks? false (asks_of s.task.want v)) →
          Extends s neither (i + 1) es e1 → Extends s zero (i + 1) e1 e2 → Puts k i true e2 e3 → Extends s one (i + 1) e3 e4 → Puts b i false e4 after →
          Extends s set i es after
      extends_split es e1 e2 e3 e4 after k b kept back x1 x2 p3 x4 p5 = record {
        room = omega (arith, x1.room, x2.room, p3.room, x4.room, p5.room, size_others, size_sides);
        placed = λ q. p5.placed s.order l (x4.placed (p3.placed s.order l (x2.placed (x1.placed q))));
        parts = λ W same.
            let t = task_of s.task in
            let table = kept_table (task_of s.task) in
            let others_as : (u : ℕ) → In later u → has others u ≡ W u = λ u h. others_later u h ∙ behind W same u h in
            let a1 = x1.parts (on_neither t v W) (λ u h. aside u ∙ ap (λ (o : Bool). o && (not (side? t false v u) && not (side? t true v u))) (others_as u h)) in
            let a2 = x2.parts (on_side t false v W) (λ u h. zeros u ∙ ap (λ (o : Bool). o && side? t false v u) (others_as u h)) in
            let a4 = x4.parts (on_side t true v W) (λ u h. ones u ∙ ap (λ (o : Bool). o && side? t true v u) (others_as u h)) in
            joined_parts (parts_of s.order es) (set_route t table later (on_neither t v W)) (set_route t table later (on_side t false v W))
            (set_route t table later (on_side t true v W)) _ _ _ _ _ (when k (recipe_of v true)) (when b (recipe_of v false)) a1 a2
            (p3.parts s.order ∙ ap (λ (w : ℕ). parts_of s.order e2 ++ when k (recipe_of w true)) (sym at)) a4
            (p5.parts s.order ∙ ap (λ (w : ℕ). parts_of s.order e4 ++ when b (recipe_of w false)) (sym at))
            ∙ ap₂ {A = Bool} {B = Bool} (λ c d. parts_of s.order es ++ (set_route t table later (on_neither t v W)
            ++ (set_route t table later (on_side t false v W)
            ++ (when c (recipe_of v true) ++ (set_route t table later (on_side t true v W) ++ when d (recipe_of v false))))))
            kept (back ∙ ap (λ (c : Bool). c && asks? false (asks_of s.task.want v)) kept)
            ∙ ap (λ (ps : List Part). parts_of s.order es ++ ps)
            (sym (ap (λ (vs : List ℕ). set_route t table vs W) next ∙ set_route_split t table v later W (sym (here W same) ∙ inside) sp));
      }
        where
          joined_parts : (p n z o p1 p2 p3 p4 p5 u d : List Part) → p1 ≡ p ++ n → p2 ≡ p1 ++ z → p3 ≡ p2 ++ u → p4 ≡ p3 ++ o → p5 ≡ p4 ++ d →
              p5 ≡ p ++ (n ++ (z ++ (u ++ (o ++ d))))
          joined_parts p n z o p1 p2 p3 p4 p5 u d e1 e2 e3 e4 e5 =
              let whole : p5 ≡ ((((p ++ n) ++ z) ++ u) ++ o) ++ d = cc in
              whole ∙ simp append_assoc
