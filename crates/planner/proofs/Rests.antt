-- The latches of the order from a place on, and how many of them are in a set.
use Rattle.std.proofs.Common.{◌≡◌, ℕ, zero, suc, ◌+◌, ◌<◌, ◌≤◌, Bool, true, false, cond, List, [], ◌∷◌, length, get_or, drop, sym, refl, ap, subst, ap₂, inl, inr, arith}
use Rattle.std.proofs.lemmas.List.{drop_more, drop_all}
use Rattle.theory.specs.Searches.{In}
use Rattle.tasks.specs.declared.task.NormalTask.{NormalTask}
use Rattle.tasks.specs.Tasks.{task_of}
use Rattle.planner.specs.declared.order.list.Order.{Order}
use Rattle.planner.specs.Laid.{rest, size}
use Rattle.planner.specs.Made.{latch_at, Orders}
use Rattle.planner.specs.Orders.{order_of}
use Rattle.planner.specs.RecipesKept.{before}
use Rattle.planner.proofs.OrderFresh.{fresh_at, in_before}

-- an element of the rest of a list stands at a place behind
in_drop : (i : ℕ) (xs : List ℕ) (u : ℕ) → In (drop i xs) u → (j : ℕ) × ((i ≤ j) × (j < length xs) × (get_or xs j 0 ≡ u))
in_drop zero [] u h = absurd h
in_drop zero (x ∷ xs) u (inl e) = (0, (omega arith, omega arith, e))
in_drop zero (x ∷ xs) u (inr h) = let p = in_drop zero xs u h in (suc p.0, (omega arith, omega (arith, p.1.1), p.1.2))
in_drop (suc i) [] u h = absurd h
in_drop (suc i) (x ∷ xs) u h = let p = in_drop i xs u h in (suc p.0, (omega (arith, p.1.0), omega (arith, p.1.1), p.1.2))

module _ (order : Order) where
  -- the next latch is the first of the rest
  pub rest_next : (i : ℕ) → i < length (order_of order) → rest order i ≡ latch_at order i ∷ rest order (i + 1)
  rest_next i l = drop_more (order_of order) i 0 l

  pub rest_end : (i : ℕ) → length (order_of order) ≤ i → rest order i ≡ []
  rest_end i l = drop_all i (order_of order) l

  module _ (t : NormalTask) (ordered : Orders t order) where
    pub rest_fresh : (i : ℕ) → i < length (order_of order) → In (rest order (i + 1)) (latch_at order i) → ⊥
    rest_fresh i l h =
        let p = in_drop (i + 1) (order_of order) (latch_at order i) h in
        (fresh_at (task_of t) (order_of order) ordered p.0 p.1.1).1
        (subst (In (before (order_of order) p.0)) (sym p.1.2) (in_before (order_of order) p.0 i (omega (arith, p.1.0)) (omega (arith, p.1.1))))

    pub latch_within : (i : ℕ) → i < length (order_of order) → latch_at order i < t.width
    latch_within i l = (fresh_at (task_of t) (order_of order) ordered i l).0

    pub rest_within : (i u : ℕ) → In (rest order i) u → u < t.width
    rest_within i u h =
        let p = in_drop i (order_of order) u h in
        subst (λ (v : ℕ). v < t.width) p.1.2 (latch_within p.0 p.1.1)

-- sets that agree on a list have as many of its latches
pub size_alike : (W W' : ℕ → Bool) (vs : List ℕ) → ((u : ℕ) → In vs u → W u ≡ W' u) → size W vs ≡ size W' vs
size_alike W W' [] same = refl
size_alike W W' (v ∷ vs) same = ap₂ {A = ℕ} {B = ℕ} (λ m n. m + n) (ap (λ (b : Bool). cond b 1 0) (same v (inl refl))) (size_alike W W' vs (λ u i. same u (inr i)))

-- three sets without a latch in common have no more latches than what holds them
pub size_parts :
    (N Z O W : ℕ → Bool) (vs : List ℕ) → ((u : ℕ) → In vs u → cond (N u) 1 0 + (cond (Z u) 1 0 + cond (O u) 1 0) ≤ cond (W u) 1 0) →
    size N vs + (size Z vs + size O vs) ≤ size W vs
size_parts N Z O W [] h = omega arith
size_parts N Z O W (v ∷ vs) h = let here = h v (inl refl) in let later = size_parts N Z O W vs (λ u i. h u (inr i)) in omega arith

pub size_most : (W : ℕ → Bool) (vs : List ℕ) → size W vs ≤ length vs
size_most W [] = omega arith
size_most W (v ∷ vs) = let later = size_most W vs in let one = at_most (W v) in omega arith
  where
    at_most : (b : Bool) → cond b 1 0 ≤ 1
    at_most true = omega arith
    at_most false = omega arith
