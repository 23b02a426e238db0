-- Each latch of the order is one of the task and does not stand before.
use Rattle.std.proofs.Common.{◌≡◌, ℕ, zero, suc, ◌<◌, ◌≤◌, not, List, [], ◌∷◌, reverse, length, get_or, sym, refl, ap, ◌∙◌, subst, inl, inr, add-one, arith}
use mathlib.Core.Option.{Option, none, some}
use Rattle.std.proofs.lemmas.List.{reverse-reverse, length-take, take_all}
use Rattle.std.proofs.lemmas.Bool.{both_ways, and_parts, not-true}
use Rattle.theory.specs.Searches.{In, has, lowest}
use Rattle.theory.specs.Tasks.{Task}
use Rattle.theory.specs.Order.{next?, placing, latest_first, order}
use Rattle.theory.proofs.Searches.{lowest_some, in_has, below_cases}
use Rattle.theory.proofs.Ordered.{Behind}
use Rattle.words.specs.Sets.{most_latches}
use Rattle.tasks.specs.declared.task.NormalTask.{NormalTask}
use Rattle.tasks.specs.Tasks.{task_of}
use Rattle.planner.specs.declared.order.list.Order.{Order}
use Rattle.planner.specs.Orders.{order_of}
use Rattle.planner.specs.RecipesKept.{before}
use Rattle.planner.proofs.RecipeLengths.{before_more}

-- a latch of the task that is not placed yet
abbrev pub Fresh : Task → List ℕ → ℕ → Type 0
Fresh t placed v = (v < t.width) × (In placed v → ⊥)

placing_fresh : (t : Task) (n : ℕ) (placed : List ℕ) → Behind (Fresh t) placed → Behind (Fresh t) (placing t n placed)
unfolding placing
placing_fresh t zero placed b = b
placing_fresh t (suc n) placed b = go (lowest (next? t placed) t.width) refl (λ v f. placing_fresh t n (v ∷ placed) (f, b))
  where
    go : (o : Option ℕ) → lowest (next? t placed) t.width ≡ o → ((v : ℕ) → Fresh t placed v → Behind (Fresh t) (placing t n (v ∷ placed))) →
        Behind (Fresh t) (elim o as (λ _. List ℕ) [ none ↦ placed | some v ↦ placing t n (v ∷ placed) ])
    go none e ih = b
    go (some v) e ih =
        let r = lowest_some (next? t placed) t.width v e in
        ih v (r.0, λ i. both_ways _ (not-true _ (and_parts (not (has placed v)) _ r.1).0) (in_has placed v i))

-- the latches before the next place
pub before_next : (latches : List ℕ) (i : ℕ) → i < length latches → before latches (suc i) ≡ get_or latches i 0 ∷ before latches i
before_next latches i l = ap (before latches) (sym (add-one i)) ∙ before_more latches i l

behind_at :
    (Q : List ℕ → ℕ → Type 0) (latches : List ℕ) (n : ℕ) → n ≤ length latches → Behind Q (before latches n) → (k : ℕ) → k < n →
    Q (before latches k) (get_or latches k 0)
behind_at Q latches zero h b k l = absurd (omega arith)
behind_at Q latches (suc n) h b k l =
    let here : Behind Q (get_or latches n 0 ∷ before latches n) = subst (Behind Q) (before_next latches n (omega arith)) b in
    elim (below_cases k n l) [
      | inl a ↦ behind_at Q latches n (omega arith) here.1 k a
      | inr e ↦ subst (λ (i : ℕ). Q (before latches i) (get_or latches i 0)) (sym e) here.0
    ]

-- the order, the last first, is what is placed
pub order_before : (t : Task) (vs : List ℕ) → vs ≡ order t → before vs (length vs) ≡ latest_first t
unfolding order
order_before t vs e = ap reverse (take_all (length vs) vs (omega arith) ∙ e) ∙ reverse-reverse (latest_first t)

pub fresh_at : (t : Task) (vs : List ℕ) → vs ≡ order t → (k : ℕ) → k < length vs → Fresh t (before vs k) (get_or vs k 0)
unfolding latest_first
fresh_at t vs e k l =
    behind_at (Fresh t) vs (length vs) (omega arith) (subst (Behind (Fresh t)) (sym (order_before t vs e)) (placing_fresh t t.width [] tt)) k l

-- a latch stands before each later place
pub in_before : (latches : List ℕ) (k i : ℕ) → i < k → k ≤ length latches → In (before latches k) (get_or latches i 0)
in_before latches zero i l h = absurd (omega arith)
in_before latches (suc k) i l h =
    subst (λ (us : List ℕ). In us (get_or latches i 0)) (sym (before_next latches k (omega arith)))
    (elim (below_cases i k l) [ inl a ↦ inr (in_before latches k i a (omega arith)) | inr e ↦ inl (ap (λ (j : ℕ). get_or latches j 0) (sym e)) ])

-- a latch of the order is one that there can be
pub latch_below : (t : NormalTask) (vs : List ℕ) → vs ≡ order (task_of t) → (k : ℕ) → k < length vs → get_or vs k 0 < most_latches
latch_below t vs e k l = let below = (fresh_at (task_of t) vs e k l).0 in omega (arith, t.narrow)

-- an order has no more latches than there can be
pub few : (o : Order) → length (order_of o) ≤ most_latches
few o = omega (arith, length-take o.latches.count o.latches.places, o.latches.fits)
