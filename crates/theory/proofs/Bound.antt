-- The bound on a route: the costs of its latches come to at most (5 * 3 ^ (width - 1) - 1) / 2.
use Rattle.std.proofs.Common.{◌≡◌, ℕ, zero, suc, ◌+◌, ◌-◌, ◌*◌, ◌^◌, ◌≤◌, Bool, true, false, ◌⊎◌, List, [], ◌∷◌, length, sym, refl, ap, subst, inl, inr, arith}
use mathlib.Core.Option.{Option, none, some}
use lib.ListN.{length-reverse}
use Rattle.theory.specs.Searches.{lowest}
use Rattle.theory.specs.Tasks.{Task, WellFormed}
use Rattle.theory.specs.Class.{splitting?, in_class?}
use Rattle.theory.specs.Order.{next?, placing, latest_first, order}
use Rattle.theory.specs.Route.{kept_table, entries, route}
use Rattle.theory.specs.Bound.{longest}
use Rattle.theory.proofs.Ordered.{Along, behind_along, latest_well_placed}
use Rattle.theory.proofs.Lengths.{plain_count, plain_count_splitting, plain_count_plain, three_pow_le, Short, recipe_short, share, cost, route_short}
use Rattle.theory.proofs.Soundness.{class_acyclic, order_along}

-- the cost c of the first m latches, k of which are not splitting, is within bounds: none is splitting, or one is
abbrev Within : ℕ → ℕ → ℕ → Type 0
Within m k c = ((k ≡ m) × (2 * c + 1 ≤ 3 ^ m)) ⊎ ((j : ℕ) × (m ≡ suc j) × (k ≤ j) × (2 * c + 1 ≤ 5 * 3 ^ j))

within_split : (m k c : ℕ) → Within m k c → Within (suc m) k (2 * 3 ^ k + c)
within_split m k c (inl h) =
    let same : 3 ^ k ≡ 3 ^ m = ap (λ z. 3 ^ z) h.0 in
    inr (m, refl, omega (arith, h.0), omega (arith, h.1))
within_split m k c (inr h) =
    let less = three_pow_le k h.0 h.2 in
    let next : 3 ^ m ≡ 3 ^ suc h.0 = ap (λ z. 3 ^ z) h.1 in
    inr (m, refl, omega (arith, h.1, h.2), omega (arith, h.3))

within_plain : (m k c : ℕ) → Within m k c → Within (suc m) (suc k) (3 ^ k + c)
within_plain m k c (inl h) =
    let same : 3 ^ k ≡ 3 ^ m = ap (λ z. 3 ^ z) h.0 in
    inl (ap suc h.0, omega (arith, h.1))
within_plain m k c (inr h) =
    let less = three_pow_le k h.0 h.2 in
    let next : 3 ^ m ≡ 3 ^ suc h.0 = ap (λ z. 3 ^ z) h.1 in
    inr (m, refl, omega (arith, h.1, h.2), omega (arith, h.3))

within_end : (m k c w : ℕ) → Within m k c → m ≤ suc w → 2 * c + 1 ≤ 5 * 3 ^ w
within_end zero k c w (inl h) l = let low = three_pow_le 0 w (omega arith) in omega (arith, h.1)
within_end (suc m) k c w (inl h) l = let low = three_pow_le m w (omega arith) in omega (arith, h.1)
within_end m k c w (inr h) l = let low = three_pow_le h.0 w (omega (arith, h.1)) in omega (arith, h.3)

all_cost : (t : Task) (rest before : List ℕ) (c w : ℕ) → Within (length before) (plain_count t before) c → length before + length rest ≤ suc w →
    2 * (c + cost t before rest (λ v. true)) + 1 ≤ 5 * 3 ^ w
unfolding cost
all_cost t [] before c w h l = let r = within_end _ _ c w h (omega arith) in omega arith
all_cost t (v ∷ rest) before c w h l = go (splitting? t v) refl (λ c' h'. all_cost t rest (v ∷ before) c' w h' (omega arith))
  where
    later : ℕ
    later = cost t (v ∷ before) rest (λ u. true)

    go : (sp : Bool) → splitting? t v ≡ sp →
        ((c' : ℕ) → Within (length (v ∷ before)) (plain_count t (v ∷ before)) c' → 2 * (c' + later) + 1 ≤ 5 * 3 ^ w) →
        2 * (c + (share true (splitting? t v) (plain_count t before) + later)) + 1 ≤ 5 * 3 ^ w
    go true e ih =
        let r = ih (2 * 3 ^ plain_count t before + c)
        (subst (λ k. Within (suc (length before)) k (2 * 3 ^ plain_count t before + c)) (sym (plain_count_splitting t v before e)) (within_split _ _ c h)) in
        subst (λ x. 2 * (c + (share true x (plain_count t before) + later)) + 1 ≤ 5 * 3 ^ w) (sym e) (omega arith)
    go false e ih =
        let r = ih (3 ^ plain_count t before + c)
        (subst (λ k. Within (suc (length before)) k (3 ^ plain_count t before + c)) (sym (plain_count_plain t v before e)) (within_plain _ _ c h)) in
        subst (λ x. 2 * (c + (share true x (plain_count t before) + later)) + 1 ≤ 5 * 3 ^ w) (sym e) (omega arith)

-- no more latches are placed than there are
placing_length : (t : Task) (n : ℕ) (placed : List ℕ) → length (placing t n placed) ≤ n + length placed
unfolding placing
placing_length t zero placed = omega arith
placing_length t (suc n) placed = go (lowest (next? t placed) t.width) (λ v. placing_length t n (v ∷ placed))
  where
    go : (o : Option ℕ) → ((v : ℕ) → length (placing t n (v ∷ placed)) ≤ n + suc (length placed)) →
        length (elim o as (λ _. List ℕ) [ none ↦ placed | some v ↦ placing t n (v ∷ placed) ]) ≤ suc n + length placed
    go none ih = omega arith
    go (some v) ih = omega (arith, ih v)

order_length : (t : Task) → length (order t) ≤ t.width
unfolding order latest_first
order_length t = omega (arith, length-reverse (latest_first t), placing_length t t.width [])

pub route_bound : (t : Task) → WellFormed t → in_class? t ≡ true → length (route t) ≤ longest t.width
unfolding route entries kept_table plain_count order
route_bound t well class =
    let no_cycle = class_acyclic t class in
    let shorts : Along (Short t (kept_table t)) [] (order t) =
    behind_along (Short t (kept_table t)) (latest_first t) [] (recipe_short t (latest_first t) (latest_well_placed t well no_cycle)) tt in
    let whole = route_short t (kept_table t) (order t) [] (order_along t well no_cycle) shorts (λ v. true) in
    let all = all_cost t (order t) [] 0 (t.width - 1) (inl (refl, omega arith)) (omega (arith, order_length t)) in
    omega arith
