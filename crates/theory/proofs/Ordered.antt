-- The order has each latch once, behind all its predecessors.
use Rattle.std.proofs.Common.{◌≡◌, ℕ, zero, suc, ◌<◌, ◌≤◌, true, false, not, ◌&&◌, ◌||◌, eqb, ◌≢◌, List, [], ◌∷◌, sym, refl, ap, subst, inl, inr, arith}
use mathlib.Core.List.{reverse_aux}
use mathlib.Core.Option.{Option, none, some}
use Rattle.std.proofs.lemmas.Bool.{both_ways, false_from_ne_true, true_from_ne_false, cases_Bool, and_parts, and_from, or_parts, or_cases, not-true, not-false, not_from_false, not_from_true, eqb-true, eqb-false}
use Rattle.theory.specs.Searches.{In, has, all_below, lowest}
use Rattle.theory.specs.Tasks.{Ask, any, at_zero, at_one, Move, Task, WellFormed, asked?}
use Rattle.theory.specs.Class.{edge?, walk?, acyclic?}
use Rattle.graph.specs.Walks.{Walk, one, step}
use Rattle.theory.specs.Order.{next?, placing, latest_first}
use Rattle.theory.proofs.Searches.{some_of_true, all_below_true, all_below_false, lowest_some, lowest_none, has_in, in_has}
use Rattle.theory.proofs.Walks.{Holds, walk_join, walk_true, walk_from}
use Rattle.theory.proofs.Counting.{count, count_lt, count_bound, count_none}

-- Q holds of each latch of a list, latest first, with those placed before it; and of a list in order, behind those placed before
abbrev pub Behind : (List ℕ → ℕ → Type 0) → List ℕ → Type 0
Behind Q [] = Unit {0}
Behind Q (v ∷ before) = Q before v × Behind Q before

abbrev pub Along : (List ℕ → ℕ → Type 0) → List ℕ → List ℕ → Type 0
Along Q before [] = Unit {0}
Along Q before (v ∷ rest) = Q before v × Along Q (v ∷ before) rest

pub behind_along : (Q : List ℕ → ℕ → Type 0) (placed rest : List ℕ) → Behind Q placed → Along Q placed rest → Along Q [] (reverse_aux placed rest)
behind_along Q [] rest b a = a
behind_along Q (v ∷ placed) rest b a = behind_along Q placed (v ∷ rest) b.1 (b.0, a)

pub in_back : {A : Type 0} (xs ys : List A) (x : A) → In ys x → In (reverse_aux xs ys) x
in_back [] ys x i = i
in_back (y ∷ xs) ys x i = in_back xs (y ∷ ys) x (inr i)

pub in_reversed : {A : Type 0} (xs ys : List A) (x : A) → In xs x → In (reverse_aux xs ys) x
in_reversed [] ys x i = absurd i
in_reversed (y ∷ xs) ys x (inl e) = in_back xs (y ∷ ys) x (inl e)
in_reversed (y ∷ xs) ys x (inr i) = in_reversed xs (y ∷ ys) x i

-- edges
abbrev pub Arrow : Task → ℕ → ℕ → Type 0
Arrow t = Holds (edge? t)

pub asked_not_any : (a : Ask) → asked? a ≡ true → a ≢ any
asked_not_any any h e = absurd (both_ways false refl h)
asked_not_any at_zero h e = absurd (both_ways false refl (sym (ap asked? e)))
asked_not_any at_one h e = absurd (both_ways false refl (sym (ap asked? e)))

pub edge_parts : (t : Task) (u v : ℕ) → edge? t u v ≡ true →
    (u ≢ v) × ((m : Move) × In t.moves m × (m.latch ≡ v) × (asked? (m.asks u) ≡ true))
unfolding edge?
edge_parts t u v h =
    let p = and_parts (not (eqb u v)) _ h in
    let r = some_of_true (λ m. eqb m.latch v && asked? (m.asks u)) t.moves p.1 in
    let q = and_parts (eqb r.0.latch v) _ r.2 in
    (eqb-false u v (not-true (eqb u v) p.0), (r.0, r.1, eqb-true _ _ q.0, q.1))

module _ (t : Task) (well : WellFormed t) where
  pub edge_starts : (u v : ℕ) → edge? t u v ≡ true → u < t.width
  edge_starts u v h = let r = (edge_parts t u v h).1 in well.asks_within r.0 r.1 u (asked_not_any _ r.3)

  pub edge_ends : (u v : ℕ) → edge? t u v ≡ true → v < t.width
  edge_ends u v h = let r = (edge_parts t u v h).1 in subst (λ z. z < t.width) r.2 (well.latch_within r.0 r.1)

  pub walk_starts : {u v : ℕ} → Walk (Arrow t) u v → u < t.width
  walk_starts (one {u = u} {v = v} r) = edge_starts u v r
  walk_starts (step {u = u} {w = w} r p) = edge_starts u w r

  pub edge_walk_from : {u v : ℕ} → Walk (Arrow t) u v → walk? (edge? t) t.width u v ≡ true
  edge_walk_from p = walk_from (edge? t) t.width edge_ends p

  pub acyclic : acyclic? t ≡ true → (u : ℕ) → Walk (Arrow t) u u → ⊥
  unfolding acyclic?
  acyclic h u p =
      both_ways (walk? (edge? t) t.width u u)
      (not-true _ (all_below_true (λ w. not (walk? (edge? t) t.width w w)) t.width u h (walk_starts p))) (edge_walk_from p)

-- a latch, with those placed before it: it is new, and all its predecessors are there
abbrev pub Next : Task → List ℕ → ℕ → Type 0
Next t before v = (v < t.width) × (In before v → ⊥) × ((u : ℕ) → edge? t u v ≡ true → In before u)

abbrev pub WellPlaced : Task → List ℕ → Type 0
WellPlaced t placed = Behind (Next t) placed

-- all ancestors of a placed latch are placed
pub before_edge : (t : Task) (placed : List ℕ) → WellPlaced t placed → (u v : ℕ) → edge? t u v ≡ true → In placed v → In placed u
before_edge t [] g u v h i = absurd i
before_edge t (w ∷ placed) g u v h (inl e) = inr (g.0.2 u (subst (λ z. edge? t u z ≡ true) (sym e) h))
before_edge t (w ∷ placed) g u v h (inr i) = inr (before_edge t placed g.1 u v h i)

pub before_walk : (t : Task) (placed : List ℕ) → WellPlaced t placed → {u v : ℕ} → Walk (Arrow t) u v → In placed v → In placed u
before_walk t placed g (one {u = u} {v = v} r) i = before_edge t placed g u v r i
before_walk t placed g (step {u = u} {w = w} r p) i = before_edge t placed g u w r (before_walk t placed g p i)

-- the ancestors of the latch placed next
pub before_next : (t : Task) (placed : List ℕ) → WellPlaced t placed → {u v : ℕ} → Next t placed v → Walk (Arrow t) u v → In placed u
before_next t placed g f (one {u = u} r) = f.2 u r
before_next t placed g f (step {u = u} {w = w} r p) = before_edge t placed g u w r (before_next t placed g f p)

module _ (t : Task) (well : WellFormed t) (no_cycle : acyclic? t ≡ true) where
  -- how many latches reach v
  depth : ℕ → ℕ
  depth v = count (λ u. walk? (edge? t) t.width u v) t.width

  depth_less : (u v : ℕ) → edge? t u v ≡ true → depth u < depth v
  unfolding depth
  depth_less u v h =
      count_lt (λ w. walk? (edge? t) t.width w u) (λ w. walk? (edge? t) t.width w v) t.width u
      (λ w l p. edge_walk_from t well (walk_join (walk_true (edge? t) t.width w u p) (one h)))
      (edge_starts t well u v h)
      (false_from_ne_true _ (λ e. acyclic t well no_cycle u (walk_true (edge? t) t.width u u e)))
      (edge_walk_from t well (one h))

  -- while a latch is not placed, some latch can be placed next
  next_exists : (placed : List ℕ) (k v : ℕ) → depth v < k → v < t.width → has placed v ≡ false → (w : ℕ) × (w < t.width) × (next? t placed w ≡ true)
  next_exists placed zero v d l h = absurd (omega arith)
  next_exists placed (suc k) v d l h =
      let test = λ (u : ℕ). not (edge? t u v) || has placed u in
      elim (cases_Bool (all_below test t.width)) [
        | inl e ↦ (v, l, and_from (not (has placed v)) (all_below test t.width) (not_from_false _ h) e)
        | inr e ↦
            let r = all_below_false test t.width e in
            let q = or_parts (not (edge? t r.0 v)) (has placed r.0) r.2 in
            let less = depth_less r.0 v (not-false _ q.0) in
            next_exists placed k r.0 (omega arith) r.1 q.1
      ]

  -- placing goes on until all are placed
  placing_all : (n : ℕ) (placed : List ℕ) → WellPlaced t placed → count (λ u. not (has placed u)) t.width ≤ n →
      WellPlaced t (placing t n placed) × ((v : ℕ) → v < t.width → In (placing t n placed) v)
  unfolding placing
  placing_all zero placed g h = (g, λ v l. has_in placed v (not-false _ (count_none (λ u. not (has placed u)) t.width v h l)))
  placing_all (suc n) placed g h = go (lowest (next? t placed) t.width) refl (λ v g' h'. placing_all n (v ∷ placed) g' h')
    where
      Done : List ℕ → Type 0
      Done xs = WellPlaced t xs × ((v : ℕ) → v < t.width → In xs v)

      pick : Option ℕ → List ℕ
      pick o = elim o [ none ↦ placed | some v ↦ placing t n (v ∷ placed) ]

      go : (o : Option ℕ) → lowest (next? t placed) t.width ≡ o →
          ((v : ℕ) → WellPlaced t (v ∷ placed) → count (λ u. not (has (v ∷ placed) u)) t.width ≤ n → Done (placing t n (v ∷ placed))) →
          Done (placing t (suc n) placed)
      go none e ih =
          subst Done (sym (ap pick e)) (
            g,
            λ v l. has_in placed v (true_from_ne_false (has placed v) (λ a.
                let r = next_exists placed (suc (depth v)) v (omega arith) l a in
                both_ways _ (lowest_none (next? t placed) t.width r.0 e r.1) r.2)),
          )
      go (some v) e ih =
          let r = lowest_some (next? t placed) t.width v e in
          let q = and_parts (not (has placed v)) _ r.1 in
          let new : has placed v ≡ false = not-true _ q.0 in
          let fit : Next t placed v = (
            r.0,
            (λ i. both_ways _ new (in_has placed v i)),
            λ u a. elim (or_cases _ _ (all_below_true _ t.width u q.1 (edge_starts t well u v a)))
                [ inl b ↦ absurd (both_ways _ (not-true _ b) a) | inr b ↦ has_in placed u b ],
          ) in
          let fewer = count_lt (λ u. not (has (v ∷ placed) u)) (λ u. not (has placed u)) t.width v
          (λ u l p. not_from_false _ (or_parts (eqb v u) (has placed u) (not-true _ p)).1)
          r.0 (not_from_true _ (in_has (v ∷ placed) v (inl refl))) (not_from_false _ new) in
          subst Done (sym (ap pick e)) (ih v (fit, g) (omega arith))

  pub latest_well_placed : WellPlaced t (latest_first t)
  unfolding latest_first
  latest_well_placed = (placing_all t.width [] tt (count_bound _ t.width)).0

  pub latest_all : (v : ℕ) → v < t.width → In (latest_first t) v
  unfolding latest_first
  latest_all = (placing_all t.width [] tt (count_bound _ t.width)).1
