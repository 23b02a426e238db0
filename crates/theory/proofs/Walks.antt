-- The test of Warshall and the walks that it stands for.
use Rattle.std.proofs.Common.{◌≡◌, Decides, ℕ, zero, suc, ◌<◌, Bool, true, ◌&&◌, ◌⊎◌, subst, inl, inr, arith}
use Rattle.std.proofs.lemmas.Bool.{or_cases, or_left, or_right, and_parts, and_from}
use Rattle.theory.specs.Class.{walk?}
use Rattle.graph.specs.Walks.{Walk, one, step}
use Rattle.theory.proofs.Searches.{below_cases}

-- a test, as a relation
abbrev pub Holds : (ℕ → ℕ → Bool) → ℕ → ℕ → Type 0
Holds e u v = e u v ≡ true

pub walk_join : {R : ℕ → ℕ → Type 0} {u w v : ℕ} → Walk R u w → Walk R w v → Walk R u v
walk_join (one r) q = step r q
walk_join (step r p) q = step r (walk_join p q)

pub walk_map : {R S : ℕ → ℕ → Type 0} {u v : ℕ} → ((a b : ℕ) → R a b → S a b) → Walk R u v → Walk S u v
walk_map f (one {u = a} {v = b} r) = one (f a b r)
walk_map f (step {u = a} {w = b} r p) = step (f a b r) (walk_map f p)

module _ (e : ℕ → ℕ → Bool) where
  pub walk_true : (k u v : ℕ) → walk? e k u v ≡ true → Walk (Holds e) u v
  unfolding walk?
  walk_true zero u v h = one h
  walk_true (suc k) u v h =
      elim (or_cases (walk? e k u v) (walk? e k u k && walk? e k k v) h) [
        | inl a ↦ walk_true k u v a
        | inr b ↦
            let r = and_parts (walk? e k u k) (walk? e k k v) b in
            walk_join (walk_true k u k r.0) (walk_true k k v r.1)
      ]

  walk_test_more : (k u v : ℕ) → walk? e k u v ≡ true → walk? e (suc k) u v ≡ true
  unfolding walk?
  walk_test_more k u v h = or_left (walk? e k u v) (walk? e k u k && walk? e k k v) h

  walk_test_by : (k u v : ℕ) → walk? e k u k ≡ true → walk? e k k v ≡ true → walk? e (suc k) u v ≡ true
  unfolding walk?
  walk_test_by k u v a b = or_right (walk? e k u v) (walk? e k u k && walk? e k k v) (and_from (walk? e k u k) (walk? e k k v) a b)

  walk_test_edge : (k u v : ℕ) → e u v ≡ true → walk? e k u v ≡ true
  unfolding walk?
  walk_test_edge zero u v h = h
  walk_test_edge (suc k) u v h = walk_test_more k u v (walk_test_edge k u v h)

  walk_test_cases : (k u v : ℕ) → walk? e (suc k) u v ≡ true → (walk? e k u v ≡ true) ⊎ ((walk? e k u k ≡ true) × (walk? e k k v ≡ true))
  unfolding walk?
  walk_test_cases k u v h =
      elim (or_cases (walk? e k u v) (walk? e k u k && walk? e k k v) h)
      [ inl a ↦ inl a | inr b ↦ inr (and_parts (walk? e k u k) (walk? e k k v) b) ]

  -- to k and from k without k in between
  walk_test_to : (k u : ℕ) → walk? e (suc k) u k ≡ true → walk? e k u k ≡ true
  walk_test_to k u h = elim (walk_test_cases k u k h) [ inl a ↦ a | inr b ↦ b.0 ]

  walk_test_from : (k v : ℕ) → walk? e (suc k) k v ≡ true → walk? e k k v ≡ true
  walk_test_from k v h = elim (walk_test_cases k k v h) [ inl a ↦ a | inr b ↦ b.1 ]

  -- two walks that meet below k make one
  walk_test_through : (k w u v : ℕ) → w < k → walk? e k u w ≡ true → walk? e k w v ≡ true → walk? e k u v ≡ true
  walk_test_through zero w u v l p q = absurd (omega arith)
  walk_test_through (suc k) w u v l p q =
      elim (below_cases w k l) [
        | inr s ↦
            walk_test_by k u v (walk_test_to k u (subst (λ z. walk? e (suc k) u z ≡ true) s p))
            (walk_test_from k v (subst (λ z. walk? e (suc k) z v ≡ true) s q))
        | inl l' ↦
            elim (walk_test_cases k u w p) [
              | inl a ↦
                  elim (walk_test_cases k w v q) [
                    | inl b ↦ walk_test_more k u v (walk_test_through k w u v l' a b)
                    | inr b ↦ walk_test_by k u v (walk_test_through k w u k l' a b.0) b.1
                  ]
              | inr a ↦
                  elim (walk_test_cases k w v q)
                  [ inl b ↦ walk_test_by k u v a.0 (walk_test_through k w k v l' a.1 b) | inr b ↦ walk_test_by k u v a.0 b.1 ]
            ]
      ]

  -- a walk whose every step ends below n is found
  pub walk_from : (n : ℕ) → ((a b : ℕ) → e a b ≡ true → b < n) → {u v : ℕ} → Walk (Holds e) u v → walk? e n u v ≡ true
  walk_from n within (one {u = u} {v = v} r) = walk_test_edge n u v r
  walk_from n within (step {u = u} {w = w} {v = v} r p) =
      walk_test_through n w u v (within u w r) (walk_test_edge n u w r) (walk_from n within p)

  -- so the test decides walks, of a relation that it decides of
  pub walk_decides : (E : ℕ → ℕ → Type 0) → ((a b : ℕ) → Decides (e a b) (E a b)) → (n : ℕ) → ((a b : ℕ) → e a b ≡ true → b < n) →
      (u v : ℕ) → Decides (walk? e n u v) (Walk E u v)
  walk_decides E each n within u v = (
    (λ h. walk_map (λ a b. (each a b).0) (walk_true n u v h)),
    λ p. walk_from n within (walk_map (λ a b. (each a b).1) p),
  )
