-- The sides that a search finds are those of the tests, and sides that share no latch split.
use Rattle.std.proofs.Common.{◌≡◌, ℕ, ◌<◌, Bool, true, false, not, ◌&&◌, ◌||◌, eqb, Decides, sym, refl, ap, ◌∙◌, inl, inr, arith}
use Rattle.std.proofs.lemmas.Bool.{cases_Bool, and_parts, and_from, or_cases, or_left, or_right, not-true, not_from_false, eqb-true, eq-eqb}
use Rattle.words.specs.declared.LatchSet.{LatchSet}
use Rattle.words.specs.Sets.{has, has_either, has_both, Empty}
use Rattle.graph.specs.Walks.{Exactly, Walk, one, step, Reached}
use Rattle.theory.specs.Searches.{some_below, all_below}
use Rattle.theory.specs.Tasks.{Task, WellFormed}
use Rattle.theory.specs.Class.{edge?, walk?, dependent?, cut?, link?, side?, splitting?}
use Rattle.theory.proofs.Searches.{some_below_true, some_below_from, all_below_true, all_below_from}
use Rattle.theory.proofs.Walks.{Holds, walk_true, walk_from}
use Rattle.theory.proofs.Sides.{bool_ext, dependent_within, link_within}

-- an edge that is not cut, one way or the other, is a link
pub linked :
    (t : Task) (x : Bool) (v a : ℕ) (r s both : LatchSet) → ((b : ℕ) → has r b ≡ (edge? t a b && not (cut? t x v a b))) →
    ((b : ℕ) → has s b ≡ (edge? t b a && not (cut? t x v b a))) → ((b : ℕ) → has both b ≡ has_either r s b) →
    Exactly both (Holds (link? t x v) a)
unfolding link?
linked t x v a r s both p q h b =
    let e : has both b ≡ ((edge? t a b && not (cut? t x v a b)) || (edge? t b a && not (cut? t x v b a))) = cc (p b, q b, h b) in
    (λ k. sym e ∙ k, λ k. e ∙ k)

module _ (t : Task) (well : WellFormed t) where
  -- a side has latches of the task alone
  side_ends : (x : Bool) (v u : ℕ) → side? t x v u ≡ true → u < t.width
  unfolding side?
  side_ends x v u h =
      let r = some_below_true (λ w. dependent? t x v w && (eqb w u || walk? (link? t x v) t.width w u)) t.width h in
      elim (or_cases (eqb r.0 u) _ (and_parts (dependent? t x v r.0) _ r.2).1) [
        | inl e ↦ let d = eqb-true r.0 u e in omega (arith, r.1)
        | inr k ↦ end (walk_true (link? t x v) t.width r.0 u k)
      ]
    where
      end : {a b : ℕ} → Walk (Holds (link? t x v)) a b → b < t.width
      end (one {u = a} {v = b} l) = link_within t well x v a b l
      end (step l k) = end k

  -- a search from what depends on v at x finds the x side
  pub side_found :
      (x : Bool) (v : ℕ) (from r : LatchSet) → ((u : ℕ) → has from u ≡ dependent? t x v u) → Exactly r (Reached (Holds (link? t x v)) from) →
      (u : ℕ) → has r u ≡ side? t x v u
  unfolding side?
  side_found x v from r starts found u = bool_ext _ _ (λ h. on_side ((found u).0 h)) (λ h. (found u).1 (reached h))
    where
      test : ℕ → Bool
      test w = dependent? t x v w && (eqb w u || walk? (link? t x v) t.width w u)

      by : (w : ℕ) → has from w ≡ true → (eqb w u || walk? (link? t x v) t.width w u) ≡ true → some_below test t.width ≡ true
      by w h k =
          let d = sym (starts w) ∙ h in
          some_below_from test t.width w (dependent_within t well x v w d) (and_from (dependent? t x v w) _ d k)

      on_side : Reached (Holds (link? t x v)) from u → some_below test t.width ≡ true
      on_side (inl h) = by u h (or_left (eqb u u) _ (eq-eqb u u refl))
      on_side (inr (w, (h, k))) = by w h (or_right (eqb w u) _ (walk_from (link? t x v) t.width (link_within t well x v) k))

      reached : some_below test t.width ≡ true → Reached (Holds (link? t x v)) from u
      reached h =
          let r = some_below_true test t.width h in
          let w = r.0 in
          let p = and_parts (dependent? t x v w) _ r.2 in
          let d = starts w ∙ p.0 in
          elim (or_cases (eqb w u) _ p.1) [
            | inl e ↦ inl (sym (ap (has from) (eqb-true w u e)) ∙ d)
            | inr k ↦ inr (w, (d, walk_true (link? t x v) t.width w u k))
          ]

  -- sides that share no latch split
  pub sides_split :
      (v : ℕ) (zeros ones both : LatchSet) → ((u : ℕ) → has zeros u ≡ side? t false v u) → ((u : ℕ) → has ones u ≡ side? t true v u) →
      ((u : ℕ) → has both u ≡ has_both zeros ones u) → (r : Bool) → Decides r (Empty both) → r ≡ splitting? t v
  unfolding splitting?
  sides_split v zeros ones both p q h r none = bool_ext _ _ (λ e. splits (none.0 e)) (λ k. none.1 (empty k))
    where
      shared : ℕ → Bool
      shared u = side? t false v u && side? t true v u

      splits : Empty both → all_below (λ u. not (shared u)) t.width ≡ true
      splits e = all_below_from (λ u. not (shared u)) t.width (λ u l. not_from_false (shared u) (apart u))
        where
          -- no latch is on both sides
          apart : (u : ℕ) → shared u ≡ false
          apart u = grind (arith, p u, q u, h u, e u)

      empty : all_below (λ u. not (shared u)) t.width ≡ true → Empty both
      empty k u =
          elim (cases_Bool (side? t false v u)) [
            | inl e ↦
                let n = not-true (shared u) (all_below_true (λ w. not (shared w)) t.width u k (side_ends false v u e)) in
                grind (arith, p u, q u, h u, e, n)
            | inr e ↦ grind (arith, p u, q u, h u, e)
          ]
