-- The two sides of a latch: closed under edges that do not come from it.
use Rattle.std.proofs.Common.{◌≡◌, ℕ, ◌<◌, Bool, true, false, not, ◌&&◌, ◌||◌, eqb, ◌≢◌, sym, refl, ◌∙◌, subst, inl, inr}
use Rattle.std.proofs.lemmas.Bool.{both_ways, false_from_ne_true, and_parts, and_from, and_left, or_left, or_right, or_cases, not-true, not_from_false, eqb-true, eq-eqb, ne_eqb}
use Rattle.std.proofs.lemmas.Bool.Decides.{same_from_decides}
use Rattle.theory.specs.Searches.{In}
use Rattle.theory.specs.Tasks.{Ask, any, at_zero, at_one, Move, Task, WellFormed, asked?, asks?}
use Rattle.theory.specs.Class.{edge?, walk?, dependent?, cut?, link?, side?, splitting?}
use Rattle.graph.specs.Walks.{Walk, one, step}
use Rattle.theory.proofs.Searches.{some_of_true, some_of_from, some_below_true, some_below_from, all_below_true}
use Rattle.theory.proofs.Walks.{walk_join, walk_true, walk_from}
use Rattle.theory.proofs.Ordered.{Arrow, edge_starts, edge_ends}

pub bool_ext : (a b : Bool) → (a ≡ true → b ≡ true) → (b ≡ true → a ≡ true) → a ≡ b
bool_ext a b f g = same_from_decides a b (f, g) (λ e. e, λ e. e)

pub asks_asked : (x : Bool) (a : Ask) → asks? x a ≡ true → asked? a ≡ true
asks_asked x any h = h
asks_asked x at_zero h = refl
asks_asked x at_one h = refl

-- a move of v that asks something of another latch makes an edge, and is dependent by that latch
pub edge_made : (t : Task) (m : Move) (u v : ℕ) → In t.moves m → m.latch ≡ v → u ≢ v → asked? (m.asks u) ≡ true → edge? t u v ≡ true
unfolding edge?
edge_made t m u v i l n a =
    and_from (not (eqb u v)) _ (not_from_false _ (ne_eqb u v n))
    (some_of_from (λ k. eqb k.latch v && asked? (k.asks u)) t.moves m i (and_from (eqb m.latch v) _ (eq-eqb _ _ l) a))

pub dependent_made : (t : Task) (x : Bool) (m : Move) (u v : ℕ) → In t.moves m → m.latch ≡ v → u ≢ v → asks? x (m.asks u) ≡ true →
    dependent? t x u v ≡ true
unfolding dependent?
dependent_made t x m u v i l n a =
    and_from (not (eqb v u)) _ (not_from_false _ (ne_eqb v u (λ e. n (sym e))))
    (some_of_from (λ k. eqb k.latch v && asks? x (k.asks u)) t.moves m i (and_from (eqb m.latch v) _ (eq-eqb _ _ l) a))

module _ (t : Task) (well : WellFormed t) where
  pub dependent_within : (x : Bool) (v u : ℕ) → dependent? t x v u ≡ true → u < t.width
  unfolding dependent?
  dependent_within x v u h =
      let r = some_of_true (λ m. eqb m.latch u && asks? x (m.asks v)) t.moves (and_parts (not (eqb u v)) _ h).1 in
      subst (λ z. z < t.width) (eqb-true _ _ (and_parts (eqb r.0.latch u) _ r.2).0) (well.latch_within r.0 r.1)

  pub link_within : (x : Bool) (v a b : ℕ) → link? t x v a b ≡ true → b < t.width
  unfolding link?
  link_within x v a b h =
      elim (or_cases (edge? t a b && not (cut? t x v a b)) _ h)
      [ inl p ↦ edge_ends t well a b (and_parts (edge? t a b) _ p).0 | inr p ↦ edge_starts t well b a (and_parts (edge? t b a) _ p).0 ]

  pub dependent_side : (x : Bool) (v u : ℕ) → dependent? t x v u ≡ true → side? t x v u ≡ true
  unfolding side?
  dependent_side x v u h =
      some_below_from (λ w. dependent? t x v w && (eqb w u || walk? (link? t x v) t.width w u)) t.width u (dependent_within x v u h)
      (and_from (dependent? t x v u) _ h (or_left (eqb u u) _ (eq-eqb u u refl)))

  -- a side is closed under links
  pub side_link : (x : Bool) (v a b : ℕ) → link? t x v a b ≡ true → side? t x v a ≡ true → side? t x v b ≡ true
  unfolding side?
  side_link x v a b l h =
      let test = λ (c w : ℕ). dependent? t x v w && (eqb w c || walk? (link? t x v) t.width w c) in
      let r = some_below_true (test a) t.width h in
      let w = r.0 in
      let p = and_parts (dependent? t x v w) _ r.2 in
      let reached : walk? (link? t x v) t.width w b ≡ true =
      elim (or_cases (eqb w a) _ p.1) [
        | inl e ↦ walk_from (link? t x v) t.width (link_within x v) (one (subst (λ z. link? t x v z b ≡ true) (sym (eqb-true w a e)) l))
        | inr k ↦ walk_from (link? t x v) t.width (link_within x v) (walk_join (walk_true (link? t x v) t.width w a k) (one l))
      ] in
      some_below_from (test b) t.width w r.1 (and_from (dependent? t x v w) _ p.0 (or_right (eqb w b) _ reached))

  -- an edge that does not come from v is never cut
  uncut : (x : Bool) (v a b : ℕ) → a ≢ v → cut? t x v a b ≡ false
  uncut x v a b n = and_left (eqb a v) _ (ne_eqb a v n)

  pub edge_same_side : (x : Bool) (v a b : ℕ) → edge? t a b ≡ true → a ≢ v → side? t x v a ≡ side? t x v b
  unfolding link?
  edge_same_side x v a b h n =
      let free = and_from (edge? t a b) (not (cut? t x v a b)) h (not_from_false _ (uncut x v a b n)) in
      bool_ext _ _ (side_link x v a b (or_left _ _ free)) (side_link x v b a (or_right (edge? t b a && not (cut? t x v b a)) _ free))

  -- along a walk that does not pass v before its end, the side stays the same
  pub walk_same_side : (x : Bool) (v : ℕ) {u w : ℕ} → Walk (Arrow t) u w → u ≢ v → (Walk (Arrow t) u v → ⊥) → side? t x v u ≡ side? t x v w
  walk_same_side x v (one {u = u} {v = w} r) n no_Walk = edge_same_side x v u w r n
  walk_same_side x v (step {u = u} {w = a} {v = w} r p) n no_Walk =
      edge_same_side x v u a r n
      ∙ walk_same_side x v p (λ e. no_Walk (one (subst (λ z. edge? t u z ≡ true) e r))) (λ q. no_Walk (step r q))

pub sides_apart : (t : Task) (v u : ℕ) → splitting? t v ≡ true → u < t.width → side? t false v u ≡ true → side? t true v u ≡ false
unfolding splitting?
sides_apart t v u h l a =
    false_from_ne_true (side? t true v u)
    (λ b. both_ways _ (not-true _ (all_below_true (λ w. not (side? t false v w && side? t true v w)) t.width u h l))
    (and_from (side? t false v u) _ a b))
