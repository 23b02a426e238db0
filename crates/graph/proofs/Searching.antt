-- A search under way: the nodes that are seen, and those of them that are done, whose neighbours are seen too.
use Rattle.std.proofs.Common.{◌≡◌, ℕ, ◌-◌, ◌^◌, ◌<◌, true, false, not, ◌⊎◌, sym, ◌∙◌, subst, inl, inr, arith}
use Rattle.std.proofs.lemmas.Bool.{both_ways, cases_Bool, and_parts, and_from, or_cases, or_left, or_right, not-true, not_from_false}
use Rattle.words.specs.declared.LatchSet.{LatchSet}
use Rattle.words.specs.Sets.{most_latches, has, has_with, has_either, has_minus, Below}
use Rattle.words.proofs.Members.{with_has, with_cases, below_small, more_larger}
use Rattle.graph.specs.Walks.{Exactly, Reached}
use Rattle.graph.proofs.Walks.{reached_onward, walk_within}

-- the start is seen, what is seen is reached, no arc leads from what is done to what is not seen, and what is done are latches
pub record Searching (R : ℕ → ℕ → Type 0) (from seen done : LatchSet) : Type 0 where
  pub start : (v : ℕ) → has from v ≡ true → has seen v ≡ true
  pub sound : (v : ℕ) → has seen v ≡ true → Reached R from v
  pub closed : (u v : ℕ) → has done u ≡ true → R u v → has seen v ≡ true
  pub latches : Below most_latches done

-- a node that was seen and not done is done, and its neighbours are seen
pub record Visit (R : ℕ → ℕ → Type 0) (seen done seen' done' : LatchSet) : Type 0 where
  pub node : ℕ
  pub latch : node < most_latches
  pub due : has_minus seen done node ≡ true
  pub out : LatchSet
  pub arcs : Exactly out (R node)
  pub marked : (v : ℕ) → has done' v ≡ has_with done node v
  pub spread : (v : ℕ) → has seen' v ≡ has_either seen out v

module _ {R : ℕ → ℕ → Type 0} {from seen done : LatchSet} (search : Searching R from seen done) where
  -- once all that is seen is done, it is what is reached
  pub ended : ((v : ℕ) → has_minus seen done v ≡ false) → Exactly seen (Reached R from)
  ended none v = (search.sound v, reached_seen)
    where
      all_done : (u : ℕ) → has seen u ≡ true → has done u ≡ true
      all_done u h =
          elim (cases_Bool (has done u)) [
            | inl d ↦ d
            | inr n ↦ absurd (both_ways (has_minus seen done u) (none u) (and_from (has seen u) (not (has done u)) h (not_from_false (has done u) n)))
          ]

      reached_seen : Reached R from v → has seen v ≡ true
      reached_seen (inl h) = search.start v h
      reached_seen (inr (u, (h, k))) = walk_within seen (λ a b s. search.closed a b (all_done a s)) k (search.start u h)

  module _ {seen' done' : LatchSet} (visit : Visit R seen done seen' done') where
    -- the node was seen, and not done
    was_due : (has seen visit.node ≡ true) × (not (has done visit.node) ≡ true)
    was_due = and_parts (has seen visit.node) (not (has done visit.node)) visit.due

    -- what is done was done before, or is the node
    done_cases : (u : ℕ) → has done' u ≡ true → (has done u ≡ true) ⊎ (u ≡ visit.node)
    done_cases u h = with_cases done visit.node u (sym (visit.marked u) ∙ h)

    -- the measure falls: with one node more, what is done is a larger word, and it has 32 bits
    pub nearer : 2 ^ 32 - done'.word < 2 ^ 32 - done.word
    nearer =
        omega (
          arith,
          below_small done search.latches,
          more_larger done done' visit.node
              (λ v h. visit.marked v ∙ or_left (has done v) _ h)
              (not-true (has done visit.node) was_due.1)
              (visit.marked visit.node ∙ with_has done visit.node visit.latch),
        )

    -- after a visit the search goes on
    pub visited : Searching R from seen' done'
    visited = record {
      start = λ v h. kept v (search.start v h);
      sound = λ v h. reached v (or_cases (has seen v) (has visit.out v) (sym (visit.spread v) ∙ h));
      closed = λ u v h a. followed u v a (done_cases u h);
      latches = λ v h. latch v (done_cases v h);
    }
      where
        kept : (v : ℕ) → has seen v ≡ true → has seen' v ≡ true
        kept v h = visit.spread v ∙ or_left (has seen v) (has visit.out v) h

        reached : (v : ℕ) → (has seen v ≡ true) ⊎ (has visit.out v ≡ true) → Reached R from v
        reached v (inl h) = search.sound v h
        reached v (inr h) = reached_onward from visit.node v (search.sound visit.node was_due.0) ((visit.arcs v).0 h)

        followed : (u v : ℕ) → R u v → (has done u ≡ true) ⊎ (u ≡ visit.node) → has seen' v ≡ true
        followed u v a (inl h) = kept v (search.closed u v h a)
        followed u v a (inr e) =
            visit.spread v ∙ or_right (has seen v) (has visit.out v) ((visit.arcs v).1 (subst (λ (x : ℕ). R x v) e a))

        latch : (v : ℕ) → (has done v ≡ true) ⊎ (v ≡ visit.node) → v < most_latches
        latch v (inl h) = search.latches v h
        latch v (inr e) = omega (arith, visit.latch)
