-- Walks in graphs whose nodes are latches. Assumes nothing.
-- A relation R is the arcs of a graph: R u v says that an arc leads from u to v.
--   Exactly s P     the members of s are exactly the nodes of which P holds
--   Walk R u v      one or more arcs lead from u to v
--   Reached R s v   v is in s, or a walk leads to v from a node of s
use Rattle.std.specs.Prelude.{◌≡◌, ℕ, true, ◌⊎◌, Decides}
use Rattle.words.specs.declared.LatchSet.{LatchSet}
use Rattle.words.specs.Sets.{has}

-- a node is in s exactly when P holds of it
abbrev pub Exactly : LatchSet → (ℕ → Type 0) → Type 0
Exactly s P = (v : ℕ) → Decides (has s v) (P v)

-- one or more arcs lead from the first node to the second
pub data Walk (R : ℕ → ℕ → Type 0) : ℕ → ℕ → Type 0 where
  one : {u v : ℕ} → R u v → Walk R u v
  step : {u w v : ℕ} → R u w → Walk R w v → Walk R u v

-- v is in s, or a walk leads to v from a node of s
abbrev pub Reached : (ℕ → ℕ → Type 0) → LatchSet → ℕ → Type 0
Reached R s v = (has s v ≡ true) ⊎ ((u : ℕ) × ((has s u ≡ true) × Walk R u v))
