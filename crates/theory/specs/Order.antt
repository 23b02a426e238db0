-- The order of latches, a topological order of the causal graph. Assumes nothing.
--   next? t placed v     v is not placed, and each of its predecessors is
--   placing t n placed   up to n more latches placed, each time the lowest that can be
--   latest_first t       all latches, the one placed last first
--   order t              all latches in order
use Rattle.std.specs.Prelude.{ℕ, zero, suc, Bool, not, ◌&&◌, ◌||◌, List, [], ◌∷◌, reverse}
use Rattle.std.proofs.Math.Option.{none, some}
use Rattle.theory.specs.Searches.{has, all_below, lowest}
use Rattle.theory.specs.Tasks.{Task}
use Rattle.theory.specs.Class.{edge?}

-- v can be placed next
abbrev pub next? : Task → List ℕ → ℕ → Bool
next? t placed v = not (has placed v) && all_below (λ u. not (edge? t u v) || has placed u) t.width

-- the list has the latch placed last first
unfoldable pub placing : Task → ℕ → List ℕ → List ℕ
placing t zero placed = placed
placing t (suc n) placed = elim (lowest (next? t placed) t.width) [ none ↦ placed | some v ↦ placing t n (v ∷ placed) ]

-- all latches, placed one by one
unfoldable pub latest_first : Task → List ℕ
latest_first t = placing t t.width []

-- the order
unfoldable pub order : Task → List ℕ
order t = reverse (latest_first t)
