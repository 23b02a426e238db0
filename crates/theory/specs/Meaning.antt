-- The kinds of latch and the class 3S in plain terms: relations, not tests. Class has each as a test. Assumes nothing.
--   Throws t v m        m is a move of t that throws v
--   Edge t u v          the causal graph: a move throws v and asks something of u, another latch
--   Acyclic t           no latch reaches itself along edges
--   Static t v          v is never thrown to 1; or it is wanted at 0 and never thrown to 0
--   Reversible t v      each move of v has one to the other position with the same conditions on all other latches
--   Dependent t x v u   a move throws u, another latch, and has the condition that v be at x
--   Uncut t x v a b     an edge from a to b that is not cut for the x side of v
--   Link t x v a b      such an edge joins a and b, read either way
--   Connected t x v a b a is b, or links lead from a to b
--   Side t x v u        u is connected to a latch that depends on v at x
--   Splitting t v       no latch is on both sides of v
--   InClass t           acyclic, and every latch static, reversible or splitting
use Rattle.std.specs.Prelude.{◌≡◌, ℕ, ◌<◌, Bool, true, false, not, ◌≢◌, ◌⊎◌}
use Rattle.graph.specs.Walks.{Walk}
use Rattle.theory.specs.Searches.{In}
use Rattle.theory.specs.Tasks.{any, at_zero, Move, Task, ask_for}

-- a move of v
abbrev pub Throws : Task → ℕ → Move → Type 0
Throws t v m = In t.moves m × (m.latch ≡ v)

-- an edge of the causal graph
abbrev pub Edge : Task → ℕ → ℕ → Type 0
Edge t u v = (u ≢ v) × ((m : Move) × (Throws t v m × (m.asks u ≢ any)))

-- no latch reaches itself
abbrev pub Acyclic : Task → Type 0
Acyclic t = (u : ℕ) → Walk (Edge t) u u → ⊥

-- no move throws it to 1; or it is wanted at 0 and no move throws it to 0
abbrev pub Static : Task → ℕ → Type 0
Static t v =
    ((m : Move) → Throws t v m → m.to ≢ true) ⊎ ((t.want v ≡ at_zero) × ((m : Move) → Throws t v m → m.to ≢ false))

-- each move of v has a reverse
abbrev pub Reversible : Task → ℕ → Type 0
Reversible t v =
    (m : Move) → Throws t v m →
    (m' : Move) × (Throws t v m' × (m'.to ≡ not m.to) × ((u : ℕ) → u ≢ v → m'.asks u ≡ m.asks u))

-- u depends on v at x
abbrev pub Dependent : Task → Bool → ℕ → ℕ → Type 0
Dependent t x v u = (u ≢ v) × ((m : Move) × (Throws t u m × (m.asks v ≡ ask_for x)))

-- an edge that is not one from v to a latch that depends on v at x alone
abbrev pub Uncut : Task → Bool → ℕ → ℕ → ℕ → Type 0
Uncut t x v a b = Edge t a b × ((a ≡ v) × Dependent t x v b × (Dependent t (not x) v b → ⊥) → ⊥)

-- such an edge, one way or the other
abbrev pub Link : Task → Bool → ℕ → ℕ → ℕ → Type 0
Link t x v a b = Uncut t x v a b ⊎ Uncut t x v b a

-- one latch, or two that links lead between
abbrev pub Connected : Task → Bool → ℕ → ℕ → ℕ → Type 0
Connected t x v a b = (a ≡ b) ⊎ Walk (Link t x v) a b

-- the x side of v
abbrev pub Side : Task → Bool → ℕ → ℕ → Type 0
Side t x v u = (w : ℕ) × (Dependent t x v w × Connected t x v w u)

-- the sides share no latch
abbrev pub Splitting : Task → ℕ → Type 0
Splitting t v = (u : ℕ) → Side t false v u → Side t true v u → ⊥

-- the class 3S
abbrev pub InClass : Task → Type 0
InClass t = Acyclic t × ((v : ℕ) → v < t.width → Static t v ⊎ (Reversible t v ⊎ Splitting t v))
