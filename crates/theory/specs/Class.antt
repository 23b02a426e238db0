-- The kinds of latch and the class 3S, as tests that compute. Meaning has each in plain terms. Assumes nothing.
--   edge? t u v          the causal graph: a move throws v and asks something of u, another latch
--   walk? e n u v        a walk of one or more steps of e leads from u to v, with numbers below n in between
--   acyclic? t           no latch reaches itself along edges
--   thrown? t v x        some move throws v to x
--   static? t v          v is never thrown to 1; or it is wanted at 0 and never thrown to 0
--   same_ask? a b        a and b ask the same
--   reverse? t v m m'    m' throws v to the other position than m, with the same conditions on all other latches
--   reversible? t v      each move of v has a reverse
--   dependent? t x v u   a move throws u, another latch, and has the condition that v be at x
--   cut? t x v a b       the edge from a to b is cut for the x side of v
--   link? t x v a b      an edge that is not cut joins a and b, read either way
--   side? t x v u        u is on the x side of v
--   splitting? t v       the two sides of v share no latch
--   in_class? t          acyclic, and every latch static, reversible or splitting
use Rattle.std.specs.Prelude.{ℕ, zero, suc, Bool, true, false, not, ◌&&◌, ◌||◌, ◌==◌}
use Rattle.std.specs.Bool.{beq}
use Rattle.theory.specs.Searches.{some_of, all_of, some_below, all_below}
use Rattle.theory.specs.Tasks.{Ask, any, at_zero, at_one, Move, Task, asked?, asks?}

-- an edge of the causal graph
unfoldable pub edge? : Task → ℕ → ℕ → Bool
edge? t u v = not (u == v) && some_of (λ m. (m.latch == v) && asked? (m.asks u)) t.moves

-- Warshall's recurrence: with one more number allowed in between, a walk avoids it or passes it
unfoldable pub walk? : (ℕ → ℕ → Bool) → ℕ → ℕ → ℕ → Bool
walk? e zero u v = e u v
walk? e (suc n) u v = walk? e n u v || (walk? e n u n && walk? e n n v)

-- no latch reaches itself
unfoldable pub acyclic? : Task → Bool
acyclic? t = all_below (λ u. not (walk? (edge? t) t.width u u)) t.width

-- some move throws v to x
abbrev pub thrown? : Task → ℕ → Bool → Bool
thrown? t v x = some_of (λ m. (m.latch == v) && beq m.to x) t.moves

-- a latch that is not named is not wanted at 0
unfoldable pub static? : Task → ℕ → Bool
static? t v = not (thrown? t v true) || (asks? false (t.want v) && not (thrown? t v false))

-- the same is asked
abbrev pub same_ask? : Ask → Ask → Bool
same_ask? any any = true
same_ask? any at_zero = false
same_ask? any at_one = false
same_ask? at_zero any = false
same_ask? at_zero at_zero = true
same_ask? at_zero at_one = false
same_ask? at_one any = false
same_ask? at_one at_zero = false
same_ask? at_one at_one = true

-- m' throws v to the other position than m, and asks the same of every other latch
abbrev pub reverse? : Task → ℕ → Move → Move → Bool
reverse? t v m m' =
    (m'.latch == v) && beq m'.to (not m.to) && all_below (λ u. (u == v) || same_ask? (m'.asks u) (m.asks u)) t.width

-- each move of v has such a reverse
unfoldable pub reversible? : Task → ℕ → Bool
reversible? t v = all_of (λ m. not (m.latch == v) || some_of (reverse? t v m) t.moves) t.moves

-- u depends on v at x
unfoldable pub dependent? : Task → Bool → ℕ → ℕ → Bool
dependent? t x v u = not (u == v) && some_of (λ m. (m.latch == u) && asks? x (m.asks v)) t.moves

-- for the x side of v the edges from v to latches that depend on v at x alone are cut
abbrev pub cut? : Task → Bool → ℕ → ℕ → ℕ → Bool
cut? t x v a b = a == v && (dependent? t x v b && not (dependent? t (not x) v b))

-- an edge one way or the other that is not cut
unfoldable pub link? : Task → Bool → ℕ → ℕ → ℕ → Bool
link? t x v a b = (edge? t a b && not (cut? t x v a b)) || (edge? t b a && not (cut? t x v b a))

-- u is, or is connected by links to, a latch that depends on v at x
unfoldable pub side? : Task → Bool → ℕ → ℕ → Bool
side? t x v u = some_below (λ w. dependent? t x v w && (w == u || walk? (link? t x v) t.width w u)) t.width

-- no latch is on both sides
unfoldable pub splitting? : Task → ℕ → Bool
splitting? t v = all_below (λ u. not (side? t false v u && side? t true v u)) t.width

-- the class 3S
unfoldable pub in_class? : Task → Bool
in_class? t = acyclic? t && all_below (λ v. static? t v || (reversible? t v || splitting? t v)) t.width
