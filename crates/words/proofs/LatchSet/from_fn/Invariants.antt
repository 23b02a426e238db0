use Rattle.std.proofs.Common.{◌≡◌, ℕ}
use Rattle.words.specs.Sets.{has, has_passed}
use Rattle.words.proofs.LatchSet.from_fn.Given as goal

-- the latches so far are tested, and no other is in the set
abbrev pub invariant-loop-latch : goal.invariant-loop-latch
invariant-loop-latch g l = (j : ℕ) → has l.set j ≡ has_passed l.latch (g.T.Test.passing l.test) j
