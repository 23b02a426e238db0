use Rattle.std.proofs.Common.{◌≡◌, ℕ, false, get_or, take}
use Rattle.words.specs.Sets.{has}
use Rattle.panel.proofs.scan.raised.Given as goal

abbrev pub invariant-loop-latch : goal.invariant-loop-latch
invariant-loop-latch g l = (j : ℕ) → has l.latches j ≡ get_or (take l.latch (g.P.Panel.setting l.panel)) j false
