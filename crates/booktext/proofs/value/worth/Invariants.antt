use Rattle.std.proofs.Common.{◌≡◌, drop}
use Rattle.format.specs.Bytes.{worth}
use Rattle.booktext.proofs.value.worth.Given as goal

-- what is left gives the worth
abbrev pub invariant-loop-b : goal.invariant-loop-b
invariant-loop-b l = worth l.n (drop l.b-index l.v) ≡ worth 0 l.v
