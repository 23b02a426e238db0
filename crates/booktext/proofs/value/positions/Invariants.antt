use Rattle.std.proofs.Common.{◌≡◌, [], drop}
use Rattle.words.specs.Sets.{Below}
use Rattle.format.specs.Said.{positions_of}
use Rattle.format.specs.Values.{positions}
use Rattle.booktext.proofs.value.positions.Given as goal

-- what is left, behind the positions so far, gives all
abbrev pub invariant-loop-i : goal.invariant-loop-i
invariant-loop-i l = (positions l.n (positions_of l.i l.ones) (drop l.i l.v) ≡ positions l.n [] l.v) × Below l.i l.ones
