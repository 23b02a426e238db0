use Rattle.std.proofs.Common.{◌≡◌, ◌-◌, [], length}
use Rattle.format.specs.Reading.{latches}
use Rattle.booktext.proofs.lines.LineReader.latch_lines.Given as goal

-- what is left, behind the names so far, gives all
abbrev pub invariant-loop-i : goal.invariant-loop-i
invariant-loop-i l = (latches (l.n - l._i) l.names l.self ≡ latches l.n [] l.initial.self) × (length l.names ≡ l._i)
