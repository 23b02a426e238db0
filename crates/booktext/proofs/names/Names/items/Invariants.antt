use Rattle.std.proofs.Common.{length}
use Rattle.booktext.proofs.Wanted.{ReadTo}
use Rattle.booktext.proofs.names.Names.items.Given as goal

-- the items so far are read
abbrev pub invariant-loop-piece : goal.invariant-loop-piece
invariant-loop-piece l = ReadTo l.self l.v (length l.yielded) l.low l.asked.0 l.asked.1.0
