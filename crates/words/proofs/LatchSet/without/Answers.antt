use Rattle.std.proofs.Common.{arith}
use Rattle.words.proofs.Members.{members_without, members_without_none}
use Rattle.words.proofs.LatchSet.without.Goals as goal

pub returns-then-latch-ge-MOST_LATCHES : goal.returns-then-latch-ge-MOST_LATCHES
returns-then-latch-ge-MOST_LATCHES c =
    λ j. members_without_none c.args.self.word c.args.latch j (omega arith) c.if-latch-ge-MOST_LATCHES.true

pub returns : goal.returns
returns c = λ j. members_without c.args.self.word c.args.latch j (omega arith) c.if-latch-ge-MOST_LATCHES.false
