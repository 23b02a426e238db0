use Rattle.std.proofs.Common.{arith}
use Rattle.std.proofs.lemmas.Bool.{le-leb}
use Rattle.words.proofs.Members.{below_word, below_all}
use Rattle.words.proofs.LatchSet.is_below.Goals as goal

pub returns-then-n-ge-MOST_LATCHES : goal.returns-then-n-ge-MOST_LATCHES
returns-then-n-ge-MOST_LATCHES c =
    (λ _. below_all c.args.self.word c.args.n (omega arith) c.if-n-ge-MOST_LATCHES.true, λ _. le-leb 32 c.args.n c.if-n-ge-MOST_LATCHES.true)

pub returns-else-n-ge-MOST_LATCHES : goal.returns-else-n-ge-MOST_LATCHES
returns-else-n-ge-MOST_LATCHES c = below_word c.args.self.word c.args.n
