use Rattle.std.proofs.Common.{sym, ◌∙◌, arith}
use Rattle.std.proofs.lemmas.Bool.{le-ltb}
use Rattle.words.proofs.Members.{none_past}
use Rattle.words.proofs.LatchSet.contains.Goals as goal

pub returns-else-latch-lt-MOST_LATCHES : goal.returns-else-latch-lt-MOST_LATCHES
returns-else-latch-lt-MOST_LATCHES c =
    le-ltb c.args.latch 32 c.if-latch-lt-MOST_LATCHES.false
    ∙ sym (none_past c.args.self.word c.args.latch (omega arith) c.if-latch-lt-MOST_LATCHES.false)
