use Rattle.words.proofs.Members.{members_with}
use Rattle.words.proofs.LatchSet.with.Goals as goal

pub returns : goal.returns
returns c = λ j. members_with c.args.self.word c.args.latch j c.if-latch-ge-MOST_LATCHES.false
