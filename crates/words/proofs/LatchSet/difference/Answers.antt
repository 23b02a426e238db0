use Rattle.std.proofs.Common.{arith}
use Rattle.words.proofs.Members.{members_minus}
use Rattle.words.proofs.LatchSet.difference.Goals as goal

pub returns : goal.returns
returns c = λ j. members_minus c.args.self.word c.args.other.word j (omega arith) (omega arith)
