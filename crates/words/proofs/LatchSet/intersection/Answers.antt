use Rattle.words.proofs.Members.{members_both}
use Rattle.words.proofs.LatchSet.intersection.Goals as goal

pub returns : goal.returns
returns c = λ j. members_both c.args.self.word c.args.other.word j
