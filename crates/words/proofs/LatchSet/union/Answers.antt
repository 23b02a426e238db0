use Rattle.words.proofs.Members.{members_either}
use Rattle.words.proofs.LatchSet.union.Goals as goal

pub returns : goal.returns
returns c = λ j. members_either c.args.self.word c.args.other.word j
