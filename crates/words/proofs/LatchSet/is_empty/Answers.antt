use Rattle.words.proofs.Members.{zero_word}
use Rattle.words.proofs.LatchSet.is_empty.Goals as goal

pub returns : goal.returns
returns c = zero_word c.args.self.word
