use Rattle.std.proofs.Common.{sym, ◌∙◌}
use Rattle.std.proofs.lemmas.Bool.{ltb-true}
use Rattle.format.proofs.Answered.{has_one_text}
use Rattle.booktext.proofs.whole.has_text.Goals as goal

pub returns-clause-text : goal.returns-clause-text
returns-clause-text c = λ h. has_one_text c.args.book.now (ltb-true 0 c.args.book.now.latches (sym c.has_latch.ensures ∙ h))
