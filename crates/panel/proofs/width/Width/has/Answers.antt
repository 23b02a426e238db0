use Rattle.std.proofs.Common.{sym}
use Rattle.panel.proofs.Rows.{within_row}
use Rattle.panel.proofs.width.Width.has.Goals as goal

pub returns-clause-rows : goal.returns-clause-rows
returns-clause-rows c = λ f. sym (within_row c.args.self.count f c.args.latch)
