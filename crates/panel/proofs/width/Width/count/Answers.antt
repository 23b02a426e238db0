use Rattle.std.proofs.Common.{sym}
use Rattle.panel.specs.Lengths.{length_row}
use Rattle.panel.proofs.width.Width.count.Goals as goal

pub returns : goal.returns
returns c = λ f. sym (length_row c.args.self.count f)
