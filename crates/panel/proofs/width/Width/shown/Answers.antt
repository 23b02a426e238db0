use Rattle.std.proofs.Common.{false, ap, ◌∙◌}
use Rattle.std.specs.Bool.{then_some}
use Rattle.panel.specs.Settings.{digit}
use Rattle.panel.proofs.Rows.{read_row}
use Rattle.panel.proofs.width.Width.shown.Goals as goal

pub returns : goal.returns
returns c =
    λ f e.
    c.then_some.ensures ∙ ap (then_some c.has.result) (c.from.ensures ∙ ap digit e)
    ∙ read_row c.args.self.count f digit c.args.latch false c.has.result c.has.ensures.below
