use Rattle.std.proofs.Common.{sym, ◌∙◌}
use Rattle.panel.specs.Lengths.{length_flipped}
use Rattle.panel.proofs.flip.FlipPanel.width.Goals as goal

pub returns : goal.returns
returns g c = c.width.ensures ∙ sym (length_flipped c.args.self.now.mask _)
