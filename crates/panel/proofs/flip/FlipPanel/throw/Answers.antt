use Rattle.std.proofs.Common.{sym, ◌∙◌}
use Rattle.panel.proofs.Masks.{within_flipped, thrown_flipped}
use Rattle.panel.proofs.flip.FlipPanel.throw.Goals as goal

pub returns-clause-panel : goal.returns-clause-panel
returns-clause-panel g c =
    thrown_flipped c.args.self.now.mask (g.P.Panel.setting c.args.self.now.inner) _ c.args.latch c.args.to _ c.throw.ensures.panel
    c.contains-reversed.ensures

pub returns-clause-done : goal.returns-clause-done
returns-clause-done g c = c.throw.ensures.done ∙ sym (within_flipped c.args.self.now.mask _ c.args.latch)
