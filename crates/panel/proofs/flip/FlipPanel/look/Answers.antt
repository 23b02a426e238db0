use Rattle.std.proofs.Common.{true, false, ◌∙◌}
use Rattle.panel.proofs.Masks.{looked_flipped, looked_flipped_past}
use Rattle.panel.proofs.flip.FlipPanel.look.Goals as goal

pub returns-in_err-position : goal.returns-in_err-position
returns-in_err-position g c = c.from_residual.ensures ∙ looked_flipped_past c.args.self.now.mask _ _ c.in_err-position.ensures

pub returns-then-contains : goal.returns-then-contains
returns-then-contains g c =
    looked_flipped c.args.self.now.mask _ _ _ true c.in_ok-position.ensures c.if-contains.ensures

pub returns-else-contains : goal.returns-else-contains
returns-else-contains g c =
    looked_flipped c.args.self.now.mask _ _ _ false c.in_ok-position.ensures c.if-contains.ensures
