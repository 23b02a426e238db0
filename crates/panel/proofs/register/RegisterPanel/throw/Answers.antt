use Rattle.std.proofs.Common.{◌∙◌, arith}
use Rattle.words.specs.Sets.{has}
use Rattle.panel.proofs.Rows.{set_row}
use Rattle.panel.proofs.Switched.{put_here, put_other}
use Rattle.panel.proofs.register.RegisterPanel.throw.Goals as goal

pub returns-then-within-clause-panel : goal.returns-then-within-clause-panel
returns-then-within-clause-panel c =
    let p = c.args.self.now in
    set_row p.width.count c.args.latch (has p.raised) (has c.put-self.result) c.args.to
    (λ l. c.put-self.ensures c.args.latch ∙ put_here p.raised c.args.latch c.args.to (omega arith))
    (λ j ne. c.put-self.ensures j ∙ put_other p.raised c.args.latch j c.args.to ne)
