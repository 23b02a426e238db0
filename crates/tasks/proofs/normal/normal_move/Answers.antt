use Rattle.std.proofs.Common.{sym, ap, ◌∙◌}
use Rattle.rules.specs.NormalForm.{exchanged}
use Rattle.tasks.proofs.NormalFormMoves.{move_normal}
use Rattle.tasks.proofs.normal.normal_move.Goals as goal

pub returns : goal.returns
returns c = (
  sym c.if-is_asked.ensures,
  λ n below within.
      move_normal c.args.m.now c.args.start c.in_normal_form-to.result c.normal_asks.result c.with-asks.result c.requires
      (c.in_normal_form-to.ensures.answer ∙ ap (exchanged c.args.m.now.to) c.contains.ensures)
      c.normal_asks.ensures c.with-asks.ensures n below within c.args.number,
)
