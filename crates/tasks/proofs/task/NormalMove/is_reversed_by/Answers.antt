use Rattle.std.proofs.Common.{sym, ◌∙◌}
use mathlib.Core.Bool.{beq}
use Rattle.std.proofs.lemmas.Bool.{eqb-true, not-true}
use Rattle.tasks.proofs.KindsAlike.{reverse_when}
use Rattle.tasks.proofs.task.NormalMove.is_reversed_by.Goals as goal
use Rattle.tasks.proofs.task.NormalMove.is_reversed_by.Goals.{then-other-self, else-other-self}

pub returns-then-other-self-2 : goal.returns-then-other-self-2
returns-then-other-self-2 c t a b =
    let m = c.args.self.now in
    let o = c.args.other.now in
    elim c.if-other-self.branch [
      | then-other-self w ↦
          c.eq.ensures
          ∙ reverse_when t m o c.without.result c.without-then-other-self-2.result a b w.if-other-self.true
          (not-true (beq o.to m.to) (sym w.value-is ∙ c.if-other-self-2.true)) c.without.ensures c.without-then-other-self-2.ensures
      | else-other-self w ↦ absurd (w.if-other-self.false (eqb-true _ _ (sym w.value-is ∙ c.if-other-self-2.true)))
    ]
