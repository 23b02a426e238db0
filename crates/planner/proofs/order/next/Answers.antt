use Rattle.std.proofs.Common.{sym, ◌∙◌, arith}
use Rattle.tasks.specs.Tasks.{task_of}
use Rattle.planner.proofs.PlacingNext.{lowest_past, lowest_here, early_not_next, ready_next}
use Rattle.planner.proofs.order.next.Goals as goal

pub next-preserved : goal.next-preserved
next-preserved c vs same =
    lowest_past _ c.next.v (c.next.invariant vs same)
    (early_not_next (task_of c.args.task.now) c.args.placed vs same c.next.v c.loop-p.p c.loop-p-test.true
    (sym (c.predecessors-before.ensures c.loop-p.p) ∙ sym c.if-contains-2.ensures) (sym c.if-not-contains.ensures))

pub returns : goal.returns
returns c vs same =
    lowest_here _ c.next.v c.args.task.now.width (c.next.invariant vs same)
    (ready_next (task_of c.args.task.now) c.args.placed vs same c.next.v (sym c.if-contains.ensures)
    (λ u l a. c.loop-p.invariant u (omega arith) (c.predecessors-before.ensures u ∙ a)))
    c.next-test.true
