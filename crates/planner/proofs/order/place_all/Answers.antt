use Rattle.std.proofs.Common.{arith}
use Rattle.tables.specs.Items.{items}
use Rattle.tasks.specs.Tasks.{task_of}
use Rattle.planner.proofs.Placing.{none_placed, one_more, none_next, all_placed}
use Rattle.planner.proofs.order.place_all.Goals as goal

pub loop-init : goal.loop-init
loop-init c = none_placed (task_of c.args.task.now) _ c.requires

pub returns-in_default : goal.returns-in_default
returns-in_default c = none_next c.loop.invariant (c.in_default.ensures _ c.loop.invariant.members)

pub loop-preserved : goal.loop-preserved
loop-preserved c =
    one_more c.loop.invariant c.with-placed.result c.in-Some.latch (items c.push.new.self) c.args.task.now.narrow c.loop-test.true
    (c.in-Some.ensures _ c.loop.invariant.members) c.with-placed.ensures
    (c.push.ensures.room (omega (arith, c.loop.invariant.count, c.args.task.now.narrow, c.loop-test.true)))

pub returns : goal.returns
returns c = all_placed c.loop.invariant c.loop-test.false
