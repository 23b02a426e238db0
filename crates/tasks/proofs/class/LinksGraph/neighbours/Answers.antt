use Rattle.tasks.specs.Tasks.{task_of}
use Rattle.tasks.proofs.SidesKept.{linked}
use Rattle.tasks.proofs.class.LinksGraph.neighbours.Goals as goal

pub returns : goal.returns
returns c =
    let g = c.args.self.now in
    linked (task_of g.task.now) g.position g.latch c.args.node c.onward.result c.back.result c.union.result
    c.onward.ensures c.back.ensures c.union.ensures
