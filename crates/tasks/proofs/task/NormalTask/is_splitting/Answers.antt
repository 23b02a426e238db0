use Rattle.tasks.specs.Tasks.{task_of}
use Rattle.tasks.proofs.ClassFormed.{well_formed}
use Rattle.tasks.proofs.SidesKept.{sides_split}
use Rattle.tasks.proofs.task.NormalTask.is_splitting.Goals as goal

pub returns : goal.returns
returns c =
    let t = c.args.self.now in
    sides_split (task_of t) (well_formed t) c.args.latch c.side-zero.result c.side.result c.intersection.result
    c.side-zero.ensures c.side.ensures c.intersection.ensures c.is_empty.result c.is_empty.ensures
