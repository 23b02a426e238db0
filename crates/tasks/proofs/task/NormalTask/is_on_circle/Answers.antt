use Rattle.std.proofs.Common.{◌∙◌}
use Rattle.tasks.specs.Tasks.{task_of}
use Rattle.tasks.proofs.ClassFormed.{well_formed}
use Rattle.tasks.proofs.Circles.{walk_found}
use Rattle.tasks.proofs.task.NormalTask.is_on_circle.Goals as goal

pub returns : goal.returns
returns c =
    let t = c.args.self.now in
    c.contains.ensures ∙ walk_found (task_of t) (well_formed t) c.args.latch c.reached_from.result c.reached_from.ensures c.args.latch
