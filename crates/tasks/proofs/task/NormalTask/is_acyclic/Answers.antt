use Rattle.std.proofs.Common.{not, rules, tests}
use Rattle.theory.specs.Class.{edge?, walk?, acyclic?}
use Rattle.tasks.specs.Tasks.{task_of}
use Rattle.tasks.proofs.Chains.{each_latch}
use Rattle.tasks.proofs.task.NormalTask.is_acyclic.Goals as goal

pub returns : goal.returns
unfolding acyclic?
returns c =
    let t = c.args.self.now in
    each_latch t.width (λ u. not (walk? (edge? (task_of t)) t.width u u)) (cc) (λ x b q k. search (rules, tests)) c.all.ensures.ran
