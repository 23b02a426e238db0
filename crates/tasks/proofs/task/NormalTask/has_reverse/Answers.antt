use Rattle.std.proofs.Common.{◌≡◌, rules}
use Rattle.words.specs.Sets.{Below}
use Rattle.theory.specs.Class.{reverse?}
use Rattle.theory.specs.Tasks.{Task}
use Rattle.tasks.specs.Tasks.{move_of, task_of}
use Rattle.tasks.proofs.Chains.{asks_below, some_move}
use Rattle.tasks.proofs.task.NormalTask.has_reverse.Goals as goal

pub returns : goal.returns
returns c below =
    let t = c.args.self.now in
    let m = c.args.m.now in
    some_move t (reverse? (task_of t) m.latch (move_of m)) (cc)
    (λ x b q k.
    let told : (t : Task) → Below t.width m.asks.named → Below t.width x.now.asks.named → b ≡ reverse? t m.latch (move_of m) (move_of x.now) = search rules in
    (search rules, λ i. told (task_of t) below (asks_below t x.now i)))
    c.any.ensures.ran
