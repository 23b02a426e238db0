use Rattle.std.proofs.Common.{◌&&◌, eqb, rules, tests}
use mathlib.Core.Bool.{beq}
use Rattle.tasks.proofs.Chains.{some_move}
use Rattle.tasks.proofs.task.NormalTask.is_thrown.Goals as goal

pub returns : goal.returns
returns c =
    some_move c.args.self.now (λ m. eqb m.latch c.args.latch && beq m.to c.args.to) (cc) (λ x b q k. search (rules, tests)) c.any.ensures.ran
