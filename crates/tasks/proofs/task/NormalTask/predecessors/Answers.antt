use Rattle.std.proofs.Common.{◌&&◌, eqb, sym, ap, arith, rules, tests}
use Rattle.words.specs.Sets.{has}
use Rattle.theory.specs.Class.{edge?}
use Rattle.theory.specs.Tasks.{asked?}
use Rattle.tasks.proofs.Chains.{gathered}
use Rattle.tasks.proofs.Bridge.{asked_is_named}
use Rattle.tasks.proofs.task.NormalTask.predecessors.Goals as goal

pub returns : goal.returns
unfolding edge?
returns c u =
    let t = c.args.self.now in
    let h = gathered t (λ m u. eqb m.latch c.args.latch && has m.asks.named u) (λ u m. eqb m.latch c.args.latch && asked? (m.asks u))
    (λ u m i. ap (λ b. eqb m.latch c.args.latch && b) (sym (asked_is_named m.asks u))) (cc) (λ a x b q k. search (rules, tests)) c.fold.ensures.ran u in
    grind (arith, c.without.ensures u, h)
