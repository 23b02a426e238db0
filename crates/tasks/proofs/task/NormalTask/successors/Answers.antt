use Rattle.std.proofs.Common.{◌≡◌, sym, ◌∙◌, arith, rules, tests}
use Rattle.std.proofs.lemmas.Bool.Decides.{nat_tests}
use Rattle.words.specs.Sets.{has}
use Rattle.theory.specs.Class.{edge?}
use Rattle.theory.specs.Tasks.{asked?}
use Rattle.tasks.proofs.Bridge.{asked_is_named}
use Rattle.tasks.proofs.task.NormalTask.successors.Goals as goal

pub returns : goal.returns
unfolding edge?
returns c v =
    let found = c.thrown_where.ensures (λ m. asked? (m.asks c.args.latch))
    (λ m b k. let e : b ≡ has m.asks.named c.args.latch = search (rules, tests) in e ∙ sym (asked_is_named m.asks c.args.latch)) v in
    grind (arith, nat_tests)
