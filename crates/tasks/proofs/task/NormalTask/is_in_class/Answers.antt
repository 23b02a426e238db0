use Rattle.std.proofs.Common.{◌≡◌, ℕ, Bool, ◌||◌, arith, rules, tests}
use Rattle.theory.specs.Class.{static?, reversible?, splitting?, in_class?}
use Rattle.theory.specs.Searches.{all_below}
use Rattle.theory.specs.Tasks.{Task}
use Rattle.tasks.specs.Tasks.{task_of}
use Rattle.tasks.proofs.Chains.{each_latch}
use Rattle.tasks.proofs.task.NormalTask.is_in_class.Goals as goal
use Rattle.tasks.proofs.task.NormalTask.is_in_class.Goals.{After-all}

-- the latch is static, reversible or splitting
abbrev of_a_kind? : Task → ℕ → Bool
of_a_kind? t v = static? t v || (reversible? t v || splitting? t v)

kinds : (c : After-all) → c.all.result ≡ all_below (of_a_kind? (task_of c.args.self.now)) c.args.self.now.width
kinds c = each_latch c.args.self.now.width (of_a_kind? (task_of c.args.self.now)) (cc) (λ x b q k. search (rules, tests)) c.all.ensures.ran

pub returns-then-all : goal.returns-then-all
unfolding in_class?
returns-then-all c = let e = kinds (goal.at.returns-then-all c).After-all in grind (arith, c.is_acyclic.ensures, c.if-all.true)

pub returns-else-all : goal.returns-else-all
unfolding in_class?
returns-else-all c = let e = kinds (goal.at.returns-else-all c).After-all in grind (arith, c.if-all.false)
