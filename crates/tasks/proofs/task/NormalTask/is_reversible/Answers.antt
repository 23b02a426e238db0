use Rattle.std.proofs.Common.{◌≡◌, ℕ, Bool, not, ◌||◌, eqb, ◌∙◌, arith, rules, tests}
use Rattle.std.proofs.lemmas.Bool.Decides.{nat_tests}
use Rattle.words.specs.Sets.{Below}
use Rattle.theory.specs.Class.{reverse?, reversible?}
use Rattle.theory.specs.Searches.{some_of}
use Rattle.theory.specs.Tasks.{Move}
use Rattle.tasks.specs.Tasks.{move_of, moves_of, task_of}
use Rattle.tasks.proofs.Chains.{asks_below, each_move}
use Rattle.tasks.proofs.task.NormalTask.is_reversible.Goals as goal

-- where a number is another, either will do
either : (f : ℕ → Bool) (a v : ℕ) → (not (eqb a v) || f a) ≡ (not (eqb a v) || f v)
either f a v = grind (arith, nat_tests)

pub returns : goal.returns
unfolding reversible?
returns c =
    let t = c.args.self.now in
    let has : ℕ → Move → Bool = λ v m. some_of (reverse? (task_of t) v m) (moves_of t) in
    each_move t (λ m. not (eqb m.latch c.args.latch) || has c.args.latch m) (cc)
    (λ x b q k.
    let m = x.now in
    let told : Below t.width m.asks.named → b ≡ (not (eqb m.latch c.args.latch) || has m.latch (move_of m)) = search (rules, tests) in
    (search rules, λ i. told (asks_below t m i) ∙ either (λ v. has v (move_of m)) m.latch c.args.latch))
    c.all.ensures.ran
