use Rattle.std.proofs.Common.{◌≡◌, ℕ, inl, inr, arith}
use Rattle.std.proofs.lemmas.Bool.{cases_lt, false_from_ne_true}
use Rattle.std.proofs.lemmas.Bool.Decides.{nat_tests}
use Rattle.words.specs.Sets.{most_latches, has}
use Rattle.words.proofs.Members.{below_all}
use Rattle.tasks.proofs.NormalFormAsks.{normal_one, ones_named, asks_normal}
use Rattle.tasks.proofs.normal.normal_asks.Goals as goal
use Rattle.tasks.proofs.normal.normal_asks.Goals.{After-from_fn-ones}

-- the latches at 1 in normal form are in the set, and no others
one : (c : After-from_fn-ones) (u : ℕ) → has c.from_fn-ones.result u ≡ normal_one c.args.asked c.args.start u
one c u =
    let e = c.from_fn-ones.ensures u in
    elim (cases_lt u most_latches) [
      | inl l ↦ grind (arith, nat_tests, e)
      | inr g ↦
          let unnamed = false_from_ne_true (has c.args.asked.named u) (λ h. omega (arith, below_all c.args.asked.named.word most_latches (omega arith) (omega arith) u h)) in
          grind (arith, nat_tests, e)
    ]

pub invariant_of-result : goal.invariant_of-result
invariant_of-result c = record { within = ones_named c.args.asked c.args.start c.from_fn-ones.result (one (goal.at.invariant_of-result c).After-from_fn-ones) }

pub returns : goal.returns
returns c = asks_normal c.args.asked c.args.start c.from_fn-ones.result (one (goal.at.returns c).After-from_fn-ones)
