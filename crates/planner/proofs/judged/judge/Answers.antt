use Rattle.std.proofs.Common.{sym, subst}
use Rattle.theory.specs.declared.Judgement.{Judgement}
use Rattle.planner.specs.Errands.{Says}
use Rattle.planner.proofs.ErrandsJudged.{says_so}
use Rattle.planner.proofs.judged.judge.Goals as goal

pub returns-clause-says : goal.returns-clause-says
returns-clause-says c = subst (λ (j : Judgement). Says j c.args.errand.now) (sym c.judged.ensures) (says_so c.args.errand.now)
