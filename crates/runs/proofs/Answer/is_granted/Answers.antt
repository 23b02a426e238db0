-- The theorems beside the answer.
use Rattle.runs.proofs.Legality.{tests_are_meant}
use Rattle.runs.proofs.Law.{runs_keep_the_law}
use Rattle.runs.proofs.Answer.is_granted.Goals as goal

pub returns-clause-law : goal.returns-clause-law
returns-clause-law c = runs_keep_the_law

pub returns-clause-tests : goal.returns-clause-tests
returns-clause-tests c = tests_are_meant
