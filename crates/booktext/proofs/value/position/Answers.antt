use Rattle.std.proofs.Common.{◌∙◌, codes, arith}
use Rattle.std.proofs.lemmas.Bool.{cond-false}
use Rattle.format.proofs.Comparing.{other_length}
use Rattle.booktext.proofs.value.position.Goals as goal

pub returns-in_default-3 : goal.returns-in_default-3
returns-in_default-3 c =
    let v = c.args.v.now in
    cond-false _ _ _ (other_length v (codes "0") (λ e. omega arith)) ∙ cond-false _ _ _ (other_length v (codes "1") (λ e. omega arith))
