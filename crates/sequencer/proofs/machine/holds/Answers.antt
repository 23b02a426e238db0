use Rattle.std.proofs.Common.{sym, ◌∙◌}
use Rattle.std.proofs.lemmas.Bool.{eqb-true, eq-eqb}
use Rattle.sequencer.proofs.Showing.{holds_met}
use Rattle.sequencer.proofs.machine.holds.Goals as goal

pub returns : goal.returns
returns c =
    holds_met c.args.asked c.args.raised c.intersection.result c.intersection.ensures c.eq.result
    (λ t. eqb-true _ _ (sym c.eq.ensures ∙ t), λ h. c.eq.ensures ∙ eq-eqb _ _ h)
