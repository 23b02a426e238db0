use Rattle.std.proofs.Common.{◌≡◌, true, get_or, refl, sym, ap, ◌∙◌, arith}
use Rattle.std.proofs.lemmas.List.{get_or_default}
use Rattle.book.specs.declared.moves.Move.{Move}
use Rattle.book.specs.Places.{no_move, move_at}
use Rattle.rules.specs.Rules.{Setting}
use Rattle.runs.specs.declared.Call.TheVariants.{Nudge}
use Rattle.runs.specs.Deciding.{legal?, nudged}
use Rattle.runs.specs.Model.{answered_resting}
use Rattle.tasks.specs.Asks.{rule_of, rules_of}
use Rattle.sequencer.specs.Machines.{Shows}
use Rattle.sequencer.proofs.Resting.{nudge_rests, rests, nudge_answer}
use Rattle.sequencer.proofs.machine.kept.Machine.nudge.Goals as goal
use Rattle.sequencer.proofs.machine.kept.Machine.nudge.Goals.{After-is_legal}

-- the answer is that of the test
tested : (c : After-is_legal) (s : Setting) → Shows c.args.shown s →
    answered_resting (rules_of c.args.self.now.book) s (Nudge c.args.number) ≡ nudged true true c.is_legal.result
tested c s w =
    let b = c.args.self.now.book in
    let k = c.args.number in
    let same : get_or b.moves k c.index-self-number.result ≡ move_at b.moves k =
    get_or_default b.moves k c.index-self-number.result no_move (omega (arith, b.room, b.move_places, c.if-number-self.false)) in
    let legal = c.is_legal.ensures (rules_of b) s w.raised (rw same (b.asks k c.if-number-self.false)) in
    nudge_answer b c.args.shown s w c.if-shown-self.false k c.if-number-self.false
    ∙ ap (nudged true true) (sym (legal ∙ ap (λ (m : Move). legal? (rules_of b) s (rule_of m)) same))

pub returns-then-not-is_legal-clause-does : goal.returns-then-not-is_legal-clause-does
returns-then-not-is_legal-clause-does c s w =
    let m = c.args.self.now in
    let idle = nudge_rests m.state _ _ c.in_ok-admit.ensures in
    rests m m idle s _ _
    (tested (goal.at.returns-then-not-is_legal-clause-does c).After-is_legal s w ∙ ap (nudged true true) c.if-not-is_legal.true) (rw idle refl)

pub returns-clause-does : goal.returns-clause-does
returns-clause-does c s w =
    let m = c.args.self.now in
    let idle = nudge_rests m.state _ _ c.in_ok-admit.ensures in
    rests m m idle s _ _ (tested (goal.at.returns-clause-does c).After-is_legal s w ∙ ap (nudged true true) c.if-not-is_legal.false) (rw idle refl)
