use Rattle.std.proofs.Common.{set, sym, ap, ◌∙◌, arith}
use mathlib.Core.Option.{Option}
use Rattle.std.proofs.lemmas.List.{get_or_default}
use Rattle.book.specs.declared.moves.Move.{Move}
use Rattle.book.specs.Places.{no_move}
use Rattle.rules.specs.Rules.{Rule}
use Rattle.runs.specs.Model.{thrown_by}
use Rattle.sequencer.proofs.Resting.{rule_there}
use Rattle.sequencer.proofs.sequencer.Sequencer.throw.Goals as goal

pub returns-clause-panel : goal.returns-clause-panel
returns-clause-panel g c =
    let b = c.args.self.now.machine.book in
    let k = c.args.number in
    let s = g.P.Panel.setting c.args.self.now.panel in
    c.throw.ensures.panel
    ∙ ap (λ (m : Move). set s m.latch m.to) (get_or_default b.moves k _ no_move (omega (arith, b.room, b.move_places, c.requires)))
    ∙ sym (ap (λ (o : Option Rule). thrown_by o s) (rule_there b k c.requires))
