use Rattle.std.proofs.Common.{ap}
use Rattle.sequencer.specs.Sequencers.{model_by}
use Rattle.sequencer.proofs.WholeRuns.{whole_run}
use Rattle.sequencer.proofs.playing.play.Goals as goal

pub returns-clause-run : goal.returns-clause-run
returns-clause-run g c =
    let setting = g.P.Panel.setting in
    whole_run c.args.book (setting c.args.panel) _ _ (model_by setting c.open-sequencer.result) (model_by setting c.run.new.self)
    (setting c.close.result) c.open-sequencer.ensures.model c.run.ensures.answers c.run.ensures.model (ap setting c.close.ensures)
