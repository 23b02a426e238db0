use Rattle.std.proofs.Common.{ap₂, ◌∙◌, arith}
use Rattle.std.proofs.lemmas.Grind.{common_steps}
use Rattle.std.proofs.lemmas.List.{map_push, length-take, get_or-take}
use Rattle.runs.specs.declared.Call.{Call}
use Rattle.runs.specs.Model.{Model, after}
use Rattle.runs.proofs.More.{seen_more, last_more}
use Rattle.sequencer.specs.Sequencers.{model_by}
use Rattle.sequencer.proofs.WholeRuns.{last_next}
use Rattle.sequencer.proofs.sequencer.Sequencer.run.Goals as goal

pub loop-i-preserved : goal.loop-i-preserved
loop-i-preserved g c =
    let n = c.min-count.result in
    let calls = c.args.calls.now in
    let i = c.loop-i.i in
    record {
      answered = grind (arith, common_steps, seen_more, last_more, map_push);
      behind = grind (arith, common_steps);
      left =
          c.call.ensures.model
          ∙ ap₂ {A = Model} {B = Call} after c.loop-i.invariant.left (get_or-take n calls i _ (omega (arith, length-take n calls)))
          ∙ last_next (model_by g.P.Panel.setting c.args.self.now) calls i _ (omega (arith, length-take n calls));
    }
