use Rattle.std.proofs.Common.{◌≡◌, map, take, drop}
use Rattle.runs.specs.Model.{seen, last}
use Rattle.sequencer.specs.Sequencers.{model_by}
use Rattle.sequencer.specs.Playing.{answer_of}
use Rattle.sequencer.proofs.sequencer.Sequencer.run.Given as goal

-- the calls so far are answered and have left what the model leaves, and the places behind are as they were
abbrev pub invariant-loop-i : goal.invariant-loop-i
invariant-loop-i g l =
    let m = model_by g.P.Panel.setting l.initial.self in
    record {
      answered : take l.i l.answers ≡ map answer_of (seen m (take l.i l.calls));
      behind : drop l.i l.answers ≡ drop l.i l.initial.answers;
      left : model_by g.P.Panel.setting l.self ≡ last m (take l.i l.calls);
    }
