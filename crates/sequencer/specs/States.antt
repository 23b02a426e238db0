-- States of a sequencer. Assumes nothing.
--   more? state n            a run along a route of n moves is not at its end
--   progress_in state ks     how far the run along ks is
--   thrown_in state          how many moves of the run are thrown, if one is under way
--   admitted state call      how many moves of the run are thrown, 0 at rest, if the call is one for this state; else why it is not
use Rattle.std.specs.Prelude.{ℕ, Bool, true, List, nat_lt, Some, None, Option, Ok, Err, Result}
use Rattle.rules.specs.declared.refusal.Refusal.{Refusal}
use Rattle.rules.specs.declared.refusal.Refusal.TheVariants as refusal
use Rattle.runs.specs.declared.Call.{Call}
use Rattle.runs.specs.declared.Call.TheVariants.{Aim, Step, Nudge, Stop}
use Rattle.runs.specs.Model.{Progress, resting, running}
use Rattle.sequencer.specs.declared.machine.state.State.{State}
use Rattle.sequencer.specs.declared.machine.state.State.TheVariants.{Idle, Running}

-- a run that is under way has a move left
abbrev pub more? : State → ℕ → Bool
more? Idle n = true
more? (Running done) n = nat_lt done n

-- the progress of a run along ks
abbrev pub progress_in : State → List ℕ → Progress
progress_in Idle ks = resting
progress_in (Running done) ks = running ks done

-- the moves thrown
abbrev pub thrown_in : State → Option ℕ
thrown_in Idle = None
thrown_in (Running done) = Some done

-- aims and nudges are for a machine at rest, steps and stops for a run
abbrev pub admitted : State → Call → Result ℕ Refusal
admitted Idle (Aim named wanted) = Ok 0
admitted Idle Step = Err refusal.Idle
admitted Idle (Nudge k) = Ok 0
admitted Idle Stop = Err refusal.Idle
admitted (Running done) (Aim named wanted) = Err refusal.Running
admitted (Running done) Step = Ok done
admitted (Running done) (Nudge k) = Err refusal.Running
admitted (Running done) Stop = Ok done
