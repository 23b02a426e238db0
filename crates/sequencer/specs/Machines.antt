-- The machine inside a sequencer, as the model has it. Assumes nothing.
--   progress_of m                   how far its run is
--   model_of m s                    the machine with a panel at the setting s
--   Shows shown s                   a panel at s shows this
--   Does s call m m' answer         with a panel at s the machine m answers as the model does, and becomes m', as the model does
use Rattle.std.specs.Prelude.{◌≡◌, ℕ, false, length, slice_index_or}
use Rattle.words.specs.Sets.{has}
use Rattle.rules.specs.Rules.{Setting}
use Rattle.tasks.specs.Asks.{rules_of}
use Rattle.planner.specs.Routes.{moves_of}
use Rattle.runs.specs.declared.Call.{Call}
use Rattle.runs.specs.declared.Answer.{Answer}
use Rattle.runs.specs.Model.{Progress, Model, answered, after}
use Rattle.sequencer.specs.declared.machine.kept.Machine.{Machine}
use Rattle.sequencer.specs.declared.machine.shown.Shown.{Shown}
use Rattle.sequencer.specs.States.{progress_in}

-- how far the run is
abbrev pub progress_of : Machine → Progress
progress_of m = progress_in m.state (moves_of m.route)

-- the model of a sequencer: its machine, and the setting of its panel
abbrev pub model_of : Machine → Setting → Model
model_of m s = record { rules = rules_of m.book; setting = s; progress = progress_of m }

-- what a panel at this setting shows
pub record Shows (shown : Shown) (s : Setting) : Type 0 where
  pub wide : shown.width ≡ length s
  pub raised : (j : ℕ) → has shown.raised j ≡ slice_index_or s j false

-- what a call does to the machine, with a panel at this setting
pub record Does (s : Setting) (call : Call) (m m' : Machine) (answer : Answer) : Type 0 where
  pub answered_so : answer ≡ answered (model_of m s) call
  pub goes_on : progress_of m' ≡ (after (model_of m s) call).progress
