-- Sequencers over panels, as the model has them. Assumes nothing.
--   model_by setting q     the model of the sequencer q, where setting says what its panel means
use Rattle.rules.specs.Rules.{Setting}
use Rattle.runs.specs.Model.{Model}
use Rattle.sequencer.specs.declared.sequencer.Sequencer.{Sequencer}
use Rattle.sequencer.specs.Machines.{model_of}

-- its machine, and the setting of its panel
abbrev pub model_by : {P : Type 0} → (P → Setting) → Sequencer P → Model
model_by setting q = model_of q.machine (setting q.panel)
