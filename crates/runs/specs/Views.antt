-- What a caller can see of a sequencer between calls. Assumes nothing.
--   running_in? p, running? m     a run is under way, by the progress and of a model
--   done_in p, steps_done m       how many moves of the run are thrown; 0 while resting
--   left_in p, steps_left m       how many moves of the run are left; 0 while resting
--   peeked_in p k, peeked m k     the number of the move at place k of the run's route; absent while resting and past the end
use Rattle.std.specs.Prelude.{ℕ, ◌-◌, Bool, true, false, cond, length, Some, None, Option, nat_lt, slice_index}
use Rattle.runs.specs.Model.{Progress, resting, running, Model}

-- a run is under way
abbrev pub running_in? : Progress → Bool
running_in? resting = false
running_in? (running ks i) = true

-- the same of a model
abbrev pub running? : Model → Bool
running? m = running_in? m.progress

-- how many moves of the run are thrown
abbrev pub done_in : Progress → ℕ
done_in resting = 0
done_in (running ks i) = i

-- the same of a model
abbrev pub steps_done : Model → ℕ
steps_done m = done_in m.progress

-- how many moves of the run are left
abbrev pub left_in : Progress → ℕ
left_in resting = 0
left_in (running ks i) = length ks - i

-- the same of a model
abbrev pub steps_left : Model → ℕ
steps_left m = left_in m.progress

-- the move at place k of the run's route
abbrev pub peeked_in : Progress → ℕ → Option ℕ
peeked_in resting k = None
peeked_in (running ks i) k = cond (nat_lt k (length ks)) (Some (slice_index ks k)) None

-- the same of a model
abbrev pub peeked : Model → ℕ → Option ℕ
peeked m k = peeked_in m.progress k
