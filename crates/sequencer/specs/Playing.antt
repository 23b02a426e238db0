-- Whole runs of calls on a new sequencer. Assumes nothing.
--   answer_of x                       the answer that was seen
--   played n m                        how many calls are played: as many as there are, and as there is room for answers
--   WholeRun r s calls answers e      the calls, made one after another on a new sequencer with a panel at s, are answered so, leave the panel at e,
--                                     and keep the law
use Rattle.std.specs.Prelude.{◌≡◌, ℕ, min, List, map}
use Rattle.rules.specs.Rules.{Rules, Setting}
use Rattle.runs.specs.declared.Answer.{Answer}
use Rattle.runs.specs.declared.Call.{Call}
use Rattle.runs.specs.Calls.{Seen, call_of}
use Rattle.runs.specs.Law.{Law}
use Rattle.runs.specs.Model.{new, seen, last}

-- the answer that was seen
abbrev pub answer_of : Seen → Answer
answer_of x = x.answer

-- how many calls are played
abbrev pub played : ℕ → ℕ → ℕ
played calls room = min calls room

-- what was seen is of these calls and has these answers, the settings between are those that each call's own promise gives, and all of it keeps
-- the law: finding, throwing and finishing, with what each refusal means
pub record WholeRun (r : Rules) (s : Setting) (calls : List Call) (answers : List Answer) (e : Setting) : Type 0 where
  pub called : map call_of (seen (new r s) calls) ≡ calls
  pub answered : map answer_of (seen (new r s) calls) ≡ answers
  pub ended : (last (new r s) calls).setting ≡ e
  pub law : Law r s (seen (new r s) calls) e
