-- Calls, what is seen of them, and what their answers tell. Assumes nothing.
--   granted? a         the answer a is no refusal
--   found_or o         an aim that is granted or declined, as an answer
--   threw_or o         a step that is granted or declined, as an answer
--   done_or o          a nudge or a stop that is granted or declined, as an answer
--   Seen               a call, the panel's setting before it, its answer, and the setting after it
--   call_of x          the call that was seen
--   Turn               idle, or under way: the errand aimed at, the setting aimed from, and how many steps have been granted since
--   follow_aim w s a   the turn after an aim at w from s that is answered a; then the turn before it
--   follow_step a      the turn after a step that is answered a; then the turn before it
--   follow_stop a      the turn after a stop that is answered a; then the turn before it
--   follow turn x      the turn after what was seen, read off the call and its answer
use Rattle.std.specs.Prelude.{ℕ, zero, suc, ◌+◌, Bool, true, false, Ok, Err, Result}
use Rattle.rules.specs.declared.refusal.Refusal.{Refusal}
use Rattle.rules.specs.Rules.{Errand, Setting}
use Rattle.rules.specs.Naming.{errand_of}
use Rattle.runs.specs.declared.Call.{Call}
use Rattle.runs.specs.declared.Call.TheVariants.{Aim, Step, Nudge, Stop}
use Rattle.runs.specs.declared.Answer.{Answer}
use Rattle.runs.specs.declared.Answer.TheVariants.{Found, Threw, Done, Declined}
use Rattle.runs.specs.declared.Thrown.{Thrown}

-- only a refusal grants nothing
abbrev pub granted? : Answer → Bool
granted? (Found n) = true
granted? (Threw t) = true
granted? Done = true
granted? (Declined why) = false

-- the answer to an aim
abbrev pub found_or : Result ℕ Refusal → Answer
found_or (Ok n) = Found n
found_or (Err why) = Declined why

-- the answer to a step
abbrev pub threw_or : Result Thrown Refusal → Answer
threw_or (Ok t) = Threw t
threw_or (Err why) = Declined why

-- the answer to a nudge or a stop
abbrev pub done_or : Result (Unit {0}) Refusal → Answer
done_or (Ok done) = Done
done_or (Err why) = Declined why

-- what is seen of one call
pub record Seen : Type 0 where
  pub call : Call
  pub before : Setting
  pub answer : Answer
  pub after : Setting

-- the call
abbrev pub call_of : Seen → Call
call_of x = x.call

-- whether a run is under way, as the answers tell it
pub data Turn : Type 0 where
  idle : Turn
  under_way : Errand → Setting → ℕ → Turn

-- a route with a move begins a run
abbrev pub follow_aim : Errand → Setting → Answer → Turn → Turn
follow_aim w s (Found zero) turn = turn
follow_aim w s (Found (suc n)) turn = under_way w s 0
follow_aim w s (Threw t) turn = turn
follow_aim w s Done turn = turn
follow_aim w s (Declined why) turn = turn

-- a step that leaves no move ends the run
abbrev pub follow_step : Answer → Turn → Turn
follow_step a idle = idle
follow_step (Threw t) (under_way w s i) = elim t.left [ zero ↦ idle | suc left ↦ under_way w s (i + 1) ]
follow_step (Found n) (under_way w s i) = under_way w s i
follow_step Done (under_way w s i) = under_way w s i
follow_step (Declined why) (under_way w s i) = under_way w s i

-- a stop that is granted ends the run
abbrev pub follow_stop : Answer → Turn → Turn
follow_stop Done turn = idle
follow_stop (Found n) turn = turn
follow_stop (Threw t) turn = turn
follow_stop (Declined why) turn = turn

-- by the call
abbrev pub follow : Turn → Seen → Turn
follow turn x =
    elim x.call [
      | Aim named wanted ↦ follow_aim (errand_of named wanted) x.before x.answer turn
      | Step ↦ follow_step x.answer turn
      | Nudge k ↦ turn
      | Stop ↦ follow_stop x.answer turn
    ]
