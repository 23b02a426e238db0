-- Whole runs of the model keep the law.
use Rattle.std.proofs.Common.{◌≡◌, ◌+◌, ◌-◌, List, [], ◌∷◌, map, length, refl, ap}
use Rattle.rules.specs.Rules.{Rules, Setting, RulesWithin}
use Rattle.runs.specs.declared.Call.{Call}
use Rattle.runs.specs.declared.Call.TheVariants.{Aim, Step, Nudge, Stop}
use Rattle.runs.specs.Calls.{Seen, call_of, Turn, idle, under_way, follow}
use Rattle.runs.specs.Model.{Progress, resting, running, Model, after, new, seen_of, seen, last}
use Rattle.runs.specs.Law.{Finds, Throwing, Finishes, InTurn, Refuses, Along, Chained}
use Rattle.runs.specs.Theorems.{RunsKeepTheLaw}
use Rattle.runs.proofs.Turns.{Follows, Kept, shown}
use Rattle.runs.proofs.Resting.{aim_answer, outcome, follows_aim, aim_resting, nudge_resting, step_resting, stop_resting}
use Rattle.runs.proofs.Going.{aim_running, nudge_running, step_running, stop_running, follows_step}

-- the model in this state after a call
abbrev pub left_by : Rules → Setting → Progress → Call → Model
left_by r s p c = after (record { rules = r; setting = s; progress = p }) c

-- one call keeps the law
pub each_call : (r : Rules) → RulesWithin r → (s : Setting) (p : Progress) (turn : Turn) → Follows r s p turn → (c : Call) → Kept r turn (shown r s p c)
each_call r within s resting idle h (Aim named wanted) = aim_resting r within s named wanted
each_call r within s resting idle h Step = step_resting r within s
each_call r within s resting idle h (Nudge k) = nudge_resting r within s k
each_call r within s resting idle h Stop = stop_resting r within s
each_call r within s resting (under_way w start n) h c = absurd h
each_call r within s (running ks i) idle h c = absurd h
each_call r within s (running ks i) (under_way w start n) h (Aim named wanted) = aim_running r s ks i w start n h named wanted
each_call r within s (running ks i) (under_way w start n) h Step = step_running r s ks i w start n h
each_call r within s (running ks i) (under_way w start n) h (Nudge k) = nudge_running r s ks i w start n h k
each_call r within s (running ks i) (under_way w start n) h Stop = stop_running r s ks i w start n h

-- and leaves the model as the answers tell it
pub follows_on : (r : Rules) → RulesWithin r → (s : Setting) (p : Progress) (turn : Turn) → Follows r s p turn → (c : Call) →
    Follows r (left_by r s p c).setting (left_by r s p c).progress (follow turn (shown r s p c))
follows_on r within s resting idle h (Aim named wanted) = follows_aim r within s named wanted (aim_answer r within s named wanted) (outcome r within s named wanted)
follows_on r within s resting idle h Step = tt
follows_on r within s resting idle h (Nudge k) = tt
follows_on r within s resting idle h Stop = tt
follows_on r within s resting (under_way w start n) h c = absurd h
follows_on r within s (running ks i) idle h c = absurd h
follows_on r within s (running ks i) (under_way w start n) h (Aim named wanted) = h
follows_on r within s (running ks i) (under_way w start n) h Step = follows_step r s ks i w start n h (length ks - (i + 1)) refl
follows_on r within s (running ks i) (under_way w start n) h (Nudge k) = h
follows_on r within s (running ks i) (under_way w start n) h Stop = tt

-- what is kept by each call is kept along the run
along : (P : Rules → Turn → Seen → Type 0) → ((r : Rules) (turn : Turn) (x : Seen) → Kept r turn x → P r turn x) →
    (m : Model) → RulesWithin m.rules → (turn : Turn) → Follows m.rules m.setting m.progress turn → (cs : List Call) → Along (P m.rules) turn (seen m cs)
along P of m within turn h [] = tt
along P of m within turn h (c ∷ cs) = (
  of m.rules turn (seen_of m c) (each_call m.rules within m.setting m.progress turn h c),
  along P of (after m c) within (follow turn (seen_of m c)) (follows_on m.rules within m.setting m.progress turn h c) cs,
)

-- nothing happens to the panel between the calls
chained : (m : Model) (cs : List Call) → Chained m.setting (seen m cs) (last m cs).setting
chained m [] = refl
chained m (c ∷ cs) = (refl, chained (after m c) cs)

-- what is seen is of the calls
pub calls_seen : (m : Model) (cs : List Call) → map call_of (seen m cs) ≡ cs
calls_seen m [] = refl
calls_seen m (c ∷ cs) = ap {B = List Call} (λ ds. c ∷ ds) (calls_seen (after m c) cs)

pub runs_keep_the_law : RunsKeepTheLaw
runs_keep_the_law r within s calls = record {
  of_the_calls = calls_seen (new r s) calls;
  law = record {
    chained = chained (new r s) calls;
    finding = along (λ r turn x. Finds r turn x) (λ r turn x k. k.finds) (new r s) within idle tt calls;
    throwing = along (λ r turn x. Throwing r turn x) (λ r turn x k. k.throws) (new r s) within idle tt calls;
    finishing = along (λ r turn x. Finishes r turn x) (λ r turn x k. k.finishes) (new r s) within idle tt calls;
    turns = along (λ r turn x. InTurn turn x) (λ r turn x k. k.in_turn) (new r s) within idle tt calls;
    refusing = along (λ r turn x. Refuses r turn x) (λ r turn x k. k.refuses) (new r s) within idle tt calls;
  };
}
