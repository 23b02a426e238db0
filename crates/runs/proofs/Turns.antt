-- What holds of the model between calls, and what is asked of one call.
use Rattle.std.proofs.Common.{◌≡◌, ℕ, ◌<◌, List, length, get_or, drop}
use Rattle.rules.specs.Rules.{Rules, Errand, Setting, Leads, MetBy}
use Rattle.rules.specs.NormalForm.{route}
use Rattle.runs.specs.declared.Call.{Call}
use Rattle.runs.specs.Calls.{Seen, Turn, idle, under_way}
use Rattle.runs.specs.Model.{Progress, resting, running, seen_of}
use Rattle.runs.specs.Law.{Finds, Throwing, Finishes, InTurn, Refuses}

-- some of the route is left, and the rest leads from the present setting to one that meets the errand
pub record OnTheWay (r : Rules) (s : Setting) (ks : List ℕ) (i : ℕ) (w : Errand) (start : Setting) (granted : ℕ) : Type 0 where
  pub of_route : ks ≡ route r start w
  pub below : (k : ℕ) → k < length ks → get_or ks k 0 < length r.moves
  pub counted : i ≡ granted
  pub more : i < length ks
  pub end : Setting
  pub leads : Leads r (drop i ks) s end
  pub met : MetBy w end

-- the model is as the answers tell it
abbrev pub Follows : Rules → Setting → Progress → Turn → Type 0
Follows r s resting idle = Unit {0}
Follows r s resting (under_way w start n) = ⊥
Follows r s (running ks i) idle = ⊥
Follows r s (running ks i) (under_way w start n) = OnTheWay r s ks i w start n

-- what is asked of one call
pub record Kept (r : Rules) (turn : Turn) (x : Seen) : Type 0 where
  pub finds : Finds r turn x
  pub throws : Throwing r turn x
  pub finishes : Finishes r turn x
  pub in_turn : InTurn turn x
  pub refuses : Refuses r turn x

-- what is seen of a call on a model in this state
abbrev pub shown : Rules → Setting → Progress → Call → Seen
shown r s p c = seen_of (record { rules = r; setting = s; progress = p }) c
