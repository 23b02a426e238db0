-- The theorems about tasks in normal form. Assumes nothing.
--   ClassIsMeant        the test of the class passes exactly when the task is in the class in plain terms
--   RouteDoesErrand     the route of a task in the class, if no way is not said, runs from all-0 to where every latch stands as wanted
--   NoWayIsRight        in the class, no way is said exactly when there is none
--   RouteIsShort        a route of n latches has at most longest n moves, and with up to the most latches its length fits 64 bits
use Rattle.std.specs.Prelude.{◌≡◌, ◌^◌, ◌<◌, ◌≤◌, true, false, ◌↔◌, length}
use Rattle.words.specs.Sets.{most_latches}
use Rattle.theory.specs.Tasks.{Task, WellFormed, Setting, all_zero, Run, Meets, Way}
use Rattle.theory.specs.Class.{in_class?}
use Rattle.theory.specs.Meaning.{InClass}
use Rattle.theory.specs.Route.{route, no_way?}
use Rattle.theory.specs.Bound.{longest}

-- both ways
abbrev pub ClassIsMeant : Type 0
ClassIsMeant = (t : Task) → WellFormed t → (in_class? t ≡ true) ↔ InClass t

-- legal to its end, where the want is met
abbrev pub RouteDoesErrand : Type 0
RouteDoesErrand = (t : Task) → WellFormed t → InClass t → no_way? t ≡ false → (e : Setting) × (Run t (route t) all_zero e × Meets t.want e)

-- both ways
abbrev pub NoWayIsRight : Type 0
NoWayIsRight = (t : Task) → WellFormed t → InClass t → (no_way? t ≡ true) ↔ (Way t → ⊥)

-- the bound, its value for the most latches, and what follows for a machine word
pub record RouteIsShort : Type 0 where
  pub bound : (t : Task) → WellFormed t → InClass t → length (route t) ≤ longest t.width
  pub most : longest most_latches ≡ 1544183490709867
  pub fits : (t : Task) → WellFormed t → InClass t → t.width ≤ most_latches → length (route t) < 2 ^ 64
