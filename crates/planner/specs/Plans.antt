-- What planning an errand comes to. Assumes nothing.
--   errand_task r s named wanted      the errand of two sets in normal form
--   refusal names class none          why there is no route, if there is none: whether the sets name aright, the task is in the class, no way is said
--   Planned r s named wanted o        o is the refusal of these tests, or the rules' route
--   LeadsThere r s named wanted p     the errand names aright and is in the class, and the route p leads to where it is met
--   Says r s named wanted o           what o says, of the book's own moves, from the start as it stands
use Rattle.std.specs.Prelude.{◌≡◌, Bool, true, false, Ok, Err, Result}
use Rattle.std.proofs.Math.Option.{Option, none, some}
use Rattle.words.specs.declared.LatchSet.{LatchSet}
use Rattle.theory.specs.Class.{in_class?}
use Rattle.theory.specs.Meaning.{InClass}
use Rattle.theory.specs.Route.{no_way?}
use Rattle.theory.specs.Tasks.{Task}
use Rattle.rules.specs.declared.refusal.Refusal.{Refusal}
use Rattle.rules.specs.declared.refusal.Refusal.TheVariants.{Misfit, Misnamed, Outside, NoWay, Running, Idle, NoSuchMove, Illegal}
use Rattle.rules.specs.Naming.{errand_of, Names, names?}
use Rattle.rules.specs.NormalForm.{task, route}
use Rattle.rules.specs.Rules.{Rules, Setting, Leads, MetBy, Way}
use Rattle.planner.specs.declared.route.tabled.Route.{Route}
use Rattle.planner.specs.Routes.{moves_of}

-- the errand in normal form
abbrev pub errand_task : Rules → Setting → LatchSet → LatchSet → Task
errand_task r s named wanted = task r s (errand_of named wanted)

-- names first, then the class, then the way
abbrev pub refusal : Bool → Bool → Bool → Option Refusal
refusal false class lacks = some Misnamed
refusal true false lacks = some Outside
refusal true true true = some NoWay
refusal true true false = none

-- equal to the definitions
abbrev pub Planned : Rules → Setting → LatchSet → LatchSet → Result Route Refusal → Type 0
Planned r s named wanted (Ok p) =
    (refusal (names? r named wanted) (in_class? (errand_task r s named wanted)) (no_way? (errand_task r s named wanted)) ≡ none)
    × (moves_of p ≡ route r s (errand_of named wanted))
Planned r s named wanted (Err e) =
    refusal (names? r named wanted) (in_class? (errand_task r s named wanted)) (no_way? (errand_task r s named wanted)) ≡ some e

-- a list of legal moves from the start to where the errand is met
pub record LeadsThere (r : Rules) (s : Setting) (named wanted : LatchSet) (p : Route) : Type 0 where
  pub names : Names r named wanted
  pub in_class : InClass (errand_task r s named wanted)
  pub end : Setting
  pub leads : Leads r (moves_of p) s end
  pub met : MetBy (errand_of named wanted) end

-- each answer in the book's own terms
abbrev pub Says : Rules → Setting → LatchSet → LatchSet → Result Route Refusal → Type 0
Says r s named wanted (Ok p) = LeadsThere r s named wanted p
Says r s named wanted (Err Misnamed) = Names r named wanted → ⊥
Says r s named wanted (Err Outside) = Names r named wanted × (InClass (errand_task r s named wanted) → ⊥)
Says r s named wanted (Err NoWay) = Names r named wanted × (InClass (errand_task r s named wanted) × (Way r s (errand_of named wanted) → ⊥))
Says r s named wanted (Err Misfit) = ⊥
Says r s named wanted (Err Running) = ⊥
Says r s named wanted (Err Idle) = ⊥
Says r s named wanted (Err NoSuchMove) = ⊥
Says r s named wanted (Err Illegal) = ⊥
