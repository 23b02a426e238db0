-- The theorems about books, starts and errands as they stand. Assumes nothing.
--   Normal r s w           the task of r, s and w is well-formed, has the same lists of legal moves, and is met where w is
--   Fitting P              P holds of every book that exists, every start with its number of latches, and every errand of its latches
--   NormalFormIsRight      normal form says of a book what the book says
--   RouteLeads             in the class, if no way is not said, the route leads from the start to where the errand is met
--   NoWayIsNone            in the class, no way is said exactly when there is none
--   LengthIsBounded        in the class, the route has at most as many moves as the bound for the book's number of latches
use Rattle.std.specs.Prelude.{◌≡◌, ℕ, ◌≤◌, true, false, ◌↔◌, List, map, length}
use Rattle.theory.specs.Tasks as tasks
use Rattle.theory.specs.Tasks.{Move, WellFormed, all_zero, Run, Meets}
use Rattle.theory.specs.Meaning.{InClass}
use Rattle.theory.specs.Route.{no_way?}
use Rattle.theory.specs.Bound.{longest}
use Rattle.rules.specs.Rules.{Rules, Errand, Setting, Leads, MetBy, Way, RulesWithin, ErrandWithin}
use Rattle.rules.specs.NormalForm.{task, exchange, number_of, route}

-- move for move, both ways
pub record Normal (r : Rules) (s : Setting) (w : Errand) : Type 0 where
  pub well_formed : WellFormed (task r s w)
  pub runs : (ks : List ℕ) (e : Setting) → Leads r ks s e → (ms : List Move) × ((map number_of ms ≡ ks) × Run (task r s w) ms all_zero (exchange s e))
  pub leads : (ms : List Move) (g : tasks.Setting) → Run (task r s w) ms all_zero g → (e : Setting) × (Leads r (map number_of ms) s e × (exchange s e ≡ g))
  pub met : (e : Setting) → MetBy w e ↔ Meets (task r s w).want (exchange s e)

-- for every book, start and errand that go together
abbrev pub Fitting : (Rules → Setting → Errand → Type 0) → Type 0
Fitting P = (r : Rules) → RulesWithin r → (s : Setting) → length s ≡ r.latches → (w : Errand) → ErrandWithin r w → P r s w

-- lists of legal moves correspond, and so do met wants
abbrev pub NormalFormIsRight : Type 0
NormalFormIsRight = Fitting Normal

-- in the book's own terms
abbrev pub RouteLeads : Type 0
RouteLeads = Fitting (λ r s w. InClass (task r s w) → no_way? (task r s w) ≡ false → (e : Setting) × (Leads r (route r s w) s e × MetBy w e))

-- both ways
abbrev pub NoWayIsNone : Type 0
NoWayIsNone = Fitting (λ r s w. InClass (task r s w) → (no_way? (task r s w) ≡ true) ↔ (Way r s w → ⊥))

-- the bound, for books
abbrev pub LengthIsBounded : Type 0
LengthIsBounded = Fitting (λ r s w. InClass (task r s w) → length (route r s w) ≤ longest r.latches)
