-- The theorems, from their parts.
use Rattle.std.proofs.Common.{◌≡◌, true, false, ◌↔◌, ℕ, ◌-◌, ◌^◌, ◌<◌, ◌≤◌, refl, arith}
use Rattle.std.proofs.lemmas.Bool.{true_from_ne_false}
use Rattle.theory.specs.Tasks.{Task, WellFormed, Setting, all_zero, Run, Meets, Way}
use Rattle.theory.specs.Meaning.{InClass}
use Rattle.theory.specs.Bound.{longest}
use Rattle.theory.specs.Route.{route, no_way?}
use Rattle.theory.specs.Theorems.{RouteDoesErrand, NoWayIsRight, RouteIsShort}
use Rattle.theory.proofs.Lengths.{three_pow_le}
use Rattle.theory.proofs.Soundness.{class_acyclic, route_does}
use Rattle.theory.proofs.NoWay.{no_way_sound}
use Rattle.theory.proofs.Bound.{route_bound}
use Rattle.theory.proofs.Meant.{class_is_meant}

pub route_does_errand : RouteDoesErrand
route_does_errand t well class = route_does t well ((class_is_meant t well).1 class)

pub no_way_is_right : NoWayIsRight
no_way_is_right t well class = (
  no_way_sound t well (class_acyclic t ((class_is_meant t well).1 class)),
  λ none. true_from_ne_false (no_way? t) (λ h. none (route t, route_does_errand t well class h)),
)

-- both, of a task in the class
pub judged_right : (t : Task) → WellFormed t → InClass t →
    (no_way? t ≡ false → (e : Setting) × (Run t (route t) all_zero e × Meets t.want e)) × ((no_way? t ≡ true) ↔ (Way t → ⊥))
judged_right t well class = (route_does_errand t well class, no_way_is_right t well class)

longest_fits : (n : ℕ) → n ≤ 32 → longest n < 2 ^ 64
longest_fits n l = let less = three_pow_le (n - 1) 31 (omega arith) in omega arith

pub route_is_short : RouteIsShort
route_is_short = record {
  bound = λ t well class. route_bound t well ((class_is_meant t well).1 class);
  most = refl;
  fits = λ t well class l.
      let short = route_bound t well ((class_is_meant t well).1 class) in
      let small = longest_fits t.width l in
      omega arith;
}
