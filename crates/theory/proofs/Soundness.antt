-- The route of a task in the class is legal to its end, where every latch stands as wanted.
use Rattle.std.proofs.Common.{◌≡◌, ℕ, ◌<◌, ◌≤◌, true, false, not, ◌&&◌, ◌||◌, [], sym, refl, ap, ◌∙◌, subst, inl, inr, arith}
use Rattle.std.proofs.lemmas.Bool.{both_ways, true_from_ne_false, cases_lt, and_parts, and_from, not_from_false}
use Rattle.theory.specs.Searches.{In}
use Rattle.theory.specs.Tasks.{Ask, any, at_zero, at_one, Task, WellFormed, Setting, all_zero, Met, Run, Meets, asks?}
use Rattle.theory.specs.Class.{acyclic?, static?, reversible?, splitting?, in_class?}
use Rattle.theory.specs.Order.{latest_first, order}
use Rattle.theory.specs.Recipes.{kept?}
use Rattle.theory.specs.Route.{kept_table, entries, route, no_way?}
use Rattle.theory.proofs.Searches.{some_below_false, all_below_true}
use Rattle.theory.proofs.Ordered.{Along, Next, behind_along, in_reversed, walk_starts, latest_well_placed, latest_all}
use Rattle.theory.proofs.Tables.{kept_back, kept_reset}
use Rattle.theory.proofs.Recipes.{recipe_does}
use Rattle.theory.proofs.Routes.{set_route_does}

pub class_acyclic : (t : Task) → in_class? t ≡ true → acyclic? t ≡ true
unfolding in_class?
class_acyclic t h = (and_parts (acyclic? t) _ h).0

pub class_each : (t : Task) → in_class? t ≡ true → (v : ℕ) → v < t.width → (static? t v || (reversible? t v || splitting? t v)) ≡ true
unfolding in_class?
class_each t h v l = all_below_true (λ u. static? t u || (reversible? t u || splitting? t u)) t.width v (and_parts (acyclic? t) _ h).1 l

pub order_along : (t : Task) → WellFormed t → acyclic? t ≡ true → Along (Next t) [] (order t)
unfolding order
order_along t well h = behind_along (Next t) (latest_first t) [] (latest_well_placed t well h) tt

pub order_all : (t : Task) → WellFormed t → acyclic? t ≡ true → (v : ℕ) → v < t.width → In (order t) v
unfolding order
order_all t well h v l = in_reversed (latest_first t) [] v (latest_all t well h v l)

unwanted : (t : Task) → WellFormed t → (u : ℕ) → t.width ≤ u → t.want u ≡ any
unwanted t well u l = go (t.want u) refl
  where
    go : (a : Ask) → t.want u ≡ a → t.want u ≡ any
    go any e = e
    go at_zero e = absurd (let k = well.want_within u (λ d. both_ways true (sym (ap (asks? false) e) ∙ ap (asks? false) d) refl) in omega arith)
    go at_one e = absurd (let k = well.want_within u (λ d. both_ways true (sym (ap (asks? true) e) ∙ ap (asks? true) d) refl) in omega arith)

pub route_does : (t : Task) → WellFormed t → in_class? t ≡ true → no_way? t ≡ false → (e : Setting) × (Run t (route t) all_zero e × Meets t.want e)
unfolding route entries kept_table no_way?
route_does t well class way =
    let no_cycle = class_acyclic t class in
    let good = latest_well_placed t well no_cycle in
    let placed = latest_all t well no_cycle in
    let done = set_route_does t well (kept_table t)
    (λ v l. recipe_does t well (kept_reset t (class_each t class)) (latest_first t) good v (placed v l))
    (λ v l a.
    true_from_ne_false (kept? true (kept_table t v))
    (λ k. both_ways _ (some_below_false (λ u. asks? true (t.want u) && not (kept? true (kept_table t u))) t.width v way l)
    (and_from (asks? true (t.want v)) _ a (not_from_false _ k))))
    (λ v l a k. kept_back t (latest_first t) good v (placed v l) a k)
    (order t) [] tt (order_along t well no_cycle) (λ v. true) all_zero
    (λ u i w. refl)
    (λ u i w a p o. absurd (o (order_all t well no_cycle a (walk_starts t well p)) refl)) in (
      done.0,
      (
        done.1.0,
        λ u. elim (cases_lt u t.width) [
          | inl l ↦ done.1.2 u (order_all t well no_cycle u l) refl
          | inr l ↦ subst (λ a. Met a (done.0 u)) (sym (unwanted t well u l)) tt
        ],
      ),
    )
