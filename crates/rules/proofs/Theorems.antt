-- The theorems on books as they stand: through normal form, from those on tasks.
use Rattle.std.proofs.Common.{sym, subst, arith}
use lib.ListN.{length-map}
use Rattle.std.proofs.lemmas.Bool.{true_from_ne_false}
use Rattle.theory.specs.Tasks as tasks
use Rattle.theory.specs.Tasks.{Meets}
use Rattle.theory.specs.Route as routes
use Rattle.theory.proofs.Theorems.{route_does_errand, no_way_is_right, route_is_short}
use Rattle.rules.specs.NormalForm.{task, exchange, number_of, route}
use Rattle.rules.specs.Theorems.{NormalFormIsRight, RouteLeads, NoWayIsNone, LengthIsBounded}
use Rattle.rules.proofs.NormalForm.{exchange_start, met_meets, meets_met}
use Rattle.rules.proofs.Leading.{task_well_formed, leads_run, run_leads}

pub normal_form_is_right : NormalFormIsRight
normal_form_is_right r well s fits w within = record {
  well_formed = task_well_formed r well s w within;
  runs = λ ks e h.
      let l = leads_run r well s w within ks s e fits h in
      (l.0, (l.1.0, subst (λ z. tasks.Run (task r s w) l.0 z (exchange s e)) (exchange_start s) l.1.1));
  leads = λ ms g h. run_leads r well s w within ms s g fits (subst (λ z. tasks.Run (task r s w) ms z g) (sym (exchange_start s)) h);
  met = λ e. (met_meets r s w e, meets_met r s w e);
}

pub route_leads : RouteLeads
route_leads r well s fits w within class way =
    let normal = normal_form_is_right r well s fits w within in
    let done = route_does_errand (task r s w) normal.well_formed class way in
    let l = normal.leads (routes.route (task r s w)) done.0 done.1.0 in
    (l.0, (l.1.0, (normal.met l.0).1 (subst (Meets (task r s w).want) (sym l.1.1) done.1.1)))

pub no_way_is_none : NoWayIsNone
no_way_is_none r well s fits w within class =
    let normal = normal_form_is_right r well s fits w within in (
      (λ said way.
          let run = normal.runs way.0 way.1.0 way.1.1.0 in
          (no_way_is_right (task r s w) normal.well_formed class).0 said
          (run.0, (exchange s way.1.0, (run.1.1, (normal.met way.1.0).0 way.1.1.1)))),
      λ none. true_from_ne_false (routes.no_way? (task r s w)) (λ h. none (route r s w, route_leads r well s fits w within class h)),
    )

pub length_is_bounded : LengthIsBounded
length_is_bounded r well s fits w within class =
    let bound = route_is_short.bound (task r s w) (task_well_formed r well s w within) class in
    omega (arith, length-map (routes.route (task r s w)) number_of)
