-- No way, as the sets of the table tell it, and what each answer of the planner says.
use Rattle.std.proofs.Common.{◌≡◌, ℕ, ◌<◌, Bool, true, false, not, ◌&&◌, ◌↔◌, List, length, Ok, Err, Decides, Result, sym, refl, ap, ◌∙◌, subst, inl, inr}
use mathlib.Core.Option.{none, some}
use Rattle.std.proofs.lemmas.Bool.{cases_Bool, both_ways, not_from_true, not_from_false}
use Rattle.words.specs.declared.LatchSet.{LatchSet}
use Rattle.words.specs.Sets.{has, Empty}
use Rattle.theory.specs.Class.{in_class?}
use Rattle.theory.specs.Meaning.{InClass}
use Rattle.theory.specs.Recipes.{kept?}
use Rattle.theory.specs.Route.{kept_table, no_way?}
use Rattle.theory.specs.Tasks.{asks?}
use Rattle.theory.proofs.Meant.{class_is_meant}
use Rattle.theory.proofs.Searches.{some_below_true, some_below_from, none≢some}
use Rattle.rules.specs.declared.refusal.Refusal.{Refusal}
use Rattle.rules.specs.declared.refusal.Refusal.TheVariants.{Misnamed, Outside, NoWay}
use Rattle.rules.specs.Naming.{errand_of, Names, names?}
use Rattle.rules.specs.NormalForm.{route}
use Rattle.rules.specs.Rules.{Rules, Setting, Leads, RulesWithin}
use Rattle.rules.proofs.Naming.{names_meant, errand_within}
use Rattle.rules.proofs.Theorems.{normal_form_is_right, route_leads, no_way_is_none}
use Rattle.tasks.specs.declared.task.NormalTask.{NormalTask}
use Rattle.tasks.specs.Asks.{asks_of}
use Rattle.tasks.specs.Tasks.{task_of}
use Rattle.planner.specs.declared.route.tabled.Route.{Route}
use Rattle.planner.specs.Plans.{errand_task, refusal, Planned, LeadsThere, Says}
use Rattle.planner.specs.Routes.{moves_of}
use Rattle.planner.proofs.Serving.{asked_one}

-- `missing` has the latches wanted at 1 that are not in `kept`, those with a kept recipe to 1
module _ (t : NormalTask) (kept missing : LatchSet) (members : (u : ℕ) → has kept u ≡ kept? true (kept_table (task_of t) u))
    (minus : (u : ℕ) → has missing u ≡ (has t.want.ones u && not (has kept u))) where
  -- a latch wanted at 1 with no kept recipe to 1
  abbrev lacks? : ℕ → Bool
  lacks? u = asks? true (asks_of t.want u) && not (kept? true (kept_table (task_of t) u))

  missing_is : (u : ℕ) → has missing u ≡ lacks? u
  missing_is u =
      minus u ∙ ap (λ (x : Bool). x && not (has kept u)) (sym (asked_one t.want u))
      ∙ ap (λ (x : Bool). asks? true (asks_of t.want u) && not x) (members u)

  missing_below : (u : ℕ) → has missing u ≡ true → u < t.width
  missing_below u h = t.wanted u (t.want.within u (left (has t.want.ones u) (not (has kept u)) (sym (minus u) ∙ h)))
    where
      left : (x y : Bool) → (x && y) ≡ true → x ≡ true
      left true y e = refl
      left false y e = e

  pub no_way_told : (b : Bool) → Decides b (Empty missing) → not b ≡ no_way? (task_of t)
  unfolding no_way?
  no_way_told b d =
      elim (cases_Bool (no_way? (task_of t))) [
        | inl h ↦ let u = some_below_true lacks? t.width h in not_from_false b (no b (λ e. both_ways (has missing u.0) (d.0 e u.0) (missing_is u.0 ∙ u.2))) ∙ sym h
        | inr h ↦ not_from_true b (d.1 (λ u. none u h)) ∙ sym h
      ]
    where
      no : (x : Bool) → (x ≡ true → ⊥) → x ≡ false
      no true f = absurd (f refl)
      no false f = refl

      none : (u : ℕ) → no_way? (task_of t) ≡ false → has missing u ≡ false
      none u h =
          elim (cases_Bool (has missing u)) [
            | inl e ↦ absurd (both_ways (no_way? (task_of t)) h (some_below_from lacks? t.width u (missing_below u e) (sym (missing_is u) ∙ e)))
            | inr e ↦ e
          ]

-- each answer says what is so, of every book that exists and every start that fits it
module _ (r : Rules) (well : RulesWithin r) (s : Setting) (fits : length s ≡ r.latches) (named wanted : LatchSet) where
  meant : Names r named wanted → (in_class? (errand_task r s named wanted) ≡ true) ↔ InClass (errand_task r s named wanted)
  meant n =
      class_is_meant (errand_task r s named wanted)
      (normal_form_is_right r well s fits (errand_of named wanted) (errand_within r named wanted n)).well_formed

  -- the refusal of the tests is one of three
  refused_by : (a b c : Bool) (e : Refusal) → names? r named wanted ≡ a → in_class? (errand_task r s named wanted) ≡ b → no_way? (errand_task r s named wanted) ≡ c →
      refusal a b c ≡ some e → Says r s named wanted (Err e)
  refused_by false b c e p q o h =
      subst (λ (x : Refusal). Says r s named wanted (Err x)) (same h) (λ n. both_ways (names? r named wanted) p ((names_meant r named wanted).1 n))
    where
      same : {x y : Refusal} → some x ≡ some y → x ≡ y
      same k = cc
  refused_by true false c e p q o h =
      let n = (names_meant r named wanted).0 p in
      subst (λ (x : Refusal). Says r s named wanted (Err x)) (same h) (n, λ i. both_ways (in_class? (errand_task r s named wanted)) q ((meant n).1 i))
    where
      same : {x y : Refusal} → some x ≡ some y → x ≡ y
      same k = cc
  refused_by true true true e p q o h =
      let n = (names_meant r named wanted).0 p in
      let inside = (meant n).0 q in
      subst (λ (x : Refusal). Says r s named wanted (Err x)) (same h)
      (n, (inside, (no_way_is_none r well s fits (errand_of named wanted) (errand_within r named wanted n) inside).0 o))
    where
      same : {x y : Refusal} → some x ≡ some y → x ≡ y
      same k = cc
  refused_by true true false e p q o h = absurd (none≢some h)

  leads_there : (a b c : Bool) (p : Route) → names? r named wanted ≡ a → in_class? (errand_task r s named wanted) ≡ b → no_way? (errand_task r s named wanted) ≡ c →
      refusal a b c ≡ none → moves_of p ≡ route r s (errand_of named wanted) → LeadsThere r s named wanted p
  leads_there false b c p x y z h m = absurd (none≢some (sym h))
  leads_there true false c p x y z h m = absurd (none≢some (sym h))
  leads_there true true true p x y z h m = absurd (none≢some (sym h))
  leads_there true true false p x y z h m =
      let n = (names_meant r named wanted).0 x in
      let inside = (meant n).0 y in
      let way = route_leads r well s fits (errand_of named wanted) (errand_within r named wanted n) inside z in
      record {
        names = n;
        in_class = inside;
        end = way.0;
        leads = subst (λ (ks : List ℕ). Leads r ks s way.0) (sym m) way.1.0;
        met = way.1.1;
      }

  pub says_so : (o : Result Route Refusal) → Planned r s named wanted o → Says r s named wanted o
  says_so (Ok p) h = leads_there _ _ _ p refl refl refl h.0 h.1
  says_so (Err e) h = refused_by _ _ _ e refl refl refl h

  -- the refusal of the tests, test by test
  named_well : Names r named wanted → names? r named wanted ≡ true
  named_well = (names_meant r named wanted).1

  pub first_misnamed : (Names r named wanted → ⊥) → (b c : Bool) → refusal (names? r named wanted) b c ≡ some Misnamed
  first_misnamed n b c =
      elim (cases_Bool (names? r named wanted)) [
        | inl h ↦ absurd (n ((names_meant r named wanted).0 h))
        | inr h ↦ ap (λ (a : Bool). refusal a b c) h
      ]

  pub then_outside : Names r named wanted → (b c : Bool) → b ≡ false → refusal (names? r named wanted) b c ≡ some Outside
  then_outside n b c e = ap (λ (a : Bool). refusal a b c) (named_well n) ∙ ap (λ (x : Bool). refusal true x c) e

  pub then_no_way : Names r named wanted → (b c : Bool) → b ≡ true → c ≡ true → refusal (names? r named wanted) b c ≡ some NoWay
  then_no_way n b c e h = ap (λ (a : Bool). refusal a b c) (named_well n) ∙ ap (λ (x : Bool). refusal true x c) e ∙ ap (refusal true true) h

  pub then_route : Names r named wanted → (b c : Bool) → b ≡ true → c ≡ false → refusal (names? r named wanted) b c ≡ none
  then_route n b c e h = ap (λ (a : Bool). refusal a b c) (named_well n) ∙ ap (λ (x : Bool). refusal true x c) e ∙ ap (refusal true true) h
