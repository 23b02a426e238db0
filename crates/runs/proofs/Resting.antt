-- A call made while the model rests keeps the law, and an aim that finds a route leaves it on its way.
use Rattle.std.proofs.Common.{◌≡◌, ℕ, ◌<◌, ◌≤◌, Bool, true, false, ◌≢◌, ◌⊎◌, List, [], ◌∷◌, length, get_or, sym, refl, ap, ◌∙◌, subst, subst₂, inl, inr, arith, rules}
use mathlib.Core.Option.{Option, none, some}
use lib.ListN.{get_elem?}
use Rattle.words.specs.declared.LatchSet.{LatchSet}
use Rattle.theory.specs.Class.{in_class?}
use Rattle.theory.specs.Meaning.{InClass}
use Rattle.theory.specs.Route.{no_way?}
use Rattle.theory.specs.Bound.{longest}
use Rattle.theory.proofs.Meant.{class_is_meant}
use Rattle.rules.specs.declared.refusal.Refusal.{Refusal}
use Rattle.rules.specs.declared.refusal.Refusal.TheVariants.{NoWay, Running}
use Rattle.rules.specs.Rules.{Rule, Rules, Errand, Setting, Leads, MetBy, Way, RulesWithin, ErrandWithin}
use Rattle.rules.specs.NormalForm.{task, route}
use Rattle.rules.specs.Naming.{errand_of, Names, names?}
use Rattle.rules.proofs.Leading.{found_in, task_well_formed}
use Rattle.rules.proofs.Naming.{names_meant, errand_within}
use Rattle.rules.proofs.Theorems.{route_leads, no_way_is_none, length_is_bounded}
use Rattle.runs.specs.declared.Call.TheVariants.{Aim, Step, Nudge, Stop}
use Rattle.runs.specs.declared.Answer.{Answer}
use Rattle.runs.specs.declared.Answer.TheVariants.{Found, Declined}
use Rattle.runs.specs.Calls.{idle, follow_aim}
use Rattle.runs.specs.Deciding.{fits?, legal?, legal_at?, aimed, nudged}
use Rattle.runs.specs.Model.{resting, answered_resting, thrown_by, pushed, opened}
use Rattle.runs.specs.Law.{Finding, Throwing}
use Rattle.runs.proofs.Places.{there, leads_below}
use Rattle.runs.proofs.Legality.{fits_meant, legal_meant}
use Rattle.runs.proofs.Refusing.{aim_refuses, nudge_answer, nudge_refuses}
use Rattle.runs.proofs.Turns.{Follows, Kept, shown}

-- what holds where an aim at the errand of two sets is granted
pub record AimGranted (r : Rules) (s : Setting) (named wanted : LatchSet) : Type 0 where
  pub fits : length s ≡ r.latches
  pub names : Names r named wanted
  pub class : InClass (task r s (errand_of named wanted))
  pub way : no_way? (task r s (errand_of named wanted)) ≡ false
  pub short : length (route r s (errand_of named wanted)) ≤ longest r.latches
  pub below : (k : ℕ) → k < length (route r s (errand_of named wanted)) → get_or (route r s (errand_of named wanted)) k 0 < length r.moves
  pub end : Setting
  pub leads : Leads r (route r s (errand_of named wanted)) s end
  pub met : MetBy (errand_of named wanted) end

module _ (r : Rules) (within : RulesWithin r) (s : Setting) where
  -- an aim while resting
  module _ (named wanted : LatchSet) where
    abbrev w : Errand
    w = errand_of named wanted

    abbrev pub aim_answer : Answer
    aim_answer = aimed (fits? r s) (names? r named wanted) (in_class? (task r s w)) (no_way? (task r s w)) (length (route r s w))

    -- it is declined, and not because of a run; or the length of the route is found
    abbrev pub Outcome : Answer → Type 0
    Outcome a = ((why : Refusal) × (a ≡ Declined why) × (why ≢ Running)) ⊎ ((a ≡ Found (length (route r s w))) × AimGranted r s named wanted)

    granted_so : fits? r s ≡ true → names? r named wanted ≡ true → in_class? (task r s w) ≡ true → no_way? (task r s w) ≡ false → AimGranted r s named wanted
    granted_so p q t z =
        let fits = (fits_meant r s).0 p in
        let names = (names_meant r named wanted).0 q in
        let inside = errand_within r named wanted names in
        let class = (class_is_meant (task r s w) (task_well_formed r within s w inside)).0 t in
        let led = route_leads r within s fits w inside class z in
        record {
          fits = fits;
          names = names;
          class = class;
          way = z;
          short = length_is_bounded r within s fits w inside class;
          below = leads_below r (route r s w) s led.0 led.1.0;
          end = led.0;
          leads = led.1.0;
          met = led.1.1;
        }

    outcome_of : (f n c b : Bool) → fits? r s ≡ f → names? r named wanted ≡ n → in_class? (task r s w) ≡ c → no_way? (task r s w) ≡ b → Outcome (aimed f n c b (length (route r s w)))
    outcome_of false n c b p q t z = search rules
    outcome_of true false c b p q t z = search rules
    outcome_of true true false b p q t z = search rules
    outcome_of true true true true p q t z = search rules
    outcome_of true true true false p q t z = inr (refl, granted_so p q t z)

    pub outcome : Outcome aim_answer
    outcome = outcome_of _ _ _ _ refl refl refl refl

    -- on a panel that fits, with sets that name aright and a task of the class, only the way decides
    aimed_in_class : (b : Bool) → length s ≡ r.latches → Names r named wanted → InClass (task r s w) → no_way? (task r s w) ≡ b → aim_answer ≡ aimed true true true b (length (route r s w))
    aimed_in_class b l n class z =
        let long = length (route r s w) in
        ap (λ x. aimed x (names? r named wanted) (in_class? (task r s w)) (no_way? (task r s w)) long) ((fits_meant r s).1 l)
        ∙ ap (λ x. aimed true x (in_class? (task r s w)) (no_way? (task r s w)) long) ((names_meant r named wanted).1 n)
        ∙ ap (λ x. aimed true true x (no_way? (task r s w)) long) ((class_is_meant (task r s w) (task_well_formed r within s w (errand_within r named wanted n))).1 class)
        ∙ ap (λ x. aimed true true true x long) z

    none_found : (Way r s w → ⊥) → Finding r w s (Declined NoWay)
    none_found none_way = search rules

    route_found : Way r s w → Finding r w s (Found (length (route r s w)))
    route_found way = search rules

    finding : length s ≡ r.latches → Names r named wanted → InClass (task r s w) → Finding r w s aim_answer
    finding l n class = go (no_way? (task r s w)) refl
      where
        inside : ErrandWithin r w
        inside = errand_within r named wanted n

        go : (b : Bool) → no_way? (task r s w) ≡ b → Finding r w s aim_answer
        go true z = subst (Finding r w s) (sym (aimed_in_class true l n class z)) (none_found ((no_way_is_none r within s l w inside class).0 z))
        go false z =
            subst (Finding r w s) (sym (aimed_in_class false l n class z)) (route_found (route r s w, route_leads r within s l w inside class z))

    -- a route of no moves finds the errand met
    nothing_to_do : (ks : List ℕ) (e : Setting) → length ks ≡ 0 → Leads r ks s e → MetBy w e → MetBy w s
    nothing_to_do [] e l h met = subst (MetBy w) (sym h) met
    nothing_to_do (k ∷ ks) e l h met = absurd (omega arith)

    found_nothing : (a : Answer) → Outcome a → a ≡ Found 0 → MetBy w s
    found_nothing a (inl h) e = let p = h.1 in cc
    found_nothing a (inr h) e =
        let none_left : length (route r s w) ≡ 0 = (let p = h.0 in cc) in
        nothing_to_do (route r s w) h.1.end none_left h.1.leads h.1.met

    not_running : (a : Answer) → Outcome a → a ≢ Declined Running
    not_running a (inl h) e = h.2 (let p = h.1 in cc)
    not_running a (inr h) e = let p = h.0 in cc

    -- a route with a move is run
    opened_so : (ks : List ℕ) (e : Setting) → ks ≡ route r s w → Leads r ks s e → MetBy w e → Follows r s (opened ks (Found (length ks))) (follow_aim w s (Found (length ks)) idle)
    opened_so [] e p h met = tt
    opened_so (k ∷ ks) e p h met = record {
      of_route = p;
      below = leads_below r (k ∷ ks) s e h;
      counted = refl;
      more = omega arith;
      end = e;
      leads = h;
      met = met;
    }

    pub follows_aim : (a : Answer) → Outcome a → Follows r s (opened (route r s w) a) (follow_aim w s a idle)
    follows_aim a (inl h) = search rules
    follows_aim a (inr h) = search rules

    pub aim_resting : Kept r idle (shown r s resting (Aim named wanted))
    aim_resting = record {
      finds = λ named' wanted' e l.
          subst₂ (λ a b. Names r a b → InClass (task r s (errand_of a b)) → Finding r (errand_of a b) s aim_answer) (same_named e) (same_wanted e) (finding l);
      throws = refl;
      finishes = λ named' wanted' e z. subst₂ (λ a b. MetBy (errand_of a b) s) (same_named e) (same_wanted e) (found_nothing aim_answer outcome z);
      in_turn = record {
        step = λ e. cc;
        stop = λ e. cc;
        other = not_running aim_answer outcome;
      };
      refuses = aim_refuses r within s named wanted;
    }
      where
        same_named : {a b : LatchSet} → Aim named wanted ≡ Aim a b → named ≡ a
        same_named e = cc

        same_wanted : {a b : LatchSet} → Aim named wanted ≡ Aim a b → wanted ≡ b
        same_wanted e = cc

  -- a nudge while resting
  module _ (k : ℕ) where
    -- it throws the move if it is granted, and is not declined because of a run
    abbrev NudgedSo : Answer → Type 0
    NudgedSo a = Throwing r idle (record { call = Nudge k; before = s; answer = a; after = pushed r s k a }) × (a ≢ Declined Running)

    nudged_so : (f : Bool) (o : Option Rule) → get_elem? r.moves k ≡ o → NudgedSo (nudged f (there o) (legal_at? r s o))
    nudged_so false o e = search rules
    nudged_so true none e = search rules
    nudged_so true (some m) e = go (legal? r s m) refl
      where
        go : (b : Bool) → legal? r s m ≡ b → NudgedSo (nudged true true b)
        go true d = ((m, (e, ((legal_meant r within s m (found_in r.moves k m e)).0 d, ap (λ o. thrown_by o s) e))), λ p. cc)
        go false d = search rules

    pub nudge_resting : Kept r idle (shown r s resting (Nudge k))
    nudge_resting = record {
      finds = λ named wanted e. cc;
      throws = h.0;
      finishes = λ named wanted e. cc;
      in_turn = record { step = λ e. cc; stop = λ e. cc; other = h.1 };
      refuses = nudge_refuses r within s k;
    }
      where
        h : NudgedSo (answered_resting r s (Nudge k))
        h = subst NudgedSo (sym (nudge_answer r s k)) (nudged_so (fits? r s) (get_elem? r.moves k) refl)

  -- a step or a stop while resting
  pub step_resting : Kept r idle (shown r s resting Step)
  step_resting = search rules

  pub stop_resting : Kept r idle (shown r s resting Stop)
  stop_resting = search rules
