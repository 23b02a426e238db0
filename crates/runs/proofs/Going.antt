-- A call made while a run is under way keeps the law, and leaves the model on its way or resting.
use Rattle.std.proofs.Common.{◌≡◌, ℕ, zero, suc, ◌+◌, ◌-◌, List, [], ◌∷◌, length, get_or, drop, sym, refl, ap, ◌∙◌, subst, add-one, arith, rules, drop_of_length-le, drop-cons}
use lib.ListN.{get_elem?}
use Rattle.words.specs.declared.LatchSet.{LatchSet}
use Rattle.rules.specs.Rules.{Rules, Errand, Setting, Throws, Leads, MetBy}
use Rattle.runs.specs.declared.Call.TheVariants.{Aim, Step, Nudge, Stop}
use Rattle.runs.specs.declared.Answer.TheVariants.{Threw}
use Rattle.runs.specs.Calls.{under_way, follow_step}
use Rattle.runs.specs.Model.{running, thrown_by, going_on}
use Rattle.runs.proofs.Places.{element_there}
use Rattle.runs.proofs.Turns.{OnTheWay, Follows, Kept, shown}

module _ (r : Rules) (s : Setting) (ks : List ℕ) (i : ℕ) (w : Errand) (start : Setting) (n : ℕ) (way : OnTheWay r s ks i w start n) where
  -- an aim or a nudge is declined, a stop granted
  pub aim_running : (named wanted : LatchSet) → Kept r (under_way w start n) (shown r s (running ks i) (Aim named wanted))
  aim_running named wanted = search rules

  pub nudge_running : (k : ℕ) → Kept r (under_way w start n) (shown r s (running ks i) (Nudge k))
  nudge_running k = search rules

  pub stop_running : Kept r (under_way w start n) (shown r s (running ks i) Stop)
  stop_running = search rules

  -- the number of the next move of the route
  abbrev pub next_move : ℕ
  next_move = get_or ks i 0

  -- what it leaves
  abbrev pub next_setting : Setting
  next_setting = thrown_by (get_elem? r.moves next_move) s

  rest : Leads r (next_move ∷ drop (i + 1) ks) s way.end
  rest = subst (λ js. Leads r js s way.end) (drop-cons ks i 0 way.more ∙ ap (λ j. next_move ∷ drop j ks) (sym (add-one i))) way.leads

  lands : rest.0 ≡ next_setting
  lands = search rules

  -- it is legal
  pub throws_next : Throws r next_move s next_setting
  throws_next = subst (Throws r next_move s) lands rest.1.0

  leads_on : Leads r (drop (i + 1) ks) next_setting way.end
  leads_on = subst (λ z. Leads r (drop (i + 1) ks) z way.end) lands rest.1.1

  -- with none left the errand is met
  met_at_end : length ks - (i + 1) ≡ 0 → MetBy w next_setting
  met_at_end z =
      let none_left : drop (i + 1) ks ≡ [] = drop_of_length-le ks {i = i + 1} (omega (arith, way.more)) in
      let there : next_setting ≡ way.end = subst (λ js. Leads r js next_setting way.end) none_left leads_on in
      subst (MetBy w) (sym there) way.met

  pub step_running : Kept r (under_way w start n) (shown r s (running ks i) Step)
  step_running = record {
    finds = tt;
    throws = throws_next;
    finishes = λ e. record {
      thrown = record { number = next_move; left = length ks - (i + 1) };
      answered = refl;
      next = sym (ap (λ js. get_elem? js n) way.of_route) ∙ sym (ap (get_elem? ks) way.counted) ∙ element_there ks i 0 way.more;
      counted = omega (arith, way.more, way.counted) ∙ ap length way.of_route;
      finished = met_at_end;
    };
    in_turn = record {
      aim = λ a b e. cc;
      nudge = λ k e. cc;
      stop = λ e. cc;
    };
    refuses = tt;
  }

  pub follows_step : (left : ℕ) → length ks - (i + 1) ≡ left → Follows r next_setting (going_on ks (i + 1) left) (follow_step (Threw (record { number = next_move; left = left })) (under_way w start n))
  follows_step zero e = tt
  follows_step (suc left) e = record {
    of_route = way.of_route;
    below = way.below;
    counted = ap (λ j. j + 1) way.counted;
    more = omega arith;
    end = way.end;
    leads = leads_on;
    met = way.met;
  }
