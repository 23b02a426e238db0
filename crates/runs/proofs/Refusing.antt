-- The refusals of an aim and of a nudge made while the model rests say what they should.
use Rattle.std.proofs.Common.{◌≡◌, ℕ, Bool, true, false, ◌↔◌, length, sym, refl, ap, subst, rules}
use mathlib.Core.Option.{Option, none, some}
use lib.ListN.{get_elem?}
use Rattle.words.specs.declared.LatchSet.{LatchSet}
use Rattle.theory.specs.Class.{in_class?}
use Rattle.theory.specs.Route.{no_way?}
use Rattle.theory.proofs.Meant.{class_is_meant}
use Rattle.rules.specs.Rules.{Rule, Rules, Setting, Legal, RulesWithin}
use Rattle.rules.specs.NormalForm.{task, route}
use Rattle.rules.specs.Naming.{errand_of, names?}
use Rattle.rules.proofs.Leading.{found_in, task_well_formed}
use Rattle.rules.proofs.Naming.{names_meant, errand_within}
use Rattle.runs.specs.declared.Call.TheVariants.{Aim, Nudge}
use Rattle.runs.specs.Calls.{idle}
use Rattle.runs.specs.Deciding.{fits?, legal?, legal_at?, aimed, nudged}
use Rattle.runs.specs.Model.{resting, answered_resting}
use Rattle.runs.specs.Law.{AimRefused, NudgeRefused, Refuses}
use Rattle.runs.proofs.Places.{there, below_there}
use Rattle.runs.proofs.Legality.{fits_meant, legal_meant}
use Rattle.runs.proofs.Turns.{shown}

-- the answer to an aim, where each test says what is meant
aim_refused : {F N C : Type 0} (f n c b : Bool) (l : ℕ) → (f ≡ true) ↔ F → (n ≡ true) ↔ N → (N → (c ≡ true) ↔ C) → AimRefused F N C (aimed f n c b l)
aim_refused false n c b l hf hn hc = search rules
aim_refused true false c b l hf hn hc = search rules
aim_refused true true false b l hf hn hc = search rules
aim_refused true true true true l hf hn hc = search rules
aim_refused true true true false l hf hn hc = search rules

-- the answer to a nudge while resting, by the move at its place
pub nudge_answer : (r : Rules) (s : Setting) (k : ℕ) →
    answered_resting r s (Nudge k) ≡ nudged (fits? r s) (there (get_elem? r.moves k)) (legal_at? r s (get_elem? r.moves k))
nudge_answer r s k = ap (λ b. nudged (fits? r s) b (legal_at? r s (get_elem? r.moves k))) (below_there r.moves k)

module _ (r : Rules) (within : RulesWithin r) (s : Setting) where
  pub aim_refuses : (named wanted : LatchSet) → Refuses r idle (shown r s resting (Aim named wanted))
  aim_refuses named wanted =
      let w = errand_of named wanted in
      aim_refused (fits? r s) (names? r named wanted) (in_class? (task r s w)) (no_way? (task r s w)) (length (route r s w)) (fits_meant r s)
      (names_meant r named wanted)
      (λ n. class_is_meant (task r s w) (task_well_formed r within s w (errand_within r named wanted n)))

  module _ (k : ℕ) {F : Type 0} where
    -- the answer to a nudge at a move of the book
    legal_refused : (b : Bool) (m : Rule) → get_elem? r.moves k ≡ some m → (b ≡ true) ↔ Legal s m → F → NudgeRefused r s k F (nudged true true b)
    legal_refused true m e hl f = search rules
    legal_refused false m e hl f = search rules

    nudge_refused : (f : Bool) (o : Option Rule) → get_elem? r.moves k ≡ o → (f ≡ true) ↔ F → NudgeRefused r s k F (nudged f (there o) (legal_at? r s o))
    nudge_refused false o e hf = search rules
    nudge_refused true none e hf = search rules
    nudge_refused true (some m) e hf =
        legal_refused (legal? r s m) m e (legal_meant r within s m (found_in r.moves k m e)) (hf.0 refl)

  pub nudge_refuses : (k : ℕ) → Refuses r idle (shown r s resting (Nudge k))
  nudge_refuses k =
      subst (NudgeRefused r s k (length s ≡ r.latches)) (sym (nudge_answer r s k))
      (nudge_refused k (fits? r s) (get_elem? r.moves k) refl (fits_meant r s))
