-- What the recipes that are kept of a latch stand for.
use Rattle.std.proofs.Common.{◌≡◌, ℕ, Bool, true, false, cond, List, Some, None, Option as OptionGiven, sym, refl, ap, ◌∙◌, subst, ap₂, arith}
use mathlib.Core.Option.{Option, none, some}
use Rattle.std.proofs.lemmas.Bool.{both_ways}
use Rattle.theory.specs.Tasks.{Ask, asks?}
use Rattle.theory.specs.Recipes.{Kept, none_kept, one_kept, both_kept, Table, keep}
use Rattle.theory.specs.Recipes.{Recipe as RecipeMeant}
use Rattle.planner.specs.declared.recipes.recipe.Recipe.{Recipe}
use Rattle.planner.specs.declared.recipes.recipe_table.Kept.TheVariants.{Neither, One, Both}
use Rattle.tasks.specs.declared.task.NormalTask.{NormalTask}
use Rattle.tasks.specs.Asks.{asks_of}
use Rattle.tasks.specs.Tasks.{task_of}
use Rattle.planner.specs.RecipesKept.{recipe_by, kept_of, Made, Chosen, Held, kept_last}

-- nothing is kept without a recipe to 1
keep_none : (w : Ask) (one zero : Option RecipeMeant) → one ≡ none → keep w one zero ≡ none_kept
keep_none w none none e = refl
keep_none w none (some z) e = refl
keep_none w (some r) zero e = absurd cc

-- nothing is kept of a latch that is wanted at 0 without a recipe to 0
keep_wanted : (w : Ask) (one zero : Option RecipeMeant) (r : RecipeMeant) → one ≡ some r → zero ≡ none → asks? false w ≡ true → keep w one zero ≡ none_kept
keep_wanted w one zero r e f h =
    ap₂ (λ (o z : Option RecipeMeant). keep w o z) e f ∙ ap (λ (b : Bool). cond b none_kept (one_kept r)) h

-- the recipe to 1 alone is kept of a latch that is not wanted at 0
keep_one : (w : Ask) (one zero : Option RecipeMeant) (r : RecipeMeant) → one ≡ some r → zero ≡ none → asks? false w ≡ false → keep w one zero ≡ one_kept r
keep_one w one zero r e f h =
    ap₂ (λ (o z : Option RecipeMeant). keep w o z) e f ∙ ap (λ (b : Bool). cond b none_kept (one_kept r)) h

-- with one to 0 both are kept
keep_both : (w : Ask) (one zero : Option RecipeMeant) (r q : RecipeMeant) → one ≡ some r → zero ≡ some q → keep w one zero ≡ both_kept r q
keep_both w one zero r q e f = ap₂ (λ (o z : Option RecipeMeant). keep w o z) e f

module _ (t : NormalTask) (kept : Table) (v : ℕ) (placed : List ℕ) (n : ℕ) where
  held_none : Held t v placed n none_kept Neither
  held_none = record {
    member = λ x. refl;
    counted = λ x. refl;
    short = λ x. omega arith;
    stands = λ x h. absurd (both_ways false refl h);
  }

  held_one : (c : Recipe) → Made t kept v placed true n c → Held t v placed n (one_kept (recipe_by t kept v placed c)) (One c)
  held_one c made = record {
    member = elim [ true ↦ refl | false ↦ refl ];
    counted = elim [ true ↦ made.stands.counted | false ↦ refl ];
    short = elim [ true ↦ made.short | false ↦ omega arith ];
    stands = elim [ true ↦ λ h. made.stands | false ↦ λ h. absurd (both_ways false refl h) ];
  }

  held_both :
      (c d : Recipe) → Made t kept v placed true n c → Made t kept v placed false n d →
      Held t v placed n (both_kept (recipe_by t kept v placed c) (recipe_by t kept v placed d)) (Both c d)
  held_both c d made back = record {
    member = elim [ true ↦ refl | false ↦ refl ];
    counted = elim [ true ↦ made.stands.counted | false ↦ back.stands.counted ];
    short = elim [ true ↦ made.short | false ↦ back.short ];
    stands = elim [ true ↦ λ h. made.stands | false ↦ λ h. back.stands ];
  }

  -- what is kept of the recipes that were made is what is kept of the latch
  pub held :
      (one zero : OptionGiven Recipe) (wanted : Bool) → wanted ≡ asks? false (asks_of t.want v) → Chosen t kept v placed true n one →
      Chosen t kept v placed false n zero → Held t v placed n (kept_last (task_of t) kept placed v) (kept_of one zero wanted)
  held None zero wanted w up down = subst (λ (k : Kept). Held t v placed n k Neither) (sym (keep_none _ _ _ up)) held_none
  held (Some c) None true w up down =
      subst (λ (k : Kept). Held t v placed n k Neither) (sym (keep_wanted _ _ _ _ up.is down (sym w))) held_none
  held (Some c) None false w up down =
      subst (λ (k : Kept). Held t v placed n k (One c)) (sym (keep_one _ _ _ _ up.is down (sym w))) (held_one c up)
  held (Some c) (Some d) wanted w up down =
      subst (λ (k : Kept). Held t v placed n k (Both c d)) (sym (keep_both _ _ _ _ _ up.is down.is)) (held_both c d up down)
