-- The tests of the panel and of a move say what is meant.
use Rattle.std.proofs.Common.{◌≡◌, Bool, true, not, ◌≢◌, ◌↔◌, length, refl, inl, inr, arith, rules}
use mathlib.Core.Bool.{beq}
use Rattle.std.proofs.lemmas.Bool.{both_ways, cases_Bool, cases_lt, and_parts, and_from, not-true, not_from_false, eqb-true, eq-eqb}
use Rattle.theory.specs.Searches.{In}
use Rattle.theory.specs.Tasks.{Ask, any, at_zero, at_one, Met}
use Rattle.theory.proofs.Searches.{all_below_true, all_below_from, beq_true, beq_from}
use Rattle.rules.specs.Rules.{Rule, Rules, Setting, at, Legal, RulesWithin}
use Rattle.rules.proofs.Naming.{names_meant}
use Rattle.runs.specs.Deciding.{fits?, met?, legal?}
use Rattle.runs.specs.Theorems.{TestsAreMeant}

-- the panel fits just when the test says so
pub fits_meant : (r : Rules) (s : Setting) → (fits? r s ≡ true) ↔ (length s ≡ r.latches)
fits_meant r s = (eqb-true (length s) r.latches, eq-eqb (length s) r.latches)

met_true : (a : Ask) (b : Bool) → met? a b ≡ true → Met a b
met_true any b h = tt
met_true at_zero b h = search rules
met_true at_one b h = h

true_met : (a : Ask) (b : Bool) → Met a b → met? a b ≡ true
true_met any b h = refl
true_met at_zero b h = search rules
true_met at_one b h = h

-- nothing is asked of what is not one of the book's latches
unasked : (a : Ask) (b : Bool) → (a ≢ any → ⊥) → Met a b
unasked any b h = tt
unasked at_zero b h = search rules
unasked at_one b h = search rules

module _ (r : Rules) (within : RulesWithin r) (s : Setting) (m : Rule) (i : In r.moves m) where
  legal_true : legal? r s m ≡ true → Legal s m
  legal_true h =
      let p = and_parts (not (beq (at s m.latch) m.to)) _ h in (
        (λ e. both_ways (beq (at s m.latch) m.to) (not-true _ p.0) (beq_from (at s m.latch) m.to e)),
        λ u.
            elim (cases_lt u r.latches) [
              | inl l ↦ met_true (m.asks u) (at s u) (all_below_true (λ v. met? (m.asks v) (at s v)) r.latches u p.1 l)
              | inr g ↦ unasked (m.asks u) (at s u) (λ n. let l = within.asks_within m i u n in omega arith)
            ],
      )

  true_legal : Legal s m → legal? r s m ≡ true
  true_legal h =
      and_from (not (beq (at s m.latch) m.to)) _
      (elim (cases_Bool (beq (at s m.latch) m.to)) [
        | inl e ↦ absurd (h.0 (beq_true (at s m.latch) m.to e))
        | inr e ↦ not_from_false _ e
      ])
      (all_below_from (λ v. met? (m.asks v) (at s v)) r.latches (λ u l. true_met (m.asks u) (at s u) (h.1 u)))

  -- a move of the book is legal just when the test says so
  pub legal_meant : (legal? r s m ≡ true) ↔ Legal s m
  legal_meant = (legal_true, true_legal)

pub tests_are_meant : TestsAreMeant
tests_are_meant = record { fitting = fits_meant; naming = names_meant; legality = legal_meant }
