-- One move brought to normal form.
use Rattle.std.proofs.Common.{◌≡◌, ℕ, ◌<◌, Bool, true, false, not, ◌&&◌, eqb, ltb, sym, refl, ap, ◌∙◌, inl, inr}
use mathlib.Core.Path.{fun_ext}
use mathlib.Core.Option.{some}
use Rattle.std.proofs.lemmas.Bool.{cases_eq, eq-eqb, ne_eqb, lt-ltb, and_from, and_left, cond-true, cond-false}
use Rattle.words.specs.declared.LatchSet.{LatchSet}
use Rattle.words.specs.Sets.{most_latches, has, Below}
use Rattle.book.specs.declared.moves.Move.{Move}
use Rattle.book.specs.declared.partial.PartialSetting.{PartialSetting}
use Rattle.book.specs.Settings.{asked, asked_with}
use Rattle.theory.specs.Tasks.{ask_for, ask_against}
use Rattle.rules.specs.Rules.{at}
use Rattle.rules.specs.NormalForm.{exchanged, exchanged_ask, normal_asks, normal_move}
use Rattle.rules.proofs.NormalForm.{asks_own, asks_other}
use Rattle.tasks.specs.Asks.{ask_from, asks_of, rule_of, setting_of}
use Rattle.tasks.specs.Tasks.{move_of}
use Rattle.tasks.proofs.Bridge.{setting_at, exchanged_at}

-- the ask for the opposite position is the ask against
pub for_opposite : (b : Bool) → ask_for (not b) ≡ ask_against b
for_opposite true = refl
for_opposite false = refl

-- conditions in normal form, with the own latch at the opposite of the target, are those of the move in normal form
module _
    (m : Move) (start : LatchSet) (to : Bool) (brought asks : PartialSetting)
    (latch : m.latch < most_latches)
    (target : to ≡ exchanged m.to (has start m.latch))
    (each : (u : ℕ) → asks_of brought u ≡ exchanged_ask (asks_of m.when u) (has start u))
    (own : (u : ℕ) → asked asks u ≡ asked_with brought m.latch (not to) u)
    (n : ℕ) (below : m.latch < n) (within : Below n m.when.named) where
  target_at : to ≡ exchanged m.to (at (setting_of n start) m.latch)
  target_at = target ∙ ap (exchanged m.to) (sym (setting_at n start m.latch below))

  asks_own_latch : (u : ℕ) → u ≡ m.latch → asks_of asks u ≡ normal_asks (setting_of n start) (rule_of m) u
  asks_own_latch u e =
      ap ask_from (own u ∙ cond-true _ (some (not to)) (asked brought u) here)
      ∙ for_opposite to ∙ ap ask_against (target_at ∙ ap (λ (v : ℕ). exchanged m.to (at (setting_of n start) v)) (sym e))
      ∙ sym (asks_own (setting_of n start) (rule_of m) u e)
    where
      here : (eqb u m.latch && ltb m.latch most_latches) ≡ true
      here = and_from (eqb u m.latch) (ltb m.latch most_latches) (eq-eqb u m.latch e) (lt-ltb m.latch most_latches latch)

  asks_other_latch : (u : ℕ) → (u ≡ m.latch → ⊥) → asks_of asks u ≡ normal_asks (setting_of n start) (rule_of m) u
  asks_other_latch u ne =
      ap ask_from (own u ∙ cond-false _ (some (not to)) (asked brought u) elsewhere)
      ∙ each u ∙ exchanged_at n start m.when within u ∙ sym (asks_other (setting_of n start) (rule_of m) u ne)
    where
      elsewhere : (eqb u m.latch && ltb m.latch most_latches) ≡ false
      elsewhere = and_left (eqb u m.latch) (ltb m.latch most_latches) (ne_eqb u m.latch ne)

  asks_at : asks_of asks ≡ normal_asks (setting_of n start) (rule_of m)
  asks_at = fun_ext (λ u. elim (cases_eq u m.latch) [ inl e ↦ asks_own_latch u e | inr ne ↦ asks_other_latch u ne ])

  pub move_normal :
      (number : ℕ) →
      move_of (record { number = number; latch = m.latch; to = to; asks = asks }) ≡ normal_move (setting_of n start) number (rule_of m)
  move_normal number = λ i. record { number = number; latch = m.latch; to = target_at i; asks = asks_at i }
