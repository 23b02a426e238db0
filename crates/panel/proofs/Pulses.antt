-- Coils as they are made, and after a pulse: the positions and the counts.
use Rattle.std.proofs.Common.{◌≡◌, ℕ, ◌+◌, ◌<◌, min, Bool, true, false, ◌≢◌, List, length, set, replicate, sym, refl, ap, ◌∙◌}
use Rattle.std.proofs.lemmas.List.{get_or-set_same, get_or-set_other}
use Rattle.panel.specs.declared.relay.Coils.{Coils}
use Rattle.panel.specs.Settings.{row}
use Rattle.panel.specs.Kinds.{coil_at, up?, resting, pulse_limit, pulsed, coils_at, counted}
use Rattle.panel.proofs.Rows.{get_row, set_row, row_ext, row_const}

up_coil : (b : Bool) → up? (coil_at b) ≡ b
up_coil true = refl
up_coil false = refl

-- coils at the positions p with no pulse yet
module _ (css : List Coils) (p : ℕ → Bool) (n : ℕ) (rest : (j : ℕ) → j < n → coils_at css j ≡ resting (p j)) where
  pub positions_resting : row n (λ j. up? (coils_at css j).last) ≡ row n p
  positions_resting = row_ext n _ p (λ j h. ap (λ (cs : Coils). up? cs.last) (rest j h) ∙ up_coil (p j))

  pub counts_resting : row n (λ j. (coils_at css j).pulses) ≡ replicate n 0
  counts_resting = row_ext n _ (λ _. 0) (λ j h. ap (λ (cs : Coils). cs.pulses) (rest j h)) ∙ row_const n 0

-- after a pulse of the coil for position b at latch i
module _ (css : List Coils) (i : ℕ) (b : Bool) (v : Coils) (l : i < length css) (e : v ≡ pulsed (coils_at css i) (coil_at b)) (n : ℕ) where
  here : coils_at (set css i v) i ≡ pulsed (coils_at css i) (coil_at b)
  here = get_or-set_same css i v (resting false) l ∙ e

  other : (j : ℕ) → j ≢ i → coils_at (set css i v) j ≡ coils_at css j
  other j ne = get_or-set_other css i j v (resting false) ne

  pub positions_pulsed : row n (λ j. up? (coils_at (set css i v) j).last) ≡ set (row n (λ j. up? (coils_at css j).last)) i b
  positions_pulsed =
      set_row n i _ _ b (λ _. ap (λ (cs : Coils). up? cs.last) here ∙ up_coil b)
      (λ j ne. ap (λ (cs : Coils). up? cs.last) (other j ne))

  pub counts_pulsed : row n (λ j. (coils_at (set css i v) j).pulses) ≡ counted (row n (λ j. (coils_at css j).pulses)) i
  counts_pulsed =
      set_row n i _ _ _
      (λ h.
      ap (λ (cs : Coils). cs.pulses) here
      ∙ ap (λ (k : ℕ). min (k + 1) pulse_limit) (sym (get_row n (λ j. (coils_at css j).pulses) i 0 h)))
      (λ j ne. ap (λ (cs : Coils). cs.pulses) (other j ne))
