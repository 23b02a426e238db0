-- A setting read latch by latch: the set that has the latches at position 1 of the front of a setting.
use Rattle.std.proofs.Common.{◌≡◌, ℕ, ◌+◌, ◌<◌, Bool, true, false, ◌≢◌, List, length, get_or, take, Some, sym, ap, ◌∙◌, inl, inr, arith}
use Rattle.std.proofs.lemmas.List.{get_or-take, get_or_past, length-take-le}
use Rattle.std.proofs.lemmas.Bool.{lt-ltb, cond-true, cases_eq, cases_lt}
use Rattle.words.specs.declared.LatchSet.{LatchSet}
use Rattle.words.specs.Sets.{has, has_with}
use Rattle.panel.specs.Settings.{widest, digit, looked}
use Rattle.panel.proofs.Switched.{with_here, with_other}

module _ (s : List Bool) (i : ℕ) (l : i < length s) where
  -- a look at latch i
  pub looked_within : looked s i ≡ Some (digit (get_or s i false))
  looked_within = cond-true _ _ _ (lt-ltb i (length s) l)

  -- one latch more: its place, and any other
  front_here : get_or (take (i + 1) s) i false ≡ get_or s i false
  front_here = get_or-take (i + 1) s i false (omega arith)

  front_none : get_or (take i s) i false ≡ false
  front_none = get_or_past (take i s) i false (omega (arith, length-take-le i s (omega arith)))

  front_other : (j : ℕ) → j ≢ i → get_or (take i s) j false ≡ get_or (take (i + 1) s) j false
  front_other j ne =
      elim (cases_lt j i) [
        | inl h ↦ get_or-take i s j false h ∙ sym (get_or-take (i + 1) s j false (omega arith))
        | inr h ↦
            get_or_past (take i s) j false (omega (arith, length-take-le i s (omega arith)))
            ∙ sym (get_or_past (take (i + 1) s) j false (omega (arith, length-take-le (i + 1) s (omega arith))))
      ]

  module _ (t : LatchSet) (before : (j : ℕ) → has t j ≡ get_or (take i s) j false) where
    -- latch i is at position 1, and put into the set
    pub front_up : (r : LatchSet) → i < widest → true ≡ get_or s i false → ((j : ℕ) → has r j ≡ has_with t i j) → (j : ℕ) → has r j ≡ get_or (take (i + 1) s) j false
    front_up r few up e j =
        elim (cases_eq j i) [
          | inl q ↦
              ap (λ (k : ℕ). has r k) q ∙ e i ∙ with_here t i few ∙ up ∙ sym front_here ∙ ap (λ (k : ℕ). get_or (take (i + 1) s) k false) (sym q)
          | inr ne ↦ e j ∙ with_other t i j ne ∙ before j ∙ front_other j ne
        ]

    -- latch i is at position 0, and left out
    pub front_down : false ≡ get_or s i false → (j : ℕ) → has t j ≡ get_or (take (i + 1) s) j false
    front_down down j =
        elim (cases_eq j i) [
          | inl q ↦
              ap (λ (k : ℕ). has t k) q ∙ before i ∙ front_none ∙ down ∙ sym front_here ∙ ap (λ (k : ℕ). get_or (take (i + 1) s) k false) (sym q)
          | inr ne ↦ before j ∙ front_other j ne
        ]
