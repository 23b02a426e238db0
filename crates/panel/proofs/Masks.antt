-- A setting seen through a mask: what looks and throws make of it.
use Rattle.std.specs.Prelude.{◌≡◌, ℕ, ◌-◌, ◌<◌, Bool, true, false, cond, List, length, Some, None, slice_index_or, slice_set, refl}
use Rattle.std.proofs.Common.{sym, ap, ◌∙◌, inl, inr, arith, length-set}
use Rattle.std.proofs.lemmas.List.{get_or-set_same, get_or-set_other}
use Rattle.std.proofs.lemmas.Bool.{lt-ltb, le-ltb, cond-true, cond-false, cases_lt}
use Rattle.words.specs.declared.LatchSet.{LatchSet}
use Rattle.words.specs.Sets.{has}
use Rattle.panel.specs.Settings.{row, digit, within?, looked, thrown, differs, flipped}
use Rattle.panel.proofs.Rows.{within_row, read_row, set_row}

differs_twice : (a b : Bool) → differs (differs a b) b ≡ a
differs_twice true true = refl
differs_twice true false = refl
differs_twice false true = refl
differs_twice false false = refl

-- a position as a number, reversed if t
turned : (x t : Bool) (b : ℕ) → b ≡ digit x → cond t (1 - b) b ≡ digit (differs x t)
turned true true b e = ap (λ (k : ℕ). 1 - k) e
turned true false b e = e
turned false true b e = ap (λ (k : ℕ). 1 - k) e
turned false false b e = e

-- what a look's answer tells
some_looked : (s : List Bool) (i b : ℕ) → Some b ≡ looked s i → (i < length s) × (b ≡ digit (slice_index_or s i false))
some_looked s i b e =
    elim (cases_lt i (length s)) [
      | inl h ↦ let q : looked s i ≡ Some (digit (slice_index_or s i false)) = cond-true _ _ _ (lt-ltb i (length s) h) in (h, cc)
      | inr h ↦
          let q : looked s i ≡ None = cond-false _ _ _ (le-ltb i (length s) h) in
          let z : ◌≡◌ {A = ℕ} 0 1 = cc in
          absurd (omega arith)
    ]

none_looked : (s : List Bool) (i : ℕ) → None ≡ looked s i → within? s i ≡ false
none_looked s i e =
    elim (cases_lt i (length s)) [
      | inl h ↦
          let q : looked s i ≡ Some (digit (slice_index_or s i false)) = cond-true _ _ _ (lt-ltb i (length s) h) in
          let z : ◌≡◌ {A = ℕ} 0 1 = cc in
          absurd (omega arith)
      | inr h ↦ le-ltb i (length s) h
    ]

module _ (m : LatchSet) (s : List Bool) where
  pub within_flipped : (i : ℕ) → within? (flipped m s) i ≡ within? s i
  within_flipped i = within_row (length s) (λ j. differs (slice_index_or s j false) (has m j)) i

  -- a look at a latch of the panel, and at none
  pub looked_flipped : (i b : ℕ) (t : Bool) → Some b ≡ looked s i → t ≡ has m i → Some (cond t (1 - b) b) ≡ looked (flipped m s) i
  looked_flipped i b t e q =
      let p = some_looked s i b e in
      ap (λ (k : ℕ). Some k) (turned (slice_index_or s i false) t b p.1 ∙ ap (λ (x : Bool). digit (differs (slice_index_or s i false) x)) q)
      ∙ read_row (length s) (λ j. differs (slice_index_or s j false) (has m j)) digit i false true (sym (lt-ltb i (length s) p.0))

  pub looked_flipped_past : (i : ℕ) → None ≡ looked s i → None ≡ looked (flipped m s) i
  looked_flipped_past i e = read_row (length s) (λ j. differs (slice_index_or s j false) (has m j)) digit i false false (sym (none_looked s i e))

  -- a throw below, to the opposite where the mask has the latch
  pub thrown_flipped : (u : List Bool) (i : ℕ) (b t : Bool) → u ≡ thrown s i (differs b t) → t ≡ has m i → flipped m u ≡ thrown (flipped m s) i b
  thrown_flipped u i b t e q =
      ap (λ (v : List Bool). flipped m v) e ∙ ap (λ (n : ℕ). row n (λ j. differs (slice_index_or (slice_set s i (differs b t)) j false) (has m j))) (length-set s i (differs b t))
      ∙ set_row (length s) i _ _ b
      (λ l.
      ap (λ (x : Bool). differs x (has m i)) (get_or-set_same s i (differs b t) false l)
      ∙ ap (λ (x : Bool). differs (differs b t) x) (sym q) ∙ differs_twice b t)
      (λ j ne. ap (λ (x : Bool). differs x (has m j)) (get_or-set_other s i j (differs b t) false ne))
