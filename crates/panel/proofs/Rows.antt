-- Rows: lists that are made from a function of the place, and what reads and writes make of them.
use Rattle.std.specs.Prelude.{◌≡◌, ℕ, ◌<◌, Bool, true, false, cond, ltb, ◌≢◌, ◌⊎◌, length, get_or, replicate, Some, None, nat_lt, slice_index_or, slice_set}
use Rattle.std.proofs.Common.{sym, ap, ◌∙◌, inl, inr, zero-add, arith, length-set}
use Rattle.std.proofs.lemmas.List.FromFn.{get_or-map-range_with_len}
use Rattle.std.proofs.lemmas.List.{same_lists, get_or-set_same, get_or-set_other, set_past, length-replicate, get_or-replicate}
use Rattle.std.proofs.lemmas.Bool.{ltb-true, ltb-false, cond-true, cond-false, cases_eq}
use Rattle.std.specs.Bool.{then_some}
use Rattle.panel.specs.Settings.{row}
use Rattle.panel.specs.Lengths.{length_row}

module _ {X : Type 0} (n : ℕ) (f : ℕ → X) where
  pub get_row : (i : ℕ) (d : X) → i < n → slice_index_or (row n f) i d ≡ f i
  get_row i d h = get_or-map-range_with_len f 0 n i i d h (zero-add i)

  -- place i is within the row exactly if it is below n
  pub within_row : (i : ℕ) → nat_lt i (length (row n f)) ≡ nat_lt i n
  within_row i = ap (λ (m : ℕ). ltb i m) (length_row n f)

  -- a read at a place of the row, and at none
  pub read_row :
      {Y : Type 0} (h : X → Y) (i : ℕ) (d : X) (t : Bool) → t ≡ nat_lt i n →
      then_some t (h (f i)) ≡ cond (nat_lt i (length (row n f))) (Some (h (slice_index_or (row n f) i d))) None
  read_row h i d true e =
      sym (cond-true _ _ _ (within_row i ∙ sym e) ∙ ap (λ (x : X). Some (h x)) (get_row i d (ltb-true i n (sym e))))
  read_row h i d false e = sym (cond-false _ _ _ (within_row i ∙ sym e))

  -- a write at no place of the row
  pub set_row_past : (i : ℕ) (x : X) → false ≡ nat_lt i n → row n f ≡ slice_set (row n f) i x
  set_row_past i x e = sym (set_past (row n f) i x (omega (arith, length_row n f, ltb-false i n (sym e))))

-- a write at place i: the row that has x there and is the same elsewhere
pub set_row : {X : Type 0} (n i : ℕ) (f g : ℕ → X) (x : X) → (i < n → g i ≡ x) → ((j : ℕ) → j ≢ i → g j ≡ f j) → row n g ≡ slice_set (row n f) i x
set_row {X} n i f g x here other =
    same_lists _ _ (length_row n g ∙ sym (length-set (row n f) i x ∙ length_row n f))
    (λ k d l. at k d (omega (arith, length_row n g)) (cases_eq k i))
  where
    at : (k : ℕ) (d : X) → k < n → (k ≡ i) ⊎ (k ≢ i) → slice_index_or (row n g) k d ≡ slice_index_or (slice_set (row n f) i x) k d
    at k d l (inl e) =
        get_row n g k d l ∙ ap g e ∙ here (omega arith)
        ∙ sym (get_or-set_same (row n f) i x d (omega (arith, length_row n f))) ∙ ap (λ (m : ℕ). get_or (slice_set (row n f) i x) m d) (sym e)
    at k d l (inr ne) = get_row n g k d l ∙ other k ne ∙ sym (get_row n f k d l) ∙ sym (get_or-set_other (row n f) i k x d ne)

-- rows that agree at each place are one
pub row_ext : {X : Type 0} (n : ℕ) (f g : ℕ → X) → ((j : ℕ) → j < n → f j ≡ g j) → row n f ≡ row n g
row_ext n f g same =
    same_lists _ _ (length_row n f ∙ sym (length_row n g))
    (λ k d l. let h : k < n = omega (arith, length_row n f) in get_row n f k d h ∙ same k h ∙ sym (get_row n g k d h))

-- a row with the same at each place
pub row_const : {X : Type 0} (n : ℕ) (x : X) → row n (λ _. x) ≡ replicate n x
row_const n x =
    same_lists _ _ (length_row n (λ _. x) ∙ sym (length-replicate n x))
    (λ k d l. let h : k < n = omega (arith, length_row n (λ _. x)) in get_row n (λ _. x) k d h ∙ sym (get_or-replicate n k x d h))
