-- How long rows and flipped settings are, for the laws of panels. Assumes nothing.
--   length_row n f       a row of n places has length n
--   length_flipped m s   a setting seen through a mask is as long as before
use Rattle.std.specs.Prelude.{◌≡◌, ℕ, Bool, false, List, length, slice_index_or}
use Rattle.std.proofs.lemmas.List.FromFn.{length-map-range_with_len}
use Rattle.words.specs.declared.LatchSet.{LatchSet}
use Rattle.words.specs.Sets.{has}
use Rattle.panel.specs.Settings.{row, differs, flipped}

pub length_row : {X : Type 0} (n : ℕ) (f : ℕ → X) → length (row n f) ≡ n
length_row n f = length-map-range_with_len f 0 n

pub length_flipped : (m : LatchSet) (s : List Bool) → length (flipped m s) ≡ length s
length_flipped m s = length_row (length s) (λ i. differs (slice_index_or s i false) (has m i))
