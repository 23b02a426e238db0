-- Errands as two sets of latches: those named, and those of them wanted at 1. Assumes nothing.
--   errand_of named wanted     the errand: each latch named is wanted at 1 if it is in `wanted`, else at 0
--   Names r named wanted       each latch named is one of the book's, and each latch wanted at 1 is named
--   below? n s                 each latch of s is one of the first n, as a test
--   names? r named wanted      Names as a test
use Rattle.std.specs.Prelude.{◌≡◌, ℕ, ◌/◌, ◌^◌, ◌<◌, Bool, true, false, not, ◌&&◌, ◌||◌, ◌==◌}
use Rattle.words.specs.declared.LatchSet.{LatchSet}
use Rattle.words.specs.Sets.{has}
use Rattle.theory.specs.Searches.{all_below}
use Rattle.theory.specs.Tasks.{any, ask_for}
use Rattle.rules.specs.Rules.{Rules, Errand}

-- a latch that is named is wanted at 1 if it is in the second set, else at 0
abbrev pub errand_of : LatchSet → LatchSet → Errand
errand_of named wanted u = elim (has named u) [ true ↦ ask_for (has wanted u) | false ↦ any ]

-- only latches of the book are named, and position 1 is given to none that is not named
pub record Names (r : Rules) (named wanted : LatchSet) : Type 0 where
  pub known : (u : ℕ) → has named u ≡ true → u < r.latches
  pub given : (u : ℕ) → has wanted u ≡ true → has named u ≡ true

-- the word has no bit from n on
abbrev pub below? : ℕ → LatchSet → Bool
below? n s = s.word / 2 ^ n == 0

-- Names as a test
abbrev pub names? : Rules → LatchSet → LatchSet → Bool
names? r named wanted =
    below? r.latches named && (below? r.latches wanted && all_below (λ u. not (has wanted u) || has named u) r.latches)
