-- Single bits of a word, numbered from the lowest. Assumes nothing.
--   bit w i              bit i of w as a number, 0 or 1
--   set? w i             bit i of w is 1
--   AllClear w           no bit of w is set
--   AllClearFrom n w     no bit of w from n on is set
use Rattle.std.specs.Prelude.{◌≡◌, ℕ, ◌/◌, ◌%◌, ◌^◌, ◌<◌, Bool, true, false, ◌==◌}

-- bit i of w
abbrev pub bit : ℕ → ℕ → ℕ
bit w i = w / 2 ^ i % 2

-- bit i of w is 1
abbrev pub set? : ℕ → ℕ → Bool
set? w i = bit w i == 1

-- no bit is set
abbrev pub AllClear : ℕ → Type 0
AllClear w = (j : ℕ) → set? w j ≡ false

-- each bit that is set is one of the first n
abbrev pub AllClearFrom : ℕ → ℕ → Type 0
AllClearFrom n w = (j : ℕ) → set? w j ≡ true → j < n
