-- Settings of panels: how they are made, and what looks, throws and masks make of them. Assumes nothing.
-- A setting has a place for each latch, latch 0 first: false at position 0, true at position 1. Its length is the panel's width.
--   widest          the most latches that a panel has
--   row n f         n places, with f i at place i
--   digit b         a position as a number, 0 or 1
--   within? s i     latch i is one of the panel's
--   looked s i      what a look at latch i answers
--   thrown s i b    the setting after a throw of latch i to position b
--   clamped n       the width from 1 to the widest that is nearest to n
--   made n w        the setting that is made from a width and a word of positions
--   differs a b     just one of a and b holds
--   flipped m s     s with the positions of the latches in m reversed
use Rattle.std.specs.Prelude.{ℕ, min, max, Bool, true, false, cond, not, List, map, length, Some, None, Option, nat_lt, slice_index_or, slice_set}
use Rattle.std.specs.Bool.{beq}
use Rattle.std.specs.List.{range_with_len}
use Rattle.words.specs.declared.LatchSet.{LatchSet}
use Rattle.words.specs.Bit.{set?}
use Rattle.words.specs.Sets.{most_latches, has}

-- the most latches that a panel has
abbrev pub widest : ℕ
widest = most_latches

-- n places, with f i at place i
abbrev pub row : {X : Type 0} → ℕ → (ℕ → X) → List X
row n f = map f (range_with_len 0 n)

-- a position as a number
abbrev pub digit : Bool → ℕ
digit false = 0
digit true = 1

-- latch i is one of the panel's
abbrev pub within? : List Bool → ℕ → Bool
within? s i = nat_lt i (length s)

-- what a look at latch i answers: none at and beyond the width
abbrev pub looked : List Bool → ℕ → Option ℕ
looked s i = cond (within? s i) (Some (digit (slice_index_or s i false))) None

-- the setting after a throw of latch i to position b: the same at and beyond the width
abbrev pub thrown : List Bool → ℕ → Bool → List Bool
thrown s i b = slice_set s i b

-- the width from 1 to the widest that is nearest to n
abbrev pub clamped : ℕ → ℕ
clamped n = max 1 (min n widest)

-- the setting that is made from a width and a word of positions: the lowest bits of the word
abbrev pub made : ℕ → ℕ → List Bool
made n w = row (clamped n) (set? w)

-- just one of the two holds
abbrev pub differs : Bool → Bool → Bool
differs a b = not (beq a b)

-- the setting with the positions of the latches in m reversed
abbrev pub flipped : LatchSet → List Bool → List Bool
flipped m s = row (length s) (λ i. differs (slice_index_or s i false) (has m i))
