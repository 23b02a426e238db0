-- What a word means as a set of latches. Assumes nothing.
--   most_latches      how many latches there can be
--   no_latch          the set with no latch
--   has s i           latch i is in s
--   has_passed n p i  latch i is one of the first n, there can be such a latch, and it passes the test p
--   has_with s i      the members of s and, if there can be such a latch, latch i
--   has_without s i   the members of s but latch i
--   has_put s i b     the one if b, else the other
--   has_either s t    the members of s and of t
--   has_both s t      the members of s that are members of t
--   has_minus s t     the members of s but those of t
--   Empty s           no latch is in s
--   Below n s         each latch of s is one of the first n
--   Lowest s o        o is the lowest latch of s, if there is one
use Rattle.std.specs.Prelude.{◌≡◌, ℕ, ◌<◌, Bool, true, false, cond, not, ◌&&◌, ◌||◌, Option, MatchOption, ◌==◌, nat_lt}
use Rattle.words.specs.declared.LatchSet.{LatchSet}
use Rattle.words.specs.Bit.{set?}

-- how many latches there can be: a set has latches 0 to 31
abbrev pub most_latches : ℕ
most_latches = 32

-- the set with no latch
abbrev pub no_latch : LatchSet
no_latch = record { word = 0 }

-- latch i is in the set
abbrev pub has : LatchSet → ℕ → Bool
has s i = set? s.word i

-- latch j is one of the first n, there can be such a latch, and it passes the test
abbrev pub has_passed : ℕ → (ℕ → Bool) → ℕ → Bool
has_passed n p j = (nat_lt j n && nat_lt j most_latches) && p j

-- latch j is in the set with latch i; no set has a latch beyond the most
abbrev pub has_with : LatchSet → ℕ → ℕ → Bool
has_with s i j = has s j || (j == i && nat_lt i most_latches)

-- latch j is in the set without latch i
abbrev pub has_without : LatchSet → ℕ → ℕ → Bool
has_without s i j = has s j && not (j == i)

-- latch j is in the set once latch i is put in it if b, else taken out
abbrev pub has_put : LatchSet → ℕ → Bool → ℕ → Bool
has_put s i b j = cond b (has_with s i j) (has_without s i j)

-- latch j is in one of the sets
abbrev pub has_either : LatchSet → LatchSet → ℕ → Bool
has_either s t j = has s j || has t j

-- latch j is in both sets
abbrev pub has_both : LatchSet → LatchSet → ℕ → Bool
has_both s t j = has s j && has t j

-- latch j is in the one set and not in the other
abbrev pub has_minus : LatchSet → LatchSet → ℕ → Bool
has_minus s t j = has s j && not (has t j)

-- no latch is in the set
abbrev pub Empty : LatchSet → Type 0
Empty s = (j : ℕ) → has s j ≡ false

-- each latch of the set is one of the first n
abbrev pub Below : ℕ → LatchSet → Type 0
Below n s = (j : ℕ) → has s j ≡ true → j < n

-- the lowest latch of the set: it is in the set, none before it is, and it is one that there can be
abbrev pub Lowest : LatchSet → Option ℕ → Type 0
Lowest s o = MatchOption o (Empty s) (λ i. (has s i ≡ true) × ((j : ℕ) → j < i → has s j ≡ false) × (i < most_latches))
