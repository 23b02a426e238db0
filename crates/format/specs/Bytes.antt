-- Texts, lines, values and names as bytes. Assumes nothing.
--   Bytes            a list of bytes
--   cut sep v        what stands before and behind the first byte sep of v, if it has one
--   strip key v      what follows the key, if v begins with it
--   parts sep v      the parts of v between the bytes sep
--   joined sep ps    the parts with one byte sep between two
--   decimal n        a number below 1000 in decimal, with no leading zero
--   worth n v        what the digits v are worth behind digits that are worth n
use Rattle.std.specs.Prelude.{ℕ, ◌+◌, ◌-◌, ◌*◌, ◌/◌, ◌%◌, cond, List, [], ◌∷◌, ◌++◌, ◌==◌, nat_lt}
use Rattle.std.proofs.Math.Option.{Option, none, some}

-- a text, a line, a value or a name
abbrev pub Bytes : Type 0
Bytes = List ℕ

-- the two parts, with one more byte in front of the first
abbrev pub further : ℕ → Option (Bytes × Bytes) → Option (Bytes × Bytes)
further b none = none
further b (some c) = some (b ∷ c.0, c.1)

-- what stands before the first such byte and what stands behind it, if there is one
abbrev pub cut : ℕ → Bytes → Option (Bytes × Bytes)
cut sep [] = none
cut sep (b ∷ bs) = cond (b == sep) (some ([], bs)) (further b (cut sep bs))

-- what follows the key, if the bytes begin with it
abbrev pub strip : Bytes → Bytes → Option Bytes
strip [] bs = some bs
strip (k ∷ ks) [] = none
strip (k ∷ ks) (b ∷ bs) = cond (k == b) (strip ks bs) none

-- one more byte in front of the first part
abbrev pub longer : ℕ → List Bytes → List Bytes
longer b [] = (b ∷ []) ∷ []
longer b (p ∷ ps) = (b ∷ p) ∷ ps

-- the parts between such bytes: one more than there are such bytes
abbrev pub parts : ℕ → Bytes → List Bytes
parts sep [] = [] ∷ []
parts sep (b ∷ bs) = cond (b == sep) ([] ∷ parts sep bs) (longer b (parts sep bs))

-- the parts, each with such a byte in front
abbrev pub joined_on : ℕ → List Bytes → Bytes
joined_on sep [] = []
joined_on sep (p ∷ ps) = sep ∷ (p ++ joined_on sep ps)

-- the parts with exactly one such byte between two
abbrev pub joined : ℕ → List Bytes → Bytes
joined sep [] = []
joined sep (p ∷ ps) = p ++ joined_on sep ps

-- a number below 1000 in decimal, with no leading zero
abbrev pub decimal : ℕ → Bytes
decimal n =
    cond (nat_lt n 10) ((48 + n) ∷ [])
    (cond (nat_lt n 100) ((48 + n / 10) ∷ (48 + n % 10) ∷ []) ((48 + n / 100) ∷ (48 + n / 10 % 10) ∷ (48 + n % 10) ∷ []))

-- what the bytes are worth as digits, behind digits that are worth n
abbrev pub worth : ℕ → Bytes → ℕ
worth n [] = n
worth n (b ∷ bs) = worth (n * 10 + (b - 48)) bs
