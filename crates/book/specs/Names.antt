-- Names of latches, as bytes. Assumes nothing.
--   most_chars     the most characters that a name has
--   name_char c    the character c may stand in a name
--   name_chars v   each byte of v may
--   well_named v   v is a name: 1 to 11 such bytes
--   same v w       v and w are the same bytes
use Rattle.std.specs.Prelude.{ℕ, Bool, true, false, ◌&&◌, ◌||◌, List, [], ◌∷◌, length, ◌==◌, nat_le}
use Rattle.std.specs.List.{list_all}

-- the most characters of a name
abbrev pub most_chars : ℕ
most_chars = 11

-- A to Z, 0 to 9 or a hyphen, by its code
abbrev pub name_char : ℕ → Bool
name_char c = (nat_le 65 c && nat_le c 90) || (nat_le 48 c && nat_le c 57) || c == 45

-- each of them may stand in a name
abbrev pub name_chars : List ℕ → Bool
name_chars v = list_all name_char v

-- 1 to 11 such bytes
abbrev pub well_named : List ℕ → Bool
well_named v = nat_le 1 (length v) && (nat_le (length v) most_chars && name_chars v)

-- the two are the same, as a test
abbrev pub same : List ℕ → List ℕ → Bool
same [] [] = true
same [] (y ∷ ys) = false
same (x ∷ xs) [] = false
same (x ∷ xs) (y ∷ ys) = x == y && same xs ys
