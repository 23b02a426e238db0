-- Searches through lists and through the numbers below a bound, as tests that compute. Assumes nothing.
--   In xs x                x stands in xs
--   some_of, all_of        some element of a list passes a test; each one does
--   has xs u               the number u stands in xs, as a test
--   some_below, all_below  the same of the numbers below n
--   or_else a b            a if it is an answer, else b
--   lowest test n          the lowest number below n that passes
use Rattle.std.specs.Prelude.{◌≡◌, ℕ, zero, suc, Bool, true, false, cond, ◌&&◌, ◌||◌, ◌⊎◌, List, [], ◌∷◌, nat_eq}
use Rattle.std.specs.List.{list_any, list_all}
use Rattle.std.proofs.Math.Option.{Option, none, some}

-- x is an element of the list
abbrev pub In : {A : Type 0} → List A → A → Type 0
In [] x = ⊥
In (y ∷ ys) x = (y ≡ x) ⊎ In ys x

-- some element passes
abbrev pub some_of : {A : Type 0} → (A → Bool) → List A → Bool
some_of test xs = list_any test xs

-- each element passes
abbrev pub all_of : {A : Type 0} → (A → Bool) → List A → Bool
all_of test xs = list_all test xs

-- u is an element, as a test
abbrev pub has : List ℕ → ℕ → Bool
has vs u = some_of (λ v. nat_eq v u) vs

-- some number below n passes
abbrev pub some_below : (ℕ → Bool) → ℕ → Bool
some_below test zero = false
some_below test (suc n) = some_below test n || test n

-- each number below n passes
abbrev pub all_below : (ℕ → Bool) → ℕ → Bool
all_below test zero = true
all_below test (suc n) = all_below test n && test n

-- the first answer if there is one, else the second
abbrev pub or_else : Option ℕ → Option ℕ → Option ℕ
or_else (some u) other = some u
or_else none other = other

-- the lowest number below n that passes
abbrev pub lowest : (ℕ → Bool) → ℕ → Option ℕ
lowest test zero = none
lowest test (suc n) = or_else (lowest test n) (cond (test n) (some n) none)
