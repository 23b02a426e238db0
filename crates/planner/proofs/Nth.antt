-- What stands at a place of lists joined together.
use Rattle.std.proofs.Common.{◌≡◌, ℕ, zero, suc, ◌-◌, ◌<◌, ◌≤◌, List, [], ◌∷◌, ◌++◌, length, refl, ap, ◌∙◌, arith}
use Rattle.planner.specs.Lookup.{nth}

pub nth_left : {A : Type 0} (xs ys : List A) (k : ℕ) → k < length xs → nth (xs ++ ys) k ≡ nth xs k
nth_left [] ys k l = absurd (omega arith)
nth_left (x ∷ xs) ys zero l = refl
nth_left (x ∷ xs) ys (suc k) l = nth_left xs ys k (omega arith)

pub nth_right : {A : Type 0} (xs ys : List A) (k : ℕ) → length xs ≤ k → nth (xs ++ ys) k ≡ nth ys (k - length xs)
nth_right [] ys k l = let e : k ≡ k - 0 = omega arith in ap (nth ys) e
nth_right (x ∷ xs) ys zero l = absurd (omega arith)
nth_right (x ∷ xs) ys (suc k) l =
    let e : k - length xs ≡ suc k - suc (length xs) = omega arith in
    nth_right xs ys k (omega arith) ∙ ap (nth ys) e

-- the list behind a list whose length is known
pub nth_behind : {A : Type 0} (xs ys : List A) (k n r : ℕ) → n ≡ length xs → n ≤ k → r ≡ k - n → nth (xs ++ ys) k ≡ nth ys r
nth_behind xs ys k n r e l p =
    let same : k - length xs ≡ r = omega arith in
    nth_right xs ys k (omega arith) ∙ ap (nth ys) same

-- behind the first element
pub nth_next : {A : Type 0} (x : A) (xs : List A) (k r : ℕ) → (k ≡ 0 → ⊥) → r ≡ k - 1 → nth (x ∷ xs) k ≡ nth xs r
nth_next x xs zero r h p = absurd (h refl)
nth_next x xs (suc k) r h p = let e : k ≡ r = omega arith in ap (nth xs) e
