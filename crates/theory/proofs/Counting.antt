-- How many numbers below n pass a test.
use Rattle.std.proofs.Common.{◌≡◌, ℕ, zero, suc, ◌<◌, ◌≤◌, Bool, true, false, sym, refl, ap, ◌∙◌, inl, inr, arith}
use Rattle.std.proofs.lemmas.Bool.{both_ways, false_from_ne_true}
use Rattle.theory.proofs.Searches.{below_cases}

abbrev add_if : Bool → ℕ → ℕ
add_if true n = suc n
add_if false n = n

unfoldable pub count : (ℕ → Bool) → ℕ → ℕ
count test zero = 0
count test (suc n) = add_if (test n) (count test n)

add_if_le : (a b : Bool) (m n : ℕ) → (a ≡ true → b ≡ true) → m ≤ n → add_if a m ≤ add_if b n
add_if_le true true m n h l = omega arith
add_if_le true false m n h l = absurd (both_ways false refl (h refl))
add_if_le false true m n h l = omega arith
add_if_le false false m n h l = l

add_if_lt : (a b : Bool) (m n : ℕ) → (a ≡ true → b ≡ true) → m < n → add_if a m < add_if b n
add_if_lt true true m n h l = omega arith
add_if_lt true false m n h l = absurd (both_ways false refl (h refl))
add_if_lt false true m n h l = omega arith
add_if_lt false false m n h l = l

pub count_le : (p q : ℕ → Bool) (n : ℕ) → ((u : ℕ) → u < n → p u ≡ true → q u ≡ true) → count p n ≤ count q n
unfolding count
count_le p q zero h = omega arith
count_le p q (suc n) h = add_if_le (p n) (q n) _ _ (h n (omega arith)) (count_le p q n (λ u l. h u (omega arith)))

-- a test that passes less often, and not at w, counts fewer
pub count_lt : (p q : ℕ → Bool) (n w : ℕ) → ((u : ℕ) → u < n → p u ≡ true → q u ≡ true) → w < n → p w ≡ false → q w ≡ true → count p n < count q n
unfolding count
count_lt p q zero w h l a b = absurd (omega arith)
count_lt p q (suc n) w h l a b =
    elim (below_cases w n l) [
      | inl l' ↦ add_if_lt (p n) (q n) _ _ (h n (omega arith)) (count_lt p q n w (λ u k. h u (omega arith)) l' a b)
      | inr e ↦
          let a' : p n ≡ false = sym (ap p e) ∙ a in
          let b' : q n ≡ true = sym (ap q e) ∙ b in
          let less = count_le p q n (λ u k. h u (omega arith)) in
          rw (a', b') (omega (arith, less))
    ]

pub count_bound : (p : ℕ → Bool) (n : ℕ) → count p n ≤ n
unfolding count
count_bound p zero = omega arith
count_bound p (suc n) =
    let b = count_bound p n in
    elim (p n) as (λ x. add_if x (count p n) ≤ suc n) [ true ↦ omega arith | false ↦ omega arith ]

pub count_none : (p : ℕ → Bool) (n u : ℕ) → count p n ≤ 0 → u < n → p u ≡ false
count_none p n u h l =
    false_from_ne_true (p u) (λ e. let k = count_lt (λ _. false) p n u (λ w _ f. absurd (both_ways false refl f)) l refl e in omega arith)
