-- Arrays that are filled by calls of a closure that changes nothing it captures.
use Rattle.std.proofs.Common.{◌≡◌, ℕ, zero, suc, ◌+◌, ◌<◌, ◌≤◌, List, get_or, sym, subst, inl, inr, arith}
use Rattle.std.proofs.lemmas.Bool.{cases_eq}
use Rattle.std.specs.Array.{IsFromFnResultFrom}
use Rattle.std.specs.Fn.{Mut, Called}

module _ {F B : Type 0} (g : Mut F (ℕ × Unit {0}) B) (f : F) (R : ℕ → B → Type 0) (step : (i : ℕ) (y : B) (q : F) → Called g f (i, tt) y q → (q ≡ f) × R i y) where
  -- the array from place i on, n places: what each call gives holds of the element at its place
  pub filled : (ys : List B) (i n : ℕ) → IsFromFnResultFrom g f ys i n → (k : ℕ) → i ≤ k → k < i + n → (d : B) → R k (get_or ys k d)
  filled ys i zero h k l m d = absurd (omega arith)
  filled ys i (suc n) (q, y, e, r, h) k l m d =
      elim (cases_eq k i) [
        | inl s ↦ subst (λ (j : ℕ). R j (get_or ys j d)) (sym s) (subst (R i) (sym (e.1 d)) (step i y q r).1)
        | inr ne ↦
            filled ys (i + 1) n (subst (λ (p : F). IsFromFnResultFrom g p ys (i + 1) n) (step i y q r).0 h) k (omega arith) (omega arith) d
      ]
