-- Comparing, cutting and stripping, as code does it and as the format says it.
use Rattle.std.proofs.Common.{◌≡◌, ℕ, suc, ◌+◌, ◌-◌, Bool, true, false, cond, not, eqb, ltb, List, [], ◌∷◌, ◌++◌, length, take, drop, Some, None, inl, inr, sym, refl, ap, ◌∙◌, add-one, arith, Bor, MatchOption}
use Rattle.std.specs.List.{position_or_len}
use Rattle.std.specs.Cmp.Lexicographic.{pointwise}
use mathlib.Core.Option.{Option, none, some}
use Rattle.std.specs.declared.option.Option as rust
use Rattle.std.proofs.lemmas.List.{take_rest}
use Rattle.std.proofs.lemmas.Bool.{cases_lt, lt-ltb, le-ltb, cond-true, cond-false}
use Rattle.book.specs.Names.{same}
use Rattle.format.specs.Bytes.{Bytes, cut, further, strip}
use Rattle.format.proofs.Cutting.{same_true, strip_some, strip_at}

pub same_is : (xs ys : Bytes) → same xs ys ≡ pointwise eqb xs ys
same_is [] [] = refl
same_is [] (y ∷ ys) = refl
same_is (x ∷ xs) [] = refl
same_is (x ∷ xs) (y ∷ ys) = rw (same_is xs ys) refl

pub other_length : (xs ys : Bytes) → (length xs ≡ length ys → ⊥) → same xs ys ≡ false
other_length xs ys ne = go (same xs ys) refl
  where
    go : (t : Bool) → same xs ys ≡ t → same xs ys ≡ false
    go true e = absurd (ne (ap length (same_true xs ys e)))
    go false e = e

-- what `position` answers, where p is the place that it seeks among n
module _ (p n : ℕ) (r : rust.Option ℕ) (is : r ≡ cond (ltb p n) (Some p) None) where
  pub position_some : (i : ℕ) → r ≡ Some i → (p ≡ i) × (ltb p n ≡ true)
  position_some i e = go (ltb p n) refl (sym is ∙ e)
    where
      go : (t : Bool) → ltb p n ≡ t → cond t (Some p) None ≡ Some i → (p ≡ i) × (ltb p n ≡ true)
      go true t h = ((cc), t)
      go false t h = absurd (cc)

  pub position_none : r ≡ None → ltb p n ≡ false
  position_none e = go (ltb p n) refl (sym is ∙ e)
    where
      go : (t : Bool) → ltb p n ≡ t → cond t (Some p) None ≡ None → ltb p n ≡ false
      go true t h = absurd (cc)
      go false t h = t

pub both_more : (p n : ℕ) → ltb p n ≡ ltb (suc p) (suc n)
both_more p n =
    elim (cases_lt p n) [
      | inl l ↦ lt-ltb p n l ∙ sym (lt-ltb (suc p) (suc n) (omega arith))
      | inr l ↦ le-ltb p n l ∙ sym (le-ltb (suc p) (suc n) (omega arith))
    ]

-- the place of the first separator, or the length
abbrev pub place : ℕ → Bytes → ℕ
place sep s = position_or_len (λ b. eqb b sep) s

cut_first : (sep : ℕ) (s : Bytes) → cut sep s ≡ cond (ltb (place sep s) (length s)) (some (take (place sep s) s, drop (suc (place sep s)) s)) none
cut_first sep [] = refl
cut_first sep (b ∷ s) = go (eqb b sep) (place sep s) (cut_first sep s)
  where
    next : (t : Bool) (p : ℕ) → cut sep s ≡ cond t (some (take p s, drop (suc p) s)) none
        → further b (cut sep s) ≡ cond t (some (b ∷ take p s, drop (suc p) s)) none
    next true p h = ap (further b) h
    next false p h = ap (further b) h

    go : (t : Bool) (p : ℕ) → cut sep s ≡ cond (ltb p (length s)) (some (take p s, drop (suc p) s)) none
        → cond t (some ([], s)) (further b (cut sep s))
        ≡ cond (ltb (cond (not t) (1 + p) 0) (length (b ∷ s))) (some (take (cond (not t) (1 + p) 0) (b ∷ s), drop (suc (cond (not t) (1 + p) 0)) (b ∷ s))) none
    go true p h = sym (cond-true _ _ _ (lt-ltb 0 (length (b ∷ s)) (omega arith)))
    go false p h =
        let e : suc p ≡ 1 + p = omega arith in
        next (ltb p (length s)) p h
        ∙ ap (λ (t : Bool). cond t (some (take (suc p) (b ∷ s), drop (suc (suc p)) (b ∷ s))) none) (both_more p (length s))
        ∙ ap (λ (k : ℕ). cond (ltb k (length (b ∷ s))) (some (take k (b ∷ s), drop (suc k) (b ∷ s))) none) e

pub cut_here : (sep : ℕ) (s : Bytes) (i : ℕ) → place sep s ≡ i → ltb (place sep s) (length s) ≡ true
    → cut sep s ≡ some (take i s, take (length s - (i + 1)) (drop (i + 1) s))
cut_here sep s i e t =
    cut_first sep s ∙ cond-true _ _ _ t ∙ ap (λ (k : ℕ). some (take k s, drop (suc k) s)) e
    ∙ ap (λ (k : ℕ). some (take i s, drop k s)) (sym (add-one i)) ∙ ap (λ (x : Bytes). some (take i s, x)) (sym (take_rest s (i + 1)))

pub cut_nowhere : (sep : ℕ) (s : Bytes) → ltb (place sep s) (length s) ≡ false → cut sep s ≡ none
cut_nowhere sep s t = cut_first sep s ∙ cond-false _ _ _ t

no_strip : (s key : Bytes) → ((rest : Bytes) → s ≡ key ++ rest → ⊥) → (o : Option Bytes) → strip key s ≡ o → strip key s ≡ none
no_strip s key h none e = e
no_strip s key h (some v) e = absurd (h v (strip_some key s v e))

pub stripped_is : (s key : Bytes) (r : rust.Option (Bor (List ℕ))) → MatchOption r ((rest : Bytes) → s ≡ key ++ rest → ⊥) (λ x. s ≡ key ++ x.now)
    → MatchOption r (strip key s ≡ none) (λ v. strip key s ≡ some v.now)
stripped_is s key None h = no_strip s key h (strip key s) refl
stripped_is s key (Some v) h = ap (strip key) h ∙ strip_at key v.now
