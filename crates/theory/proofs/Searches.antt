-- What the searches of specs/Searches say when they pass and when they fail.
use Rattle.std.proofs.Common.{◌≡◌, ◌≢◌, Decides, ℕ, zero, suc, ◌<◌, Bool, true, false, cond, eqb, ◌⊎◌, List, [], ◌∷◌, sym, refl, ap, ◌∙◌, subst, inl, inr, arith}
use mathlib.Core.Bool.{beq}
use Rattle.std.proofs.Math.Bool.{and_comm, or_comm}
use mathlib.Core.Option.{Option, none, some}
use Rattle.std.specs.Cmp.{booleans_Decides}
use Rattle.std.proofs.lemmas.Bool.{both_ways, or_cases, or_left, or_right, and_parts, and_from, and_cases, cases_lt, false_from_ne_true, eqb-true, eq-eqb}
use Rattle.std.proofs.lemmas.Bool.Decides.{Decides-below_and, Decides-below_or}
use Rattle.theory.specs.Searches.{In, has, some_of, all_of, some_below, all_below, lowest, or_else}

-- an element is another one than what the list lacks
pub apart_from : {A : Type 0} {v u : A} (xs : List A) → (In xs v → ⊥) → In xs u → v ≢ u
apart_from xs out i d = out (subst (In xs) (sym d) i)

pub some_of_true : {A : Type 0} (test : A → Bool) (xs : List A) → some_of test xs ≡ true → (x : A) × In xs x × (test x ≡ true)
some_of_true test [] h = absurd (both_ways false refl h)
some_of_true test (x ∷ xs) h =
    elim (or_cases (test x) (some_of test xs) h) [
      | inl a ↦ (x, inl refl, a)
      | inr b ↦ let r = some_of_true test xs b in (r.0, inr r.1, r.2)
    ]

pub some_of_from : {A : Type 0} (test : A → Bool) (xs : List A) (x : A) → In xs x → test x ≡ true → some_of test xs ≡ true
some_of_from test [] x i p = absurd i
some_of_from test (y ∷ xs) x (inl e) p = or_left (test y) (some_of test xs) (ap test e ∙ p)
some_of_from test (y ∷ xs) x (inr i) p = or_right (test y) (some_of test xs) (some_of_from test xs x i p)

pub all_of_true : {A : Type 0} (test : A → Bool) (xs : List A) (x : A) → all_of test xs ≡ true → In xs x → test x ≡ true
all_of_true test [] x h i = absurd i
all_of_true test (y ∷ xs) x h (inl e) = sym (ap test e) ∙ (and_parts (test y) (all_of test xs) h).0
all_of_true test (y ∷ xs) x h (inr i) = all_of_true test xs x (and_parts (test y) (all_of test xs) h).1 i

pub all_of_from : {A : Type 0} (test : A → Bool) (xs : List A) → ((x : A) → In xs x → test x ≡ true) → all_of test xs ≡ true
all_of_from test [] h = refl
all_of_from test (y ∷ xs) h = and_from (test y) (all_of test xs) (h y (inl refl)) (all_of_from test xs (λ x i. h x (inr i)))

pub below_cases : (u n : ℕ) → u < suc n → (u < n) ⊎ (u ≡ n)
below_cases u n h = elim (cases_lt u n) [ inl l ↦ inl l | inr g ↦ inr (omega arith) ]

-- a search decides of elements what its test decides of one
module _ {A : Type 0} (test : A → Bool) (P : A → Type 0) (each : (x : A) → Decides (test x) (P x)) where
  pub some_of_decides : (xs : List A) → Decides (some_of test xs) ((x : A) × In xs x × P x)
  some_of_decides xs = (
    (λ h. let r = some_of_true test xs h in (r.0, r.1, (each r.0).0 r.2)),
    λ r. some_of_from test xs r.0 r.1 ((each r.0).1 r.2),
  )

module _ (test : ℕ → Bool) (P : ℕ → Type 0) (each : (u : ℕ) → Decides (test u) (P u)) where
  pub some_below_decides : (n : ℕ) → Decides (some_below test n) ((u : ℕ) × (u < n) × P u)
  some_below_decides = Decides-below_or test P (some_below test) each refl (λ n. or_comm (some_below test n) (test n))

  pub all_below_decides : (n : ℕ) → Decides (all_below test n) ((u : ℕ) → u < n → P u)
  all_below_decides = Decides-below_and test P (all_below test) each refl (λ n. and_comm (all_below test n) (test n))

-- a test decides whether it passes
passes : (test : ℕ → Bool) (u : ℕ) → Decides (test u) (test u ≡ true)
passes test u = (λ e. e, λ e. e)

pub some_below_true : (test : ℕ → Bool) (n : ℕ) → some_below test n ≡ true → (u : ℕ) × (u < n) × (test u ≡ true)
some_below_true test n = (some_below_decides test _ (passes test) n).0

pub some_below_from : (test : ℕ → Bool) (n u : ℕ) → u < n → test u ≡ true → some_below test n ≡ true
some_below_from test n u l p = (some_below_decides test _ (passes test) n).1 (u, l, p)

pub some_below_false : (test : ℕ → Bool) (n u : ℕ) → some_below test n ≡ false → u < n → test u ≡ false
some_below_false test n u h l = false_from_ne_true (test u) (λ e. both_ways (some_below test n) h (some_below_from test n u l e))

pub all_below_true : (test : ℕ → Bool) (n u : ℕ) → all_below test n ≡ true → u < n → test u ≡ true
all_below_true test n u h l = (all_below_decides test _ (passes test) n).0 h u l

pub all_below_from : (test : ℕ → Bool) (n : ℕ) → ((u : ℕ) → u < n → test u ≡ true) → all_below test n ≡ true
all_below_from test n = (all_below_decides test _ (passes test) n).1

pub all_below_false : (test : ℕ → Bool) (n : ℕ) → all_below test n ≡ false → (u : ℕ) × (u < n) × (test u ≡ false)
all_below_false test zero h = absurd (both_ways true h refl)
all_below_false test (suc n) h =
    elim (and_cases (all_below test n) (test n) h) [
      | inl a ↦ let r = all_below_false test n a in (r.0, omega (arith, r.1), r.2)
      | inr b ↦ (n, omega arith, b)
    ]

pub none≢some : {A : Type 0} {x : A} → none ≡ some x → ⊥
none≢some e = cc

-- the lowest number that passes
pub lowest_some : (test : ℕ → Bool) (n u : ℕ) → lowest test n ≡ some u → (u < n) × (test u ≡ true)
lowest_some test zero u h = absurd (none≢some h)
lowest_some test (suc n) u h = go (lowest test n) refl (test n) refl (λ k. lowest_some test n u k)
  where
    go : (o : Option ℕ) → lowest test n ≡ o → (b : Bool) → test n ≡ b → (lowest test n ≡ some u → (u < n) × (test u ≡ true)) → (u < suc n) × (test u ≡ true)
    go (some v) e b d ih = let r = ih (e ∙ sym (ap (λ z. or_else z (cond (test n) (some n) none)) e) ∙ h) in (omega (arith, r.0), r.1)
    go none e true d ih =
        let s : n ≡ u = cc (sym (ap (λ z. or_else z (cond (test n) (some n) none)) e) ∙ h, d) in
        (omega arith, sym (ap test s) ∙ d)
    go none e false d ih =
        absurd (none≢some (sym (ap (λ z. or_else z (cond (test n) (some n) none)) e ∙ ap (λ b. cond b (some n) none) d) ∙ h))

pub lowest_none : (test : ℕ → Bool) (n u : ℕ) → lowest test n ≡ none → u < n → test u ≡ false
lowest_none test zero u h l = absurd (omega arith)
lowest_none test (suc n) u h l = go (lowest test n) refl (test n) refl (λ k j. lowest_none test n u k j)
  where
    go : (o : Option ℕ) → lowest test n ≡ o → (b : Bool) → test n ≡ b → (lowest test n ≡ none → u < n → test u ≡ false) → test u ≡ false
    go (some v) e b d ih = absurd (none≢some (sym h ∙ ap (λ z. or_else z (cond (test n) (some n) none)) e))
    go none e true d ih = absurd (none≢some (sym h ∙ ap (λ z. or_else z (cond (test n) (some n) none)) e ∙ ap (λ b. cond b (some n) none) d))
    go none e false d ih = elim (below_cases u n l) [ inl a ↦ ih e a | inr s ↦ ap test s ∙ d ]

-- `has` decides `In`
pub has_in : (xs : List ℕ) (u : ℕ) → has xs u ≡ true → In xs u
has_in xs u h = let r = some_of_true (λ v. eqb v u) xs h in subst (In xs) (eqb-true r.0 u r.2) r.1

pub in_has : (xs : List ℕ) (u : ℕ) → In xs u → has xs u ≡ true
in_has xs u i = some_of_from (λ v. eqb v u) xs u i (eq-eqb u u refl)

pub beq_true : (a b : Bool) → beq a b ≡ true → a ≡ b
beq_true a b = (booleans_Decides a b).0

pub beq_from : (a b : Bool) → a ≡ b → beq a b ≡ true
beq_from a b = (booleans_Decides a b).1
