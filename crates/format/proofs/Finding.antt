-- Laws of finding a name, and of names that differ.
use Rattle.std.proofs.Common.{◌≡◌, ℕ, zero, suc, ◌<◌, Bool, true, false, cond, List, [], ◌∷◌, ◌++◌, length, get_or, sym, refl, ap, ◌∙◌, arith}
use mathlib.Core.Option.{Option, none, some}
use Rattle.std.specs.List.{AllByRecursion}
use Rattle.std.proofs.ByRecursion.{All-push}
use Rattle.std.proofs.lemmas.Bool.{both_ways, cond-true, cond-false}
use Rattle.book.specs.Names.{same}
use Rattle.format.specs.Bytes.{Bytes}
use Rattle.format.specs.Contents.{Distinct}
use Rattle.format.specs.Values.{find, one_up}
use Rattle.format.proofs.Cutting.{none≢some, some_same, same_true, same_refl, same_from}

pub find_some : (v : Bytes) (xs : List Bytes) (i : ℕ) → find v xs ≡ some i → (i < length xs) × (get_or xs i [] ≡ v)
find_some v [] i h = absurd (none≢some h)
find_some v (x ∷ xs) i h = go (same x v) refl (find v xs) refl i h (λ j e. find_some v xs j e)
  where
    go : (t : Bool) → same x v ≡ t → (o : Option ℕ) → find v xs ≡ o → (i : ℕ) → cond t (some 0) (one_up o) ≡ some i
        → ((j : ℕ) → find v xs ≡ some j → (j < length xs) × (get_or xs j [] ≡ v)) → (i < length (x ∷ xs)) × (get_or (x ∷ xs) i [] ≡ v)
    go true e o eo i h ih =
        let z : i ≡ 0 = sym (some_same 0 i h) in
        (omega arith, ap (λ (k : ℕ). get_or (x ∷ xs) k []) z ∙ same_true x v e)
    go false e none eo i h ih = absurd (none≢some h)
    go false e (some j) eo i h ih =
        let z : i ≡ suc j = sym (some_same (suc j) i h) in
        let r = ih j eo in
        (omega (arith, r.0), ap (λ (k : ℕ). get_or (x ∷ xs) k []) z ∙ r.1)

pub find_none : (v : Bytes) (xs : List Bytes) → find v xs ≡ none → AllByRecursion (λ y. y ≡ v → ⊥) xs
find_none v [] h = tt
find_none v (x ∷ xs) h = go (same x v) refl (find v xs) refl h (λ e. find_none v xs e)
  where
    go : (t : Bool) → same x v ≡ t → (o : Option ℕ) → find v xs ≡ o → cond t (some 0) (one_up o) ≡ none
        → (find v xs ≡ none → AllByRecursion (λ y. y ≡ v → ⊥) xs) → (x ≡ v → ⊥) × AllByRecursion (λ y. y ≡ v → ⊥) xs
    go true e o eo h ih = absurd (none≢some (sym h))
    go false e none eo h ih = (λ s. both_ways (same x v) e (same_from x v s), ih eo)
    go false e (some j) eo h ih = absurd (none≢some (sym h))

differ : (x v : Bytes) → (x ≡ v → ⊥) → same x v ≡ false
differ x v ne = go (same x v) refl
  where
    go : (t : Bool) → same x v ≡ t → same x v ≡ false
    go true e = absurd (ne (same_true x v e))
    go false e = e

pub find_new : (v : Bytes) (xs : List Bytes) → AllByRecursion (λ y. y ≡ v → ⊥) xs → find v xs ≡ none
find_new v [] a = refl
find_new v (x ∷ xs) a = cond-false (same x v) _ _ (differ x v a.0) ∙ ap one_up (find_new v xs a.1)

at_index : (P : Bytes → Type 0) (xs : List Bytes) (i : ℕ) → i < length xs → AllByRecursion P xs → P (get_or xs i [])
at_index P [] i l a = absurd (omega arith)
at_index P (x ∷ xs) zero l a = a.0
at_index P (x ∷ xs) (suc i) l a = at_index P xs i (omega arith) a.1

pub find_at : (xs : List Bytes) (i : ℕ) → Distinct xs → i < length xs → find (get_or xs i []) xs ≡ some i
find_at [] i d l = absurd (omega arith)
find_at (x ∷ xs) zero d l = cond-true (same x x) _ _ (same_refl x)
find_at (x ∷ xs) (suc i) d l =
    let ne : get_or xs i [] ≡ x → ⊥ = at_index (λ y. y ≡ x → ⊥) xs i (omega arith) d.0 in
    cond-false (same x (get_or xs i [])) _ _ (differ x (get_or xs i []) (λ s. ne (sym s))) ∙ ap one_up (find_at xs i d.1 (omega arith))

-- names at two places are not the same
pub apart_at : (xs : List Bytes) (j k : ℕ) → Distinct xs → j < k → k < length xs → same (get_or xs j []) (get_or xs k []) ≡ false
apart_at [] j k d l m = absurd (omega arith)
apart_at (x ∷ xs) zero zero d l m = absurd (omega arith)
apart_at (x ∷ xs) zero (suc k) d l m =
    let ne : get_or xs k [] ≡ x → ⊥ = at_index (λ y. y ≡ x → ⊥) xs k (omega arith) d.0 in differ x (get_or xs k []) (λ s. ne (sym s))
apart_at (x ∷ xs) (suc j) zero d l m = absurd (omega arith)
apart_at (x ∷ xs) (suc j) (suc k) d l m = apart_at xs j k d.1 (omega arith) (omega arith)

pub distinct_push : (xs : List Bytes) (v : Bytes) → Distinct xs → AllByRecursion (λ y. y ≡ v → ⊥) xs → Distinct (xs ++ (v ∷ []))
distinct_push [] v d a = (tt, tt)
distinct_push (x ∷ xs) v d a = (All-push (λ y. y ≡ x → ⊥) xs v d.0 (λ s. a.0 (sym s)), distinct_push xs v d.1 a.1)

all_mid : (P : Bytes → Type 0) (xs : List Bytes) (v : Bytes) (ys : List Bytes) → AllByRecursion P (xs ++ (v ∷ ys)) → P v
all_mid P [] v ys a = a.0
all_mid P (x ∷ xs) v ys a = all_mid P xs v ys a.1

-- a name differs from those before it
pub distinct_mid : (xs : List Bytes) (v : Bytes) (ys : List Bytes) → Distinct (xs ++ (v ∷ ys)) → AllByRecursion (λ y. y ≡ v → ⊥) xs
distinct_mid [] v ys d = tt
distinct_mid (x ∷ xs) v ys d = (λ s. all_mid (λ y. y ≡ x → ⊥) xs v ys d.0 (sym s), distinct_mid xs v ys d.1)
