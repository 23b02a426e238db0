-- Elements at the places of a list.
use Rattle.std.proofs.Common.{◌≡◌, ℕ, zero, suc, ◌<◌, ◌≤◌, Bool, true, false, ltb, List, [], ◌∷◌, length, get_or, refl, arith}
use mathlib.Core.Option.{Option, none, some}
use lib.ListN.{get_elem?}
use Rattle.std.proofs.lemmas.Bool.{lt-ltb, le-ltb}
use Rattle.rules.specs.Rules.{Rules, Setting, Leads}

-- a place that the list has
pub element_there : {A : Type 0} (xs : List A) (i : ℕ) (x : A) → i < length xs → get_elem? xs i ≡ some (get_or xs i x)
element_there [] i x l = absurd (omega arith)
element_there (y ∷ xs) zero x l = refl
element_there (y ∷ xs) (suc i) x l = element_there xs i x (omega arith)

-- where there is an element, the list has the place
pub place_below : {A : Type 0} (xs : List A) (i : ℕ) (x : A) → get_elem? xs i ≡ some x → i < length xs
place_below [] i x e = cc
place_below (y ∷ xs) zero x e = omega arith
place_below (y ∷ xs) (suc i) x e = let l = place_below xs i x e in omega arith

-- where there is none, it does not
pub place_past : {A : Type 0} (xs : List A) (i : ℕ) → get_elem? xs i ≡ none → length xs ≤ i
place_past [] i e = omega arith
place_past (y ∷ xs) zero e = cc
place_past (y ∷ xs) (suc i) e = let l = place_past xs i e in omega arith

-- there is an element
abbrev pub there : {A : Type 0} → Option A → Bool
there none = false
there (some x) = true

-- the list has the place just when there is an element
pub below_there : {A : Type 0} (xs : List A) (i : ℕ) → ltb i (length xs) ≡ there (get_elem? xs i)
below_there xs i = go (get_elem? xs i) refl
  where
    go : (o : Option _) → get_elem? xs i ≡ o → ltb i (length xs) ≡ there o
    go none e = le-ltb i (length xs) (place_past xs i e)
    go (some x) e = lt-ltb i (length xs) (place_below xs i x e)

-- the numbers of a list of legal moves are numbers of the book's moves
pub leads_below : (r : Rules) (ks : List ℕ) (s e : Setting) → Leads r ks s e → (k : ℕ) → k < length ks → get_or ks k 0 < length r.moves
leads_below r [] s e h k l = absurd (omega arith)
leads_below r (j ∷ ks) s e h zero l = place_below r.moves j h.1.0.0 h.1.0.1.0
leads_below r (j ∷ ks) s e h (suc k) l = leads_below r ks h.0 e h.1.1 k (omega arith)
