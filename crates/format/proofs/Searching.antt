-- Finding a name among names, as code does it.
use Rattle.std.proofs.Common.{◌≡◌, ℕ, suc, ◌+◌, Bool, true, false, cond, not, eqb, ltb, [], ◌∷◌, List, map, length, sym, refl, ap, ◌∙◌, arith}
use Rattle.std.specs.List.{position_or_len}
use Rattle.std.specs.Cmp.Lexicographic.{pointwise}
use mathlib.Core.Option.{none, some}
use Rattle.std.proofs.lemmas.Bool.{lt-ltb, cond-true, cond-false}
use Rattle.book.specs.declared.name.Name.{Name}
use Rattle.book.specs.Places.{name_of}
use Rattle.format.specs.Bytes.{Bytes}
use Rattle.format.specs.Values.{find, one_up}
use Rattle.format.proofs.Comparing.{same_is, both_more}

-- whether the name is these bytes, as `==` has it
abbrev pub is_name : Bytes → Name → Bool
is_name v x = pointwise eqb (name_of x) v

-- the place of the first such name, or how many names there are
abbrev pub name_place : Bytes → List Name → ℕ
name_place v names = position_or_len (is_name v) names

find_first : (v : Bytes) (names : List Name) → find v (map name_of names) ≡ cond (ltb (name_place v names) (length names)) (some (name_place v names)) none
find_first v [] = refl
find_first v (x ∷ names) =
    ap (λ (t : Bool). cond t (some 0) (one_up (find v (map name_of names)))) (same_is (name_of x) v)
    ∙ go (is_name v x) (name_place v names) (find_first v names)
  where
    next : (t : Bool) (p : ℕ) → find v (map name_of names) ≡ cond t (some p) none → one_up (find v (map name_of names)) ≡ cond t (some (suc p)) none
    next true p h = ap one_up h
    next false p h = ap one_up h

    go : (t : Bool) (p : ℕ) → find v (map name_of names) ≡ cond (ltb p (length names)) (some p) none
        → cond t (some 0) (one_up (find v (map name_of names))) ≡ cond (ltb (cond (not t) (1 + p) 0) (length (x ∷ names))) (some (cond (not t) (1 + p) 0)) none
    go true p h = sym (cond-true _ _ _ (lt-ltb 0 (length (x ∷ names)) (omega arith)))
    go false p h =
        let e : suc p ≡ 1 + p = omega arith in
        next (ltb p (length names)) p h ∙ ap (λ (t : Bool). cond t (some (suc p)) none) (both_more p (length names))
        ∙ ap (λ (k : ℕ). cond (ltb k (length (x ∷ names))) (some k) none) e

pub found_here : (v : Bytes) (names : List Name) (i : ℕ) → name_place v names ≡ i → ltb (name_place v names) (length names) ≡ true → find v (map name_of names) ≡ some i
found_here v names i e t = find_first v names ∙ cond-true _ _ _ t ∙ ap some e

pub found_nowhere : (v : Bytes) (names : List Name) → ltb (name_place v names) (length names) ≡ false → find v (map name_of names) ≡ none
found_nowhere v names t = find_first v names ∙ cond-false _ _ _ t
