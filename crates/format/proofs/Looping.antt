-- Loops that read one thing after another.
use Rattle.std.proofs.Common.{◌≡◌, ℕ, suc, ◌+◌, ◌-◌, ◌<◌, List, [], ◌∷◌, ◌++◌, length, get_or, set, sym, ap, ◌∙◌, subst, inl, inr, arith}
use Rattle.std.proofs.lemmas.List.{get_or-set_same, get_or-set_other}
use Rattle.std.proofs.lemmas.Bool.{cases_eq}
use Rattle.format.specs.declared.Fault.{Fault}
use Rattle.format.specs.Reader.{Place, Outcome, got, refused, Reader, chain}

pub more_kept : {X : Type 0} (P : X → Type 0) (xs : List X) (i : ℕ) (v d : X) → i < length xs → ((k : ℕ) → k < i → P (get_or xs k d)) → P v → (k : ℕ) → k < i + 1 → P (get_or (set xs i v) k d)
more_kept P xs i v d l h p k g =
    elim (cases_eq k i) [
      | inl e ↦ subst P (sym (get_or-set_same xs i v d l) ∙ ap (λ (j : ℕ). get_or (set xs i v) j d) (sym e)) p
      | inr ne ↦ subst P (sym (get_or-set_other xs i k v d ne)) (h k (omega arith))
    ]

-- F reads n things, each by m, behind those done; i are read
module _ {B : Type 0} (F : ℕ → List B → Reader (List B)) (m : List B → Reader B)
    (goes : (n : ℕ) (done : List B) (p : Place) → F (suc n) done p ≡ chain (m done p) (λ x. F n (done ++ (x ∷ []))))
    (n i : ℕ) (done : List B) (p : Place) (whole : Outcome (List B)) (inv : F (n - i) done p ≡ whole) where
  one : (o : Outcome B) → i < n → m done p ≡ o → chain o (λ x. F (n - (i + 1)) (done ++ (x ∷ []))) ≡ whole
  one o l e =
      let s : n - i ≡ suc (n - (i + 1)) = omega arith in
      ap (λ (z : Outcome B). chain z (λ x. F (n - (i + 1)) (done ++ (x ∷ [])))) (sym e)
      ∙ sym (goes (n - (i + 1)) done p) ∙ ap (λ (k : ℕ). F k done p) (sym s) ∙ inv

  pub turn : (x : B) (q : Place) → i < n → m done p ≡ got x q → F (n - (i + 1)) (done ++ (x ∷ [])) q ≡ whole
  turn x q l e = one (got x q) l e

  pub stop : (k : Fault) (t : ℕ) → i < n → m done p ≡ refused k t → whole ≡ refused k t
  stop k t l e = sym (one (refused k t) l e)
