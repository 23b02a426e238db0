-- Runs put together, and settings with one latch changed.
use Rattle.std.proofs.Common.{◌≡◌, ℕ, Bool, true, false, cond, ◌≢◌, List, [], ◌∷◌, ◌++◌, sym, ap, ◌∙◌, subst, inl, inr}
use mathlib.Core.Path.{fun_ext}
use Rattle.std.proofs.lemmas.Bool.{cases_eq, eq-eqb, ne_eqb}
use Rattle.theory.specs.Tasks.{Move, Task, Setting, put, Run}

pub put_same : (s : Setting) (v : ℕ) (x : Bool) (u : ℕ) → v ≡ u → put s v x u ≡ x
put_same s v x u e = ap (λ b. cond b x (s u)) (eq-eqb v u e)

pub put_other : (s : Setting) (v : ℕ) (x : Bool) (u : ℕ) → v ≢ u → put s v x u ≡ s u
put_other s v x u n = ap (λ b. cond b x (s u)) (ne_eqb v u n)

-- v thrown while u stands at 1, and then u back to 0: only v has changed
pub put_between : (s : Setting) (u v : ℕ) (x : Bool) → u ≢ v → s u ≡ false → put (put (put s u true) v x) u false ≡ put s v x
put_between s u v x n z = fun_ext go
  where
    go : (a : ℕ) → put (put (put s u true) v x) u false a ≡ put s v x a
    go a =
        elim (cases_eq u a) [
          | inl e ↦
              put_same (put (put s u true) v x) u false a e
              ∙ sym (put_other s v x a (λ d. n (e ∙ sym d)) ∙ sym (ap s e) ∙ z)
          | inr k ↦
              put_other (put (put s u true) v x) u false a k
              ∙ elim (cases_eq v a) [
                | inl e ↦ put_same (put s u true) v x a e ∙ sym (put_same s v x a e)
                | inr j ↦ put_other (put s u true) v x a j ∙ put_other s u true a k ∙ sym (put_other s v x a j)
              ]
        ]

module _ (t : Task) where
  pub run_join : (ms ns : List Move) (s e f : Setting) → Run t ms s e → Run t ns e f → Run t (ms ++ ns) s f
  run_join [] ns s e f p q = subst (λ z. Run t ns z f) (sym p) q
  run_join (m ∷ ms) ns s e f p q = (p.0, p.1, run_join ms ns _ e f p.2 q)

  pub run_to : (ms : List Move) (s e f : Setting) → e ≡ f → Run t ms s e → Run t ms s f
  run_to ms s e f p r = subst (λ z. Run t ms s z) p r

  pub run_as : (ms ns : List Move) (s e : Setting) → ms ≡ ns → Run t ms s e → Run t ns s e
  run_as ms ns s e p r = subst (λ z. Run t z s e) p r
