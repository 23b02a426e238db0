-- What is said of the route of a set before it and after it.
use Rattle.std.proofs.Common.{◌≡◌, ℕ, ◌<◌, Bool, true, false, List, [], ◌∷◌, sym, ap, ◌∙◌, subst, inl, inr}
use mathlib.Core.Path.{fun_ext}
use Rattle.std.proofs.lemmas.Bool.{cases_eq}
use Rattle.theory.specs.Searches.{In}
use Rattle.theory.specs.Tasks.{Task, Setting, Met, put, Run}
use Rattle.graph.specs.Walks.{Walk}
use Rattle.theory.specs.Recipes.{Table}
use Rattle.theory.proofs.Ordered.{Arrow, Next, Along}
use Rattle.theory.proofs.Running.{put_same, put_other}
use Rattle.theory.proofs.Opening.{route_moves}
use Rattle.theory.proofs.Recipes.{due}

-- a is not among the latches of the list that are in W
abbrev pub Out : List ℕ → (ℕ → Bool) → ℕ → Type 0
Out rest W a = In rest a → W a ≡ true → ⊥

-- before the route: its latches stand at 0, and the other ancestors of each stand as they are due
abbrev pub Low : List ℕ → (ℕ → Bool) → Setting → Type 0
Low rest W s = (u : ℕ) → In rest u → W u ≡ true → s u ≡ false

abbrev pub Settled : Task → Table → List ℕ → (ℕ → Bool) → Setting → Type 0
Settled t table rest W s =
    (u : ℕ) → In rest u → W u ≡ true → (a : ℕ) → Walk (Arrow t) a u → Out rest W a → s a ≡ due t table a u

-- after it: other latches are as they were, and its own stand as wanted
abbrev pub Same : List ℕ → (ℕ → Bool) → Setting → Setting → Type 0
Same rest W s e = (a : ℕ) → Out rest W a → e a ≡ s a

abbrev pub Served : Task → List ℕ → (ℕ → Bool) → Setting → Type 0
Served t rest W e = (u : ℕ) → In rest u → W u ≡ true → Met (t.want u) (e u)

abbrev pub Done : Task → Table → List ℕ → (ℕ → Bool) → Setting → Type 0
Done t table rest W s = (e : Setting) × (Run t (route_moves t table rest W) s e × Same rest W s e × Served t rest W e)

-- a latch still to come is new
pub along_new : (t : Task) (before rest : List ℕ) → Along (Next t) before rest → (u : ℕ) → In rest u → In before u → ⊥
along_new t before [] a u i j = i
along_new t before (v ∷ rest) a u (inl e) j = a.0.1 (subst (In before) (sym e) j)
along_new t before (v ∷ rest) a u (inr i) j = along_new t (v ∷ before) rest a.1 u i (inr j)

pub along_within : (t : Task) (before rest : List ℕ) → Along (Next t) before rest → (u : ℕ) → In rest u → u < t.width
along_within t before [] a u i = absurd i
along_within t before (v ∷ rest) a u (inl e) = subst (λ z. z < t.width) e a.0.0
along_within t before (v ∷ rest) a u (inr i) = along_within t (v ∷ before) rest a.1 u i

-- a latch put where it stands
pub put_nothing : (s : Setting) (v : ℕ) (x : Bool) → s v ≡ x → s ≡ put s v x
put_nothing s v x e =
    fun_ext λ a. elim (cases_eq v a) [ inl d ↦ sym (ap s d) ∙ e ∙ sym (put_same s v x a d) | inr n ↦ sym (put_other s v x a n) ]
