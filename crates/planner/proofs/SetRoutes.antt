-- The route of a set of latches, by its first latch, and from the latches of the list alone.
use Rattle.std.proofs.Common.{◌≡◌, ℕ, Bool, true, false, not, ◌&&◌, List, [], ◌∷◌, refl, ap, ◌∙◌, ap₂, inl, inr, arith}
use Rattle.theory.specs.Searches.{In}
use Rattle.theory.specs.Tasks.{Task}
use Rattle.theory.specs.Class.{side?, splitting?}
use Rattle.theory.specs.Recipes.{Part, Table}
use Rattle.theory.specs.Route.{on_side, on_neither, split_route, plain_route, set_route}

module _ (t : Task) (table : Table) (v : ℕ) (rest : List ℕ) (W : ℕ → Bool) where
  around : List Part
  around =
      split_route t table v (set_route t table rest (on_neither t v W)) (set_route t table rest (on_side t false v W))
      (set_route t table rest (on_side t true v W))

  first_latch : Bool → Bool → List Part
  first_latch inside splits =
      elim inside [ false ↦ set_route t table rest W | true ↦ elim splits [ true ↦ around | false ↦ plain_route t v (set_route t table rest W) ] ]

  pub set_route_out : W v ≡ false → set_route t table (v ∷ rest) W ≡ set_route t table rest W
  unfolding set_route first_latch around
  set_route_out h = ap (λ (b : Bool). first_latch b (splitting? t v)) h

  pub set_route_plain : W v ≡ true → splitting? t v ≡ false → set_route t table (v ∷ rest) W ≡ plain_route t v (set_route t table rest W)
  unfolding set_route first_latch around
  set_route_plain h n = ap (λ (b : Bool). first_latch b (splitting? t v)) h ∙ ap (first_latch true) n

  pub set_route_split : W v ≡ true → splitting? t v ≡ true →
      set_route t table (v ∷ rest) W
      ≡ split_route t table v (set_route t table rest (on_neither t v W)) (set_route t table rest (on_side t false v W))
      (set_route t table rest (on_side t true v W))
  unfolding set_route first_latch around
  set_route_split h y = ap (λ (b : Bool). first_latch b (splitting? t v)) h ∙ ap (first_latch true) y

-- sets that agree on the list have the same route
pub set_route_alike :
    (t : Task) (table : Table) (vs : List ℕ) (W W' : ℕ → Bool) → ((u : ℕ) → In vs u → W u ≡ W' u) → set_route t table vs W ≡ set_route t table vs W'
unfolding set_route first_latch around
set_route_alike t table [] W W' same = refl
set_route_alike t table (v ∷ rest) W W' same =
    go (W v) (W' v) (splitting? t v) (same v (inl refl)) (λ f. set_route_alike t table rest (λ u. W u && f u) (λ u. W' u && f u) (λ u i. ap (λ (b : Bool). b && f u) (same u (inr i))))
    (set_route_alike t table rest W W' (λ u i. same u (inr i)))
  where
    go : (a b c : Bool) → a ≡ b →
        ((f : ℕ → Bool) → set_route t table rest (λ u. W u && f u) ≡ set_route t table rest (λ u. W' u && f u)) →
        set_route t table rest W ≡ set_route t table rest W' →
        first_latch t table v rest W a c ≡ first_latch t table v rest W' b c
    go true true true e sides all =
        ap₂ {A = List Part} {B = List Part}
        (λ n z. split_route t table v n z (set_route t table rest (on_side t true v W)))
        (sides (λ u. not (side? t false v u) && not (side? t true v u))) (sides (side? t false v))
        ∙ ap (split_route t table v (set_route t table rest (on_neither t v W')) (set_route t table rest (on_side t false v W'))) (sides (side? t true v))
    go true true false e sides all = ap (plain_route t v) all
    go false false c e sides all = all
    go true false c e sides all = absurd (let z : ◌≡◌ {A = Bool} true false = e in let n : ◌≡◌ {A = ℕ} 0 1 = cc in omega arith)
    go false true c e sides all = absurd (let z : ◌≡◌ {A = Bool} false true = e in let n : ◌≡◌ {A = ℕ} 0 1 = cc in omega arith)

-- a set with no latch of the list has no route
pub set_route_none : (t : Task) (table : Table) (vs : List ℕ) (W : ℕ → Bool) → ((u : ℕ) → In vs u → W u ≡ false) → set_route t table vs W ≡ []
unfolding set_route
set_route_none t table [] W none = refl
set_route_none t table (v ∷ rest) W none =
    set_route_out t table v rest W (none v (inl refl)) ∙ set_route_none t table rest W (λ u i. none u (inr i))
