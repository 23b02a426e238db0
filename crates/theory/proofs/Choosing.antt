-- The recipe that is chosen is made by a move that serves, and one is chosen exactly when some move serves.
-- The first two lemmas are all that is used of `chosen`.
use Rattle.std.proofs.Common.{◌≡◌, ℕ, Bool, true, false, cond, List, [], ◌∷◌, map, filter, sym, refl, ap, ◌∙◌, inl, inr}
use mathlib.Core.Option.{some}
use Rattle.std.proofs.lemmas.Bool.{both_ways}
use Rattle.theory.specs.Searches.{In}
use Rattle.theory.specs.Tasks.{Move, Task}
use Rattle.theory.specs.Recipes.{Recipe, Table, recipe_with, serves?, recipe_parts, made, chosen, recipe}
use Rattle.theory.proofs.Searches.{none≢some}

pub chosen_in : (rs : List Recipe) (r : Recipe) → chosen rs ≡ some r → In rs r
unfolding chosen
chosen_in [] r h = absurd (none≢some h)
chosen_in (q ∷ rs) r h = inl (cc)

pub chosen_exists : (rs : List Recipe) (r : Recipe) → In rs r → (q : Recipe) × (chosen rs ≡ some q)
unfolding chosen
chosen_exists [] r i = absurd i
chosen_exists (q ∷ rs) r i = (q, refl)

-- what is mapped
in_map : {A B : Type 0} (f : A → B) (xs : List A) (x : A) → In xs x → In (map f xs) (f x)
in_map f [] x i = absurd i
in_map f (y ∷ xs) x (inl e) = inl (ap f e)
in_map f (y ∷ xs) x (inr i) = inr (in_map f xs x i)

map_in : {A B : Type 0} (f : A → B) (xs : List A) (y : B) → In (map f xs) y → (x : A) × In xs x × (f x ≡ y)
map_in f [] y i = absurd i
map_in f (x ∷ xs) y (inl e) = (x, inl refl, e)
map_in f (x ∷ xs) y (inr i) = let r = map_in f xs y i in (r.0, inr r.1, r.2)

-- what passes a test
in_kept : {A : Type 0} (test : A → Bool) (xs : List A) (x : A) → In xs x → test x ≡ true → In (filter test xs) x
in_kept test [] x i h = absurd i
in_kept {A} test (y ∷ xs) x i h = go (test y) refl i (λ j. in_kept test xs x j h)
  where
    go : (b : Bool) → test y ≡ b → In (y ∷ xs) x → (In xs x → In (filter test xs) x) → In (cond b (y ∷ filter test xs) (filter test xs)) x
    go true e (inl d) ih = inl d
    go true e (inr j) ih = inr (ih j)
    go false e (inl d) ih = absurd (both_ways (test y) e (ap test d ∙ h))
    go false e (inr j) ih = ih j

kept_in : {A : Type 0} (test : A → Bool) (xs : List A) (x : A) → In (filter test xs) x → In xs x × (test x ≡ true)
kept_in test [] x i = absurd i
kept_in {A} test (y ∷ xs) x i = go (test y) refl i (λ j. kept_in test xs x j)
  where
    go : (b : Bool) → test y ≡ b → In (cond b (y ∷ filter test xs) (filter test xs)) x → (In (filter test xs) x → In xs x × (test x ≡ true)) →
        In (y ∷ xs) x × (test x ≡ true)
    go true e (inl d) ih = (inl d, sym (ap test d) ∙ e)
    go true e (inr j) ih = let r = ih j in (inr r.0, r.1)
    go false e j ih = let r = ih j in (inr r.0, r.1)

module _ (t : Task) (table : Table) (placed : List ℕ) (v : ℕ) (y : Bool) where
  -- the recipe that a move makes
  by : Move → Recipe
  by m = recipe_with table (recipe_parts t v m placed)

  -- a recipe is made as soon as some move serves
  pub recipe_made : (m : Move) → In t.moves m → serves? t table v y m ≡ true → (l : Recipe) × (recipe t table placed v y ≡ some l)
  unfolding by
  recipe_made m i h = chosen_exists (made t table placed v y) (by m) (in_map by (filter (serves? t table v y) t.moves) m (in_kept (serves? t table v y) t.moves m i h))

  -- and is made by a move that serves
  pub recipe_from : (l : Recipe) → recipe t table placed v y ≡ some l →
      (m : Move) × In t.moves m × (serves? t table v y m ≡ true) × (recipe_with table (recipe_parts t v m placed) ≡ l)
  unfolding by
  recipe_from l h =
      let made_by = map_in by (filter (serves? t table v y) t.moves) l (chosen_in (made t table placed v y) l h) in
      let passed = kept_in (serves? t table v y) t.moves made_by.0 made_by.1 in
      (made_by.0, passed.0, passed.1, made_by.2)
