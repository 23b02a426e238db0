-- How long recipes and routes are: a recipe has at most 3 ^ k moves, k the number of latches placed before it that are not splitting.
use Rattle.std.proofs.Common.{◌≡◌, ℕ, suc, ◌+◌, ◌*◌, ◌^◌, ◌≤◌, Bool, true, false, cond, not, ◌&&◌, List, [], ◌∷◌, ◌++◌, length, sym, refl, ap, subst, subst₂, inl, inr, le_trans, arith, length-append}
use native.Mathlib.Nat.{one-le-pow, pow-le-pow_right}
use Rattle.std.proofs.lemmas.Bool.{both_ways, cases_Bool}
use Rattle.theory.specs.Searches.{In}
use Rattle.theory.specs.Tasks.{Move, Task, asks?}
use Rattle.theory.specs.Class.{side?, splitting?}
use Rattle.theory.specs.Recipes.{Recipe, Table, kept?, moves_to, helper?, recipe_parts, opened, table_of}
use Rattle.theory.specs.Route.{on_side, on_neither, set_route}
use Rattle.theory.proofs.Searches.{apart_from}
use Rattle.theory.proofs.Ordered.{Behind, Along, WellPlaced, Next}
use Rattle.theory.proofs.Sides.{sides_apart}
use Rattle.theory.proofs.Tables.{kept_move, table_tail}
use Rattle.theory.proofs.Recipes.{helper_parts}
use Rattle.theory.proofs.Opening.{no_recipe, opened_alone, opened_unhelped, opened_helped, route_moves, split_moves, plain_moves, route_out, route_plain, route_split}

-- how many latches of the list are not splitting
abbrev one_more : Bool → ℕ → ℕ
one_more true n = n
one_more false n = suc n

unfoldable pub plain_count : Task → List ℕ → ℕ
plain_count t [] = 0
plain_count t (v ∷ vs) = one_more (splitting? t v) (plain_count t vs)

pub plain_count_splitting : (t : Task) (v : ℕ) (vs : List ℕ) → splitting? t v ≡ true → plain_count t (v ∷ vs) ≡ plain_count t vs
unfolding plain_count
plain_count_splitting t v vs h = ap (λ b. one_more b (plain_count t vs)) h

pub plain_count_plain : (t : Task) (v : ℕ) (vs : List ℕ) → splitting? t v ≡ false → plain_count t (v ∷ vs) ≡ suc (plain_count t vs)
unfolding plain_count
plain_count_plain t v vs h = ap (λ b. one_more b (plain_count t vs)) h

plain_count_more : (t : Task) (v : ℕ) (vs : List ℕ) → plain_count t vs ≤ plain_count t (v ∷ vs)
plain_count_more t v vs =
    elim (cases_Bool (splitting? t v))
    [ inl h ↦ omega (arith, plain_count_splitting t v vs h) | inr h ↦ omega (arith, plain_count_plain t v vs h) ]

pub three_pow_le : (i j : ℕ) → i ≤ j → 3 ^ i ≤ 3 ^ j
three_pow_le i j h = pow-le-pow_right (omega arith) h

-- how powers of 3 compare
pub ruleset three_powers = (three_pow_le, one-le-pow)

-- the recipes of u are short, with these latches before it
abbrev pub Short : Task → Table → List ℕ → ℕ → Type 0
Short t table before u = (y : Bool) → length (moves_to y (table u)) ≤ 3 ^ plain_count t before

parts_short : (t : Task) (table : Table) (v : ℕ) (m : Move) (us : List ℕ) → Behind (Short t table) us → length (opened table (recipe_parts t v m us)) ≤ 3 ^ plain_count t us
unfolding plain_count
parts_short t table v m [] b = subst (λ l. length l ≤ 1) (sym (opened_alone t table v m)) (omega arith)
parts_short t table v m (u ∷ us) b = go (helper? t v m u) refl (parts_short t table v m us b.1)
  where
    go : (c : Bool) → helper? t v m u ≡ c → length (opened table (recipe_parts t v m us)) ≤ 3 ^ plain_count t us → length (opened table (recipe_parts t v m (u ∷ us))) ≤ 3 ^ plain_count t (u ∷ us)
    go false e ih =
        subst (λ l. length l ≤ 3 ^ plain_count t (u ∷ us)) (sym (opened_unhelped t table v m u us e)) (le_trans ih (three_pow_le _ _ (plain_count_more t u us)))
    go true e ih =
        let more : plain_count t (u ∷ us) ≡ suc (plain_count t us) = plain_count_plain t u us (helper_parts t v m u e).2 in
        let up = b.0 true in
        let down = b.0 false in
        let three : List Move = moves_to true (table u) ++ (opened table (recipe_parts t v m us) ++ moves_to false (table u)) in
        let small : length three ≤ 3 ^ suc (plain_count t us) = simp length-append (omega arith) in
        subst (λ l. length l ≤ 3 ^ plain_count t (u ∷ us)) (sym (opened_helped t table v m u us e)) (subst (λ k. length three ≤ 3 ^ k) (sym more) small)

behind_map : (Q Q' : List ℕ → ℕ → Type 0) (placed : List ℕ) → ((before : List ℕ) (u : ℕ) → In placed u → Q before u → Q' before u) → Behind Q placed → Behind Q' placed
behind_map Q Q' [] f b = tt
behind_map Q Q' (v ∷ placed) f b = (f placed v (inl refl) b.0, behind_map Q Q' placed (λ before u i q. f before u (inr i) q) b.1)

pub recipe_short : (t : Task) (placed : List ℕ) → WellPlaced t placed → Behind (Short t (table_of t placed)) placed
recipe_short t [] g = tt
recipe_short t (v ∷ placed) g = (head (recipe_short t placed g.1), tail (recipe_short t placed g.1))
  where
    head : Behind (Short t (table_of t placed)) placed → Short t (table_of t (v ∷ placed)) placed v
    head b y =
        elim (cases_Bool (kept? y (table_of t (v ∷ placed) v))) [
          | inl k ↦
              let made = kept_move t placed v y k in
              subst (λ (r : Recipe). length r.moves ≤ 3 ^ plain_count t placed) made.3 (parts_short t (table_of t placed) v made.0 placed b)
          | inr k ↦ subst (λ l. length l ≤ 3 ^ plain_count t placed) (sym (no_recipe y _ k)) (omega arith)
        ]

    tail : Behind (Short t (table_of t placed)) placed → Behind (Short t (table_of t (v ∷ placed))) placed
    tail b =
        behind_map (Short t (table_of t placed)) (Short t (table_of t (v ∷ placed))) placed
        (λ before u i q y.
        subst (λ k. length (moves_to y k) ≤ 3 ^ plain_count t before) (sym (table_tail t placed v u (apart_from placed g.0.1 i))) (q y)) b

-- what a latch adds to a route at most: a splitting latch two recipes, another one
abbrev pub share : Bool → Bool → ℕ → ℕ
share false split n = 0
share true true n = 2 * 3 ^ n
share true false n = 3 ^ n

unfoldable pub cost : Task → List ℕ → List ℕ → (ℕ → Bool) → ℕ
cost t before [] W = 0
cost t before (v ∷ rest) W = share (W v) (splitting? t v) (plain_count t before) + cost t (v ∷ before) rest W

parts_share : (w a b : Bool) → (a ≡ true → b ≡ false) → (split : Bool) (n : ℕ) →
    share (w && (not a && not b)) split n + (share (w && a) split n + share (w && b) split n) ≤ share w split n
parts_share false a b h split n = omega arith
parts_share true true true h split n = absurd (both_ways true (h refl) refl)
parts_share true true false h true n = omega arith
parts_share true true false h false n = omega arith
parts_share true false true h true n = omega arith
parts_share true false true h false n = omega arith
parts_share true false false h true n = omega arith
parts_share true false false h false n = omega arith

-- the three parts around a splitting latch cost no more than the whole
cost_parts : (t : Task) (v : ℕ) → splitting? t v ≡ true → (before rest : List ℕ) → Along (Next t) before rest → (W : ℕ → Bool) →
    cost t before rest (on_neither t v W) + (cost t before rest (on_side t false v W) + cost t before rest (on_side t true v W)) ≤ cost t before rest W
unfolding cost
cost_parts t v sp before [] a W = omega arith
cost_parts t v sp before (u ∷ rest) a W =
    let here = parts_share (W u) (side? t false v u) (side? t true v u) (sides_apart t v u sp a.0.0) (splitting? t u) (plain_count t before) in
    let later = cost_parts t v sp (u ∷ before) rest a.1 W in
    omega arith

cond_short : (b : Bool) (l : List Move) (n : ℕ) → length l ≤ n → length (cond b l []) ≤ n
cond_short true l n h = h
cond_short false l n h = omega arith

pub route_short : (t : Task) (table : Table) (rest before : List ℕ) → Along (Next t) before rest → Along (Short t table) before rest → (W : ℕ → Bool) →
    length (route_moves t table rest W) ≤ cost t before rest W
unfolding set_route cost
route_short t table [] before a b W = omega arith
route_short t table (v ∷ rest) before a b W =
    go (W v) refl (splitting? t v) refl (λ W'. route_short t table rest (v ∷ before) a.1 b.1 W')
  where
    n : ℕ
    n = plain_count t before

    later : ℕ
    later = cost t (v ∷ before) rest W

    -- the cost of v in the three cases
    Bounded : Bool → Bool → Type 0
    Bounded inside splits = length (route_moves t table (v ∷ rest) W) ≤ share inside splits n + later

    go : (inside : Bool) → W v ≡ inside → (splits : Bool) → splitting? t v ≡ splits →
        ((W' : ℕ → Bool) → length (route_moves t table rest W') ≤ cost t (v ∷ before) rest W') → Bounded (W v) (splitting? t v)
    go false e splits d ih = subst (λ x. Bounded x (splitting? t v)) (sym e) (rw (route_out t table v rest W e) (omega (arith, ih W)))
    go true e false d ih =
        let last = cond_short (asks? true (t.want v)) (moves_to true (table v)) _ (b.0 true) in
        let small : length (plain_moves t table v (route_moves t table rest W)) ≤ 3 ^ n + later = simp length-append (omega (arith, ih W)) in
        subst₂ Bounded (sym e) (sym d) (subst (λ l. length l ≤ 3 ^ n + later) (sym (route_plain t table v rest W e d)) small)
    go true e true d ih =
        let up = b.0 true in
        let down = cond_short (kept? true (table v) && asks? false (t.want v)) (moves_to false (table v)) _ (b.0 false) in
        let parts = cost_parts t v d (v ∷ before) rest a.1 W in
        let aside_part = route_moves t table rest (on_neither t v W) in
        let zero_part = route_moves t table rest (on_side t false v W) in
        let one_part = route_moves t table rest (on_side t true v W) in
        let small : length (split_moves t table v aside_part zero_part one_part) ≤ 2 * 3 ^ n + later =
        simp length-append (omega (arith, ih (on_neither t v W), ih (on_side t false v W), ih (on_side t true v W))) in
        subst₂ Bounded (sym e) (sym d) (subst (λ l. length l ≤ 2 * 3 ^ n + later) (sym (route_split t table v rest W e d)) small)
