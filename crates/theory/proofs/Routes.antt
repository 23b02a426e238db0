-- The route of a set is legal, leaves its latches as they are wanted, and every other latch as it was.
use Rattle.std.proofs.Common.{◌≡◌, ℕ, ◌<◌, Bool, true, false, cond, not, ◌&&◌, ◌≢◌, ◌⊎◌, List, [], ◌∷◌, sym, refl, ap, ◌∙◌, subst, inl, inr}
use Rattle.std.proofs.lemmas.Bool.{both_ways, cases_Bool, cases_eq, and_parts, and_from, and_left, and_right, not-true, not_from_false}
use Rattle.theory.specs.Searches.{In}
use Rattle.theory.specs.Tasks.{Ask, any, at_zero, at_one, Move, Task, WellFormed, Setting, Met, put, Run, asks?}
use Rattle.theory.specs.Class.{side?, splitting?}
use Rattle.graph.specs.Walks.{Walk}
use Rattle.theory.specs.Recipes.{Table, kept?, moves_to}
use Rattle.theory.specs.Route.{on_side, on_neither, set_route}
use Rattle.theory.proofs.Searches.{apart_from}
use Rattle.theory.proofs.Ordered.{Arrow, WellPlaced, Next, Along, before_next}
use Rattle.theory.proofs.Sides.{walk_same_side, sides_apart}
use Rattle.theory.proofs.Running.{put_same, put_other, run_join, run_as}
use Rattle.theory.proofs.Recipes.{due, Ready, Works}
use Rattle.theory.proofs.Opening.{no_recipe, route_moves, back_moves, split_moves, plain_moves, route_out, route_plain, route_split}
use Rattle.theory.proofs.RouteWords.{Out, Low, Settled, Same, Served, Done, along_new, along_within, put_nothing}

module _ (t : Task) (well : WellFormed t) (table : Table)
    (works : (v : ℕ) → v < t.width → Works t table v)
    (wanted : (v : ℕ) → v < t.width → asks? true (t.want v) ≡ true → kept? true (table v) ≡ true)
    (back : (v : ℕ) → v < t.width → asks? false (t.want v) ≡ true → kept? true (table v) ≡ true → kept? false (table v) ≡ true) where
  -- v thrown to 1 if that recipe is kept
  raise : (v : ℕ) → v < t.width → (s : Setting) → Ready t table s v → s v ≡ false → Run t (moves_to true (table v)) s (put s v (kept? true (table v)))
  raise v l s ready low =
      elim (cases_Bool (kept? true (table v))) [
        | inl k ↦ subst (λ x. Run t (moves_to true (table v)) s (put s v x)) (sym k) (works v l true k s ready low)
        | inr k ↦ run_as t [] _ s _ (sym (no_recipe true (table v) k)) (put_nothing s v _ (low ∙ sym k))
      ]

  -- the end of a splitting latch: thrown back if it is wanted at 0
  Finished : ℕ → Setting → Type 0
  Finished v s =
      (e : Setting) × (Run t (back_moves t table v) s e
      × ((a : ℕ) → v ≢ a → e a ≡ s a) × Met (t.want v) (e v))

  finish : (v : ℕ) → v < t.width → (s : Setting) → Ready t table s v → s v ≡ kept? true (table v) → Finished v s
  unfolding Finished
  finish v l s ready stands = go (t.want v) refl
    where
      stay : kept? true (table v) && asks? false (t.want v) ≡ false → Met (t.want v) (s v) → Finished v s
      stay h met = (s, (run_as t [] _ s s (sym (ap (λ b. cond b (moves_to false (table v)) []) h)) refl, (λ a n. refl), met))

      go : (a : Ask) → t.want v ≡ a → Finished v s
      go any e = stay (and_right (kept? true (table v)) _ (ap (asks? false) e)) (subst (λ k. Met k (s v)) (sym e) tt)
      go at_one e =
          stay (and_right (kept? true (table v)) _ (ap (asks? false) e))
          (subst (λ k. Met k (s v)) (sym e) (stands ∙ wanted v l (ap (asks? true) e)))
      go at_zero e =
          elim (cases_Bool (kept? true (table v))) [
            | inl k ↦
                let low = ap (asks? false) e in (
                  put s v false,
                  (
                    run_as t (moves_to false (table v)) _ s (put s v false)
                        (sym (ap (λ b. cond b (moves_to false (table v)) []) (and_from (kept? true (table v)) _ k low)))
                        (works v l false (back v l low k) s ready (stands ∙ k)),
                    (λ a n. put_other s v false a n),
                    subst (λ j. Met j (put s v false v)) (sym e) (put_same s v false v refl),
                  ),
                )
            | inr k ↦ stay (and_left (kept? true (table v)) _ k) (subst (λ j. Met j (s v)) (sym e) (stands ∙ k))
          ]

  -- one latch v of W, with the routes of the latches behind it
  module _ (before : List ℕ) (good : WellPlaced t before) (v : ℕ) (rest : List ℕ) (fit : Next t before v) (ahead : Along (Next t) (v ∷ before) rest)
      (W : ℕ → Bool) (own : W v ≡ true) (s : Setting) (low : Low (v ∷ rest) W s) (settled : Settled t table (v ∷ rest) W s)
      (ih : (W' : ℕ → Bool) (s' : Setting) → Low rest W' s' → Settled t table rest W' s' → Done t table rest W' s') where
    apart : (u : ℕ) → In rest u → v ≢ u
    apart u i d = along_new t (v ∷ before) rest ahead u i (inl d)

    -- an ancestor of v is placed before it
    early : (a : ℕ) → Walk (Arrow t) a v → (In rest a → ⊥) × (v ≢ a)
    early a p =
        let j = before_next t before good fit p in
        ((λ i. along_new t (v ∷ before) rest ahead a i (inr j)), apart_from before fit.1 j)

    -- so it stands as it is due as long as only v and latches behind it have changed
    ready_at : (e : Setting) → ((a : ℕ) → v ≢ a → (In rest a → ⊥) → e a ≡ s a) → Ready t table e v
    ready_at e same a p =
        let x = early a p in
        same a x.1 x.0 ∙ settled v (inl refl) own a p (λ i _. elim i [ inl d ↦ x.1 d | inr j ↦ x.0 j ])

    -- a part of W that holds all ancestors of its latches
    settled_part : (W' : ℕ → Bool) (s' : Setting) → ((u : ℕ) → W' u ≡ true → W u ≡ true) →
        ((u a : ℕ) → In rest u → W' u ≡ true → In rest a → W a ≡ true → Walk (Arrow t) a u → W' a ≡ true) →
        ((a : ℕ) → v ≢ a → Out rest W a → s' a ≡ s a) →
        ((u : ℕ) → In rest u → W' u ≡ true → s' v ≡ due t table v u) →
        Settled t table rest W' s'
    settled_part W' s' sub closed same at_v u i w a p out =
        elim (cases_eq v a) [
          | inl d ↦ subst (λ z. s' z ≡ due t table z u) d (at_v u i w)
          | inr n ↦
              let away : Out rest W a = λ j k. out j (closed u a i w j k p) in
              same a n away ∙ settled u (inr i) (sub u w) a p (λ j k. elim j [ inl d ↦ n d | inr q ↦ away q k ])
        ]

    at_zero_first : s v ≡ false
    at_zero_first = low v (inl refl) own

    -- a latch that is not splitting: behind all others
    plain : splitting? t v ≡ false →
        (e : Setting) × (Run t (plain_moves t table v (route_moves t table rest W)) s e
        × Same (v ∷ rest) W s e × Served t (v ∷ rest) W e)
    plain ns = go (cases_Bool (asks? true (t.want v)))
      where
        first : Done t table rest W s
        first = ih W s (λ u i w. low u (inr i) w)
            (settled_part W s (λ u w. w) (λ u a i w j k p. k) (λ a n o. refl)
            (λ u i w. at_zero_first ∙ sym (and_left (splitting? t v) _ ns)))

        e₁ : Setting
        e₁ = first.0

        same₁ : (a : ℕ) → v ≢ a → (In rest a → ⊥) → e₁ a ≡ s a
        same₁ a n i = first.1.1 a (λ j _. i j)

        at_v : e₁ v ≡ false
        at_v = first.1.1 v (λ j _. apart v j refl) ∙ at_zero_first

        -- all but v is as the routes left it
        Result : Setting → Type 0
        Result e = Run t (plain_moves t table v (route_moves t table rest W)) s e × Same (v ∷ rest) W s e × Served t (v ∷ rest) W e

        result : (e : Setting) → Run t (cond (asks? true (t.want v)) (moves_to true (table v)) []) e₁ e → ((a : ℕ) → v ≢ a → e a ≡ e₁ a) → Met (t.want v) (e v) → Result e
        result e run same met = (
          run_join t (route_moves t table rest W) _ s e₁ e first.1.0 run,
          (λ a o. same a (λ d. o (inl d) (sym (ap W d) ∙ own)) ∙ first.1.1 a (λ j k. o (inr j) k)),
          λ u i w. elim i [
            | inl d ↦ subst (λ z. Met (t.want z) (e z)) d met
            | inr j ↦ subst (Met (t.want u)) (sym (same u (apart u j))) (first.1.2 u j w)
          ],
        )

        lacks : (a : Ask) (b : Bool) → asks? true a ≡ false → b ≡ false → Met a b
        lacks any b h z = tt
        lacks at_zero b h z = z
        lacks at_one b h z = absurd (both_ways true h refl)

        gets : (a : Ask) (b : Bool) → asks? true a ≡ true → b ≡ true → Met a b
        gets any b h z = tt
        gets at_zero b h z = absurd (both_ways false refl h)
        gets at_one b h z = z

        go : (asks? true (t.want v) ≡ true) ⊎ (asks? true (t.want v) ≡ false) → (e : Setting) × Result e
        go (inl h) = (
          put e₁ v true,
          result (put e₁ v true)
              (run_as t (moves_to true (table v)) _ e₁ _ (sym (ap (λ b. cond b (moves_to true (table v)) []) h))
              (works v fit.0 true (wanted v fit.0 h) e₁ (ready_at e₁ same₁) at_v))
              (λ a n. put_other e₁ v true a n)
              (gets (t.want v) _ h (put_same e₁ v true v refl)),
        )
        go (inr h) =
            (e₁, result e₁ (run_as t [] _ e₁ e₁ (sym (ap (λ b. cond b (moves_to true (table v)) []) h)) refl) (λ a n. refl) (lacks (t.want v) _ h at_v))

    -- the parts of W on the sides of v, and on neither, hold all ancestors of their latches
    side_of : (x : Bool) (u a : ℕ) → In rest a → Walk (Arrow t) a u → side? t x v a ≡ side? t x v u
    side_of x u a j p = walk_same_side t well x v p (λ d. apart a j (sym d)) (λ q. (early a q).0 j)

    on_side_closed : (x : Bool) (u a : ℕ) → In rest u → on_side t x v W u ≡ true → In rest a → W a ≡ true → Walk (Arrow t) a u → on_side t x v W a ≡ true
    on_side_closed x u a i w j k p = and_from (W a) _ k (side_of x u a j p ∙ (and_parts (W u) _ w).1)

    on_neither_closed : (u a : ℕ) → In rest u → on_neither t v W u ≡ true → In rest a → W a ≡ true → Walk (Arrow t) a u → on_neither t v W a ≡ true
    on_neither_closed u a i w j k p =
        let r = and_parts (not (side? t false v u)) _ (and_parts (W u) _ w).1 in
        and_from (W a) _ k
        (and_from (not (side? t false v a)) _ (ap not (side_of false u a j p) ∙ r.0) (ap not (side_of true u a j p) ∙ r.1))

    -- a splitting latch: neither side, its zero side, the latch, its one side, and the latch back if it is wanted at 0
    split : splitting? t v ≡ true →
        (e : Setting) × (Run t
        (split_moves t table v (route_moves t table rest (on_neither t v W)) (route_moves t table rest (on_side t false v W)) (route_moves t table rest (on_side t true v W)))
        s e × Same (v ∷ rest) W s e × Served t (v ∷ rest) W e)
    unfolding Finished
    split sp = (
      e₅,
      (
        run_join t (route_moves t table rest Wₙ) _ s e₁ e₅ first.1.0
            (run_join t (route_moves t table rest W₀) _ e₁ e₂ e₅ second.1.0
            (run_join t (moves_to true (table v)) _ e₂ e₃ e₅ (raise v fit.0 e₂ (ready_at e₂ same₂) at_v₂)
            (run_join t (route_moves t table rest W₁) _ e₃ e₄ e₅ third.1.0 last.1.0))),
        same₅,
        served,
      ),
    )
      where
        Wₙ : ℕ → Bool
        Wₙ = on_neither t v W

        W₀ : ℕ → Bool
        W₀ = on_side t false v W

        W₁ : ℕ → Bool
        W₁ = on_side t true v W

        k : Bool
        k = kept? true (table v)

        zero_side : (u : ℕ) → W₀ u ≡ true → side? t false v u ≡ true
        zero_side u w = (and_parts (W u) _ w).1

        one_side : (u : ℕ) → W₁ u ≡ true → side? t true v u ≡ true
        one_side u w = (and_parts (W u) _ w).1

        neither : (u : ℕ) → Wₙ u ≡ true → (side? t false v u ≡ false) × (side? t true v u ≡ false)
        neither u w = let r = and_parts (not (side? t false v u)) _ (and_parts (W u) _ w).1 in (not-true _ r.0, not-true _ r.1)

        not_one : (u : ℕ) → In rest u → side? t false v u ≡ true → side? t true v u ≡ false
        not_one u i h = sides_apart t v u sp (along_within t (v ∷ before) rest ahead u i) h

        -- v is due at 0 for latches that are not on its one side
        not_due_yet : (u : ℕ) → side? t true v u ≡ false → due t table v u ≡ false
        not_due_yet u h = and_right (splitting? t v) _ (and_left (side? t true v u) _ h)

        first : Done t table rest Wₙ s
        first = ih Wₙ s (λ u i w. low u (inr i) (and_parts (W u) _ w).0)
            (settled_part Wₙ s (λ u w. (and_parts (W u) _ w).0) on_neither_closed (λ a n o. refl)
            (λ u i w. at_zero_first ∙ sym (not_due_yet u (neither u w).1)))

        e₁ : Setting
        e₁ = first.0

        at_v₁ : e₁ v ≡ false
        at_v₁ = first.1.1 v (λ j _. apart v j refl) ∙ at_zero_first

        keep₁ : (a : ℕ) → Out rest W a → e₁ a ≡ s a
        keep₁ a o = first.1.1 a (λ j w. o j (and_parts (W a) _ w).0)

        second : Done t table rest W₀ e₁
        second = ih W₀ e₁
            (λ u i w. first.1.1 u (λ j w'. both_ways _ (neither u w').0 (zero_side u w)) ∙ low u (inr i) (and_parts (W u) _ w).0)
            (settled_part W₀ e₁ (λ u w. (and_parts (W u) _ w).0) (on_side_closed false) (λ a n o. keep₁ a o)
            (λ u i w. at_v₁ ∙ sym (not_due_yet u (not_one u i (zero_side u w)))))

        e₂ : Setting
        e₂ = second.0

        at_v₂ : e₂ v ≡ false
        at_v₂ = second.1.1 v (λ j _. apart v j refl) ∙ at_v₁

        keep₂ : (a : ℕ) → Out rest W a → e₂ a ≡ s a
        keep₂ a o = second.1.1 a (λ j w. o j (and_parts (W a) _ w).0) ∙ keep₁ a o

        same₂ : (a : ℕ) → v ≢ a → (In rest a → ⊥) → e₂ a ≡ s a
        same₂ a n o = keep₂ a (λ j _. o j)

        e₃ : Setting
        e₃ = put e₂ v k

        third : Done t table rest W₁ e₃
        third = ih W₁ e₃
            (λ u i w. put_other e₂ v k u (apart u i)
            ∙ second.1.1 u (λ j w'. both_ways _ (not_one u i (zero_side u w')) (one_side u w))
            ∙ first.1.1 u (λ j w'. both_ways _ (neither u w').1 (one_side u w))
            ∙ low u (inr i) (and_parts (W u) _ w).0)
            (settled_part W₁ e₃ (λ u w. (and_parts (W u) _ w).0) (on_side_closed true) (λ a n o. put_other e₂ v k a n ∙ keep₂ a o)
            (λ u i w. put_same e₂ v k v refl
            ∙ sym (ap (λ b. b && (side? t true v u && k)) sp ∙ ap (λ b. b && k) (one_side u w))))

        e₄ : Setting
        e₄ = third.0

        at_v₄ : e₄ v ≡ k
        at_v₄ = third.1.1 v (λ j _. apart v j refl) ∙ put_same e₂ v k v refl

        keep₄ : (a : ℕ) → v ≢ a → Out rest W a → e₄ a ≡ s a
        keep₄ a n o = third.1.1 a (λ j w. o j (and_parts (W a) _ w).0) ∙ put_other e₂ v k a n ∙ keep₂ a o

        last : Finished v e₄
        last = finish v fit.0 e₄ (ready_at e₄ (λ a n o. keep₄ a n (λ j _. o j))) at_v₄

        e₅ : Setting
        e₅ = last.0

        same₅ : Same (v ∷ rest) W s e₅
        same₅ a o =
            let n : v ≢ a = λ d. o (inl d) (sym (ap W d) ∙ own) in
            last.1.1 a n ∙ keep₄ a n (λ j w. o (inr j) w)

        -- what is met after the part of u stays
        from₄ : (u : ℕ) → In rest u → Met (t.want u) (e₄ u) → Met (t.want u) (e₅ u)
        from₄ u i m = subst (Met (t.want u)) (sym (last.1.1 u (apart u i))) m

        from₂ : (u : ℕ) → In rest u → side? t true v u ≡ false → Met (t.want u) (e₂ u) → Met (t.want u) (e₅ u)
        from₂ u i h m =
            from₄ u i
            (subst (Met (t.want u)) (sym (third.1.1 u (λ j w. both_ways _ h (one_side u w)) ∙ put_other e₂ v k u (apart u i))) m)

        from₁ : (u : ℕ) → In rest u → side? t false v u ≡ false → side? t true v u ≡ false → Met (t.want u) (e₁ u) → Met (t.want u) (e₅ u)
        from₁ u i g h m =
            from₂ u i h (subst (Met (t.want u)) (sym (second.1.1 u (λ j w. both_ways _ g (zero_side u w)))) m)

        served : Served t (v ∷ rest) W e₅
        served u (inl d) w = subst (λ z. Met (t.want z) (e₅ z)) d last.1.2
        served u (inr i) w =
            elim (cases_Bool (side? t false v u)) [
              | inl g ↦ from₂ u i (not_one u i g) (second.1.2 u i (and_from (W u) _ w g))
              | inr g ↦
                  elim (cases_Bool (side? t true v u)) [
                    | inl h ↦ from₄ u i (third.1.2 u i (and_from (W u) _ w h))
                    | inr h ↦
                        from₁ u i g h
                        (first.1.2 u i (and_from (W u) _ w (and_from (not (side? t false v u)) _ (not_from_false _ g) (not_from_false _ h))))
                  ]
            ]

  pub set_route_does : (rest before : List ℕ) → WellPlaced t before → Along (Next t) before rest → (W : ℕ → Bool) (s : Setting) → Low rest W s →
      Settled t table rest W s → Done t table rest W s
  unfolding set_route
  set_route_does [] before good ahead W s low settled = (s, (refl, (λ a o. refl), λ u i w. absurd i))
  set_route_does (v ∷ rest) before good ahead W s low settled =
      go (cases_Bool (W v)) (λ W' s' l r. set_route_does rest (v ∷ before) (ahead.0, good) ahead.1 W' s' l r)
    where
      Goal : List Move → Type 0
      Goal ms = (e : Setting) × (Run t ms s e × Same (v ∷ rest) W s e × Served t (v ∷ rest) W e)

      go : (W v ≡ true) ⊎ (W v ≡ false) →
          ((W' : ℕ → Bool) (s' : Setting) → Low rest W' s' → Settled t table rest W' s' → Done t table rest W' s') →
          Goal (route_moves t table (v ∷ rest) W)
      go (inl own) ih =
          elim (cases_Bool (splitting? t v)) [
            | inl sp ↦
                subst Goal (sym (route_split t table v rest W own sp))
                (split before good v rest ahead.0 ahead.1 W own s low settled ih sp)
            | inr ns ↦
                subst Goal (sym (route_plain t table v rest W own ns))
                (plain before good v rest ahead.0 ahead.1 W own s low settled ih ns)
          ]
      go (inr no_own) ih =
          let skip : (a : ℕ) → Out rest W a → Out (v ∷ rest) W a =
          λ a o i w. elim i [ inl d ↦ both_ways _ no_own (ap W d ∙ w) | inr j ↦ o j w ] in
          let r = ih W s (λ u i w. low u (inr i) w) (λ u i w a p o. settled u (inr i) w a p (skip a o)) in
          subst Goal (sym (route_out t table v rest W no_own)) (
            r.0,
            (
              r.1.0,
              (λ a o. r.1.1 a (λ j w. o (inr j) w)),
              λ u i w. elim i [ inl d ↦ absurd (both_ways _ no_own (ap W d ∙ w)) | inr j ↦ r.1.2 u j w ],
            ),
          )
