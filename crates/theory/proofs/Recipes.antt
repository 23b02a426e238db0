-- A kept recipe throws its latch and leaves every other latch as it was.
use Rattle.std.proofs.Common.{◌≡◌, ℕ, ◌<◌, Bool, true, false, not, ◌&&◌, ◌||◌, eqb, ◌≢◌, List, [], ◌∷◌, ◌++◌, sym, refl, ap, ◌∙◌, subst, inl, inr}
use Rattle.std.proofs.lemmas.Bool.{both_ways, cases_Bool, cases_eq, and_parts, and_from, and_left, and_right, or_left, or_right, not-true, not_from_false, eqb-false, ne_eqb}
use Rattle.theory.specs.Searches.{In}
use Rattle.theory.specs.Tasks.{Ask, any, at_zero, at_one, Move, Task, WellFormed, Setting, Met, put, Legal, Run, asked?, asks?, ask_against}
use Rattle.theory.specs.Class.{edge?, side?, splitting?}
use Rattle.graph.specs.Walks.{Walk, one}
use Rattle.theory.specs.Recipes.{Recipe, Table, kept?, moves_to, serves?, helper?, recipe_parts, opened, table_of}
use Rattle.theory.proofs.Searches.{apart_from}
use Rattle.theory.proofs.Walks.{walk_join}
use Rattle.theory.proofs.Ordered.{Arrow, WellPlaced, before_walk, before_next}
use Rattle.theory.proofs.Sides.{asks_asked, edge_made, dependent_made, dependent_side, edge_same_side, sides_apart}
use Rattle.theory.proofs.Running.{put_same, put_other, put_between, run_join, run_to, run_as}
use Rattle.theory.proofs.Opening.{opened_alone, opened_unhelped, opened_helped}
use Rattle.theory.proofs.Tables.{table_tail, kept_move, serves_parts}

-- how an ancestor u of v has to stand when v is thrown: at 1 if u is splitting, v is on its one side and its recipe to 1 is kept, else at 0
abbrev pub due : Task → Table → ℕ → ℕ → Bool
due t table u v = splitting? t u && (side? t true u v && kept? true (table u))

-- all ancestors of v stand so
abbrev pub Ready : Task → Table → Setting → ℕ → Type 0
Ready t table s v = (u : ℕ) → Walk (Arrow t) u v → s u ≡ due t table u v

-- the kept recipes of u throw it, and nothing else, from where its ancestors are ready
abbrev pub Works : Task → Table → ℕ → Type 0
Works t table u = (y : Bool) → kept? y (table u) ≡ true → (s : Setting) → Ready t table s u → s u ≡ not y → Run t (moves_to y (table u)) s (put s u y)

not_due : (t : Task) (table : Table) (u v : ℕ) → splitting? t u ≡ false → due t table u v ≡ false
not_due t table u v h = and_left (splitting? t u) _ h

ask_against_met : (x : Bool) (b : Bool) → b ≡ not x → Met (ask_against x) b
ask_against_met true b e = e
ask_against_met false b e = e

pub helper_parts : (t : Task) (v : ℕ) (m : Move) (u : ℕ) → helper? t v m u ≡ true → (u ≢ v) × (asks? true (m.asks u) ≡ true) × (splitting? t u ≡ false)
helper_parts t v m u h =
    let p = and_parts (not (eqb u v)) _ h in
    let q = and_parts (asks? true (m.asks u)) _ p.1 in
    (eqb-false u v (not-true _ p.0), q.0, not-true _ q.1)

module _ (t : Task) (well : WellFormed t) (table : Table) (v : ℕ) (x : Bool) (m : Move) (its : In t.moves m) (serves : serves? t table v x m ≡ true) (within : v < t.width) where
  -- the move is legal once its helpers stand at 1 and the others as they are due
  legal : (s : Setting) → s v ≡ not x → ((u : ℕ) → edge? t u v ≡ true → s u ≡ (helper? t v m u || due t table u v)) → Legal s m
  legal s own other u = go (m.asks u) refl
    where
      parts : (m.latch ≡ v) × (m.to ≡ x) × ((w : ℕ) → w < t.width → w ≢ v → asks? true (m.asks w) ≡ true → kept? true (table w) ≡ true)
      parts = serves_parts t table v x m serves

      away : (a : Ask) → m.asks u ≡ a → u ≢ v → Met a (s u)
      away any e n = tt
      away at_zero e n =
          let edge = edge_made t m u v its parts.0 n (ap asked? e) in
          let free : helper? t v m u ≡ false = and_right (not (eqb u v)) _ (and_left (asks? true (m.asks u)) _ (ap (asks? true) e)) in
          let down : due t table u v ≡ false =
          elim (cases_Bool (splitting? t u)) [
            | inl sp ↦
                and_right (splitting? t u) _
                (and_left (side? t true u v) _
                (sides_apart t u v sp within (dependent_side t well false u v (dependent_made t false m u v its parts.0 n (ap (asks? false) e)))))
            | inr ns ↦ not_due t table u v ns
          ] in
          other u edge ∙ ap (λ b. b || due t table u v) free ∙ down
      away at_one e n =
          let edge = edge_made t m u v its parts.0 n (ap asked? e) in
          let asked : asks? true (m.asks u) ≡ true = ap (asks? true) e in
          elim (cases_Bool (splitting? t u)) [
            | inl sp ↦
                other u edge
                ∙ or_right (helper? t v m u) _
                (and_from (splitting? t u) _ sp
                (and_from (side? t true u v) _ (dependent_side t well true u v (dependent_made t true m u v its parts.0 n asked))
                (parts.2 u (well.asks_within m its u (λ d. both_ways _ (ap (asks? true) d) asked)) n asked)))
            | inr ns ↦
                other u edge
                ∙ or_left (helper? t v m u) _
                (and_from (not (eqb u v)) _ (not_from_false _ (ne_eqb u v n)) (and_from (asks? true (m.asks u)) _ asked (not_from_false _ ns)))
          ]

      go : (a : Ask) → m.asks u ≡ a → Met (m.asks u) (s u)
      go a e =
          elim (cases_eq u v) [
            | inl d ↦
                let own' : s u ≡ not m.to = ap s d ∙ own ∙ sym (ap not parts.1) in
                let asks_own : m.asks u ≡ ask_against m.to = ap m.asks (d ∙ sym parts.0) ∙ well.asks_own m its in
                subst (λ k. Met k (s u)) (sym asks_own) (ask_against_met m.to (s u) own')
            | inr n ↦ subst (λ k. Met k (s u)) (sym e) (away a e n)
          ]

  -- the move alone
  throw : (s : Setting) → s v ≡ not x → ((u : ℕ) → edge? t u v ≡ true → s u ≡ (helper? t v m u || due t table u v)) → Run t (m ∷ []) s (put s v x)
  throw s own other =
      let parts = serves_parts t table v x m serves in
      (its, legal s own other, ap (λ l. put s l m.to) parts.0 ∙ ap (put s v) parts.1)

  -- the move, with those of its helpers that are in the list thrown to 1 before it and back behind it
  parts_run : (us : List ℕ) → WellPlaced t us → (In us v → ⊥) →
      ((u : ℕ) → In us u → Works t table u) →
      ((u : ℕ) → In us u → splitting? t u ≡ false → kept? true (table u) ≡ true → kept? false (table u) ≡ true) →
      (s : Setting) → s v ≡ not x →
      ((u : ℕ) → In us u → Walk (Arrow t) u v → s u ≡ due t table u v) →
      ((u : ℕ) → (In us u → ⊥) → edge? t u v ≡ true → s u ≡ (helper? t v m u || due t table u v)) →
      Run t (opened table (recipe_parts t v m us)) s (put s v x)
  parts_run [] g new works reset s own before other =
      run_as t (m ∷ []) _ s (put s v x) (sym (opened_alone t table v m)) (throw s own (λ u e. other u (λ i. i) e))
  parts_run (u ∷ us) g new works reset s own before other =
      go (helper? t v m u) refl
      (parts_run us g.1 (λ i. new (inr i)) (λ w i. works w (inr i)) (λ w i. reset w (inr i)))
    where
      parts : (m.latch ≡ v) × (m.to ≡ x) × ((w : ℕ) → w < t.width → w ≢ v → asks? true (m.asks w) ≡ true → kept? true (table w) ≡ true)
      parts = serves_parts t table v x m serves

      go : (b : Bool) → helper? t v m u ≡ b →
          ((s' : Setting) → s' v ≡ not x →
          ((w : ℕ) → In us w → Walk (Arrow t) w v → s' w ≡ due t table w v) →
          ((w : ℕ) → (In us w → ⊥) → edge? t w v ≡ true → s' w ≡ (helper? t v m w || due t table w v)) →
          Run t (opened table (recipe_parts t v m us)) s' (put s' v x)) →
          Run t (opened table (recipe_parts t v m (u ∷ us))) s (put s v x)
      go false e ih =
          run_as t (opened table (recipe_parts t v m us)) _ s (put s v x) (sym (opened_unhelped t table v m u us e))
          (ih s own (λ w i p. before w (inr i) p)
          (λ w i a.
          elim (cases_eq u w) [
            | inl d ↦
                before w (inl d) (one a)
                ∙ sym (ap (λ b. b || due t table w v) (sym (ap (helper? t v m) d) ∙ e))
            | inr n ↦ other w (λ j. elim j [ inl d ↦ n d | inr k ↦ i k ]) a
          ]))
      go true e ih =
          let r = helper_parts t v m u e in
          let edge : edge? t u v ≡ true = edge_made t m u v its parts.0 r.0 (asks_asked true _ r.1) in
          let up = parts.2 u g.0.0 r.0 r.1 in
          let low : s u ≡ false = before u (inl refl) (one edge) ∙ not_due t table u v r.2 in
          let s₁ = put s u true in
          -- an ancestor of u stands in the rest of the list, and is neither u nor v
          let apart : (w : ℕ) → Walk (Arrow t) w u → In us w × (u ≢ w) × (v ≢ w) =
          λ w p. (
            before_next t us g.1 g.0 p,
            apart_from us g.0.1 (before_next t us g.1 g.0 p),
            apart_from us (λ i. new (inr i)) (before_next t us g.1 g.0 p),
          ) in
          let ready : Ready t table s u =
          λ w p. before w (inr (apart w p).0) (walk_join p (one edge))
          ∙ ap (λ b. splitting? t w && (b && kept? true (table w))) (sym (edge_same_side t well true w u v edge (apart w p).1)) in
          let raise = works u (inl refl) true up s ready low in
          let own₁ : s₁ v ≡ not x = put_other s u true v r.0 ∙ own in
          let inner = ih s₁ own₁
          (λ w i p. put_other s u true w (apart_from us g.0.1 i) ∙ before w (inr i) p)
          (λ w i a.
          elim (cases_eq u w) [
            | inl d ↦ put_same s u true w d ∙ sym (or_left (helper? t v m w) _ (sym (ap (helper? t v m) d) ∙ e))
            | inr n ↦ put_other s u true w n ∙ other w (λ j. elim j [ inl d ↦ n d | inr k ↦ i k ]) a
          ]) in
          let s₂ = put s₁ v x in
          let ready₂ : Ready t table s₂ u =
          λ w p. put_other s₁ v x w (apart w p).2 ∙ put_other s u true w (apart w p).1 ∙ ready w p in
          let high : s₂ u ≡ true = put_other s₁ v x u (λ d. r.0 (sym d)) ∙ put_same s u true u refl in
          let lower = works u (inl refl) false (reset u (inl refl) r.2 up) s₂ ready₂ high in
          run_as t (moves_to true (table u) ++ (opened table (recipe_parts t v m us) ++ moves_to false (table u))) _ s (put s v x) (sym (opened_helped t table v m u us e))
          (run_join t (moves_to true (table u)) _ s s₁ (put s v x) raise
          (run_join t (opened table (recipe_parts t v m us)) _ s₁ s₂ (put s v x) inner
          (run_to t (moves_to false (table u)) s₂ (put s₂ u false) (put s v x) (put_between s u v x r.0 low) lower)))

module _ (t : Task) (well : WellFormed t)
    (reset : (placed : List ℕ) → WellPlaced t placed → (u : ℕ) → In placed u → splitting? t u ≡ false →
    kept? true (table_of t placed u) ≡ true → kept? false (table_of t placed u) ≡ true) where
  -- a larger table is the same for the ancestors of what was placed before
  recipe_does_tail : (placed : List ℕ) (v : ℕ) → WellPlaced t (v ∷ placed) → (u : ℕ) → In placed u → Works t (table_of t placed) u → Works t (table_of t (v ∷ placed)) u
  recipe_does_tail placed v g u i works y k s ready own =
      let apart : (w : ℕ) → In placed w → v ≢ w = λ w j. apart_from placed g.0.1 j in
      let same : table_of t (v ∷ placed) u ≡ table_of t placed u = table_tail t placed v u (apart u i) in
      run_as t (moves_to y (table_of t placed u)) _ s (put s u y) (sym (ap (moves_to y) same))
      (works y (sym (ap (kept? y) same) ∙ k) s
      (λ w p. ready w p
      ∙ ap (λ e. splitting? t w && (side? t true w u && kept? true e)) (table_tail t placed v w (apart w (before_walk t placed g.1 p i)))) own)

  -- the latch placed last, once the recipes of those before it work
  recipe_does_head : (placed : List ℕ) (v : ℕ) → WellPlaced t (v ∷ placed) → ((w : ℕ) → In placed w → Works t (table_of t placed) w) → Works t (table_of t (v ∷ placed)) v
  recipe_does_head placed v g all y k s ready own =
      let made = kept_move t placed v y k in
      let due_now : (w : ℕ) → Walk (Arrow t) w v → s w ≡ due t (table_of t placed) w v =
      λ w p. ready w p ∙ ap (λ e. splitting? t w && (side? t true w v && kept? true e))
      (table_tail t placed v w (apart_from placed g.0.1 (before_next t placed g.1 g.0 p))) in
      run_as t _ _ s (put s v y) (ap (λ (r : Recipe). r.moves) made.3)
      (parts_run t well (table_of t placed) v y made.0 made.1 made.2 g.0.0 placed g.1 g.0.1
      all (reset placed g.1) s own (λ w i p. due_now w p) (λ w n a. absurd (n (g.0.2 w a))))

  pub recipe_does : (placed : List ℕ) → WellPlaced t placed → (u : ℕ) → In placed u → Works t (table_of t placed) u
  recipe_does [] g u i = absurd i
  recipe_does (v ∷ placed) g u (inl e) =
      subst (Works t (table_of t (v ∷ placed))) e (recipe_does_head placed v g (λ w i. recipe_does placed g.1 w i))
  recipe_does (v ∷ placed) g u (inr i) = recipe_does_tail placed v g u i (recipe_does placed g.1 u i)
