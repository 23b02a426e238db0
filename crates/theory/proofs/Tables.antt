-- What the table keeps: which move makes a kept recipe, and when a recipe is kept.
use Rattle.std.proofs.Common.{◌≡◌, ℕ, ◌<◌, Bool, true, false, cond, not, ◌&&◌, ◌||◌, eqb, ◌≢◌, List, [], ◌∷◌, sym, refl, ap, ◌∙◌, subst, inl, inr}
use mathlib.Core.Bool.{beq}
use mathlib.Core.Option.{Option, none, some}
use Rattle.std.proofs.lemmas.Bool.{both_ways, cases_Bool, cases_eq, and_parts, and_from, or_left, or_right, or_cases, not-true, eqb-true, eq-eqb, ne_eqb, not_from_false}
use Rattle.theory.specs.Searches.{In, some_of}
use Rattle.theory.specs.Tasks.{Ask, any, at_zero, at_one, Move, Task, asks?}
use Rattle.theory.specs.Class.{thrown?, static?, same_ask?, reverse?, reversible?, splitting?}
use Rattle.theory.specs.Recipes.{Recipe, Kept, none_kept, one_kept, kept?, recipe_to, Table, recipe_with, serves?, recipe_parts, recipe, keep, table_of}
use Rattle.theory.proofs.Searches.{some_of_true, some_of_from, all_of_true, all_below_true, all_below_from, none≢some, beq_true, beq_from, apart_from}
use Rattle.theory.proofs.Ordered.{WellPlaced, Next}
use Rattle.theory.proofs.Choosing.{recipe_made, recipe_from}

-- the two recipes of which `keep` chooses
pub pick : Bool → Option Recipe → Option Recipe → Option Recipe
pick true one zero = one
pick false one zero = zero

keep_kept : (w : Ask) (one zero : Option Recipe) (y : Bool) → kept? y (keep w one zero) ≡ true →
    pick y one zero ≡ some (recipe_to y (keep w one zero))
unfolding pick
keep_kept w none none y h = absurd (both_ways false refl h)
keep_kept w none (some z) y h = absurd (both_ways false refl h)
keep_kept w (some o) none true h = go (asks? false w) h
  where
    go : (b : Bool) → kept? true (cond b none_kept (one_kept o)) ≡ true → some o ≡ some (recipe_to true (cond b none_kept (one_kept o)))
    go true k = absurd (both_ways false refl k)
    go false k = refl
keep_kept w (some o) none false h = go (asks? false w) h
  where
    go : (b : Bool) → kept? false (cond b none_kept (one_kept o)) ≡ true → none ≡ some (recipe_to false (cond b none_kept (one_kept o)))
    go true k = absurd (both_ways false refl k)
    go false k = absurd (both_ways false refl k)
keep_kept w (some o) (some z) true h = refl
keep_kept w (some o) (some z) false h = refl

pub keep_both : (w : Ask) (one zero : Option Recipe) (o z : Recipe) (y : Bool) → one ≡ some o → zero ≡ some z →
    kept? y (keep w one zero) ≡ true
keep_both w one zero o z y p q = ap (λ a. kept? y (keep w a zero)) p ∙ ap (λ b. kept? y (keep w (some o) b)) q

-- of a latch wanted at 0 both recipes are kept, or none
keep_back : (w : Ask) (one zero : Option Recipe) → asks? false w ≡ true → kept? true (keep w one zero) ≡ true → kept? false (keep w one zero) ≡ true
keep_back w none none e h = h
keep_back w none (some z) e h = h
keep_back w (some o) none e h = absurd (both_ways false refl (sym (ap (λ b. kept? true (cond b none_kept (one_kept o))) e) ∙ h))
keep_back w (some o) (some z) e h = refl

-- of a latch that is not wanted at 0 the recipe to 1 is kept as soon as it is made
pub keep_up : (w : Ask) (one zero : Option Recipe) (o : Recipe) → one ≡ some o → asks? false w ≡ false → kept? true (keep w one zero) ≡ true
keep_up w none none o e h = absurd (none≢some e)
keep_up w none (some z) o e h = absurd (none≢some e)
keep_up w (some a) none o e h = ap (λ b. kept? true (cond b none_kept (one_kept a))) h
keep_up w (some a) (some z) o e h = refl

-- the table at the latch placed last, and at the others
pub table_head : (t : Task) (placed : List ℕ) (v : ℕ) →
    table_of t (v ∷ placed) v ≡ keep (t.want v) (recipe t (table_of t placed) placed v true) (recipe t (table_of t placed) placed v false)
unfolding table_of
table_head t placed v =
    ap (λ b. elim b [
      | true ↦ keep (t.want v) (recipe t (table_of t placed) placed v true) (recipe t (table_of t placed) placed v false)
      | false ↦ table_of t placed v
    ])
    (eq-eqb v v refl)

pub table_tail : (t : Task) (placed : List ℕ) (v u : ℕ) → v ≢ u → table_of t (v ∷ placed) u ≡ table_of t placed u
unfolding table_of
table_tail t placed v u n =
    ap (λ b. elim b [
      | true ↦ keep (t.want v) (recipe t (table_of t placed) placed v true) (recipe t (table_of t placed) placed v false)
      | false ↦ table_of t placed u
    ])
    (ne_eqb v u n)

-- a kept recipe is made by a move that serves
pub kept_move : (t : Task) (placed : List ℕ) (v : ℕ) (y : Bool) → kept? y (table_of t (v ∷ placed) v) ≡ true →
    (m : Move) × In t.moves m × (serves? t (table_of t placed) v y m ≡ true)
    × (recipe_with (table_of t placed) (recipe_parts t v m placed) ≡ recipe_to y (table_of t (v ∷ placed) v))
unfolding pick
kept_move t placed v y h = go y (keep_kept (t.want v) one zero y (sym (ap (kept? y) (table_head t placed v)) ∙ h))
  where
    one : Option Recipe
    one = recipe t (table_of t placed) placed v true

    zero : Option Recipe
    zero = recipe t (table_of t placed) placed v false

    go : (x : Bool) → pick x one zero ≡ some (recipe_to x (keep (t.want v) one zero)) →
        (m : Move) × In t.moves m × (serves? t (table_of t placed) v x m ≡ true)
        × (recipe_with (table_of t placed) (recipe_parts t v m placed) ≡ recipe_to x (table_of t (v ∷ placed) v))
    go true e =
        let r = recipe_from t (table_of t placed) placed v true _ e in
        (r.0, r.1, r.2, r.3 ∙ sym (ap (recipe_to true) (table_head t placed v)))
    go false e =
        let r = recipe_from t (table_of t placed) placed v false _ e in
        (r.0, r.1, r.2, r.3 ∙ sym (ap (recipe_to false) (table_head t placed v)))

-- what holds of the entry of each latch when it is placed last holds of the whole table
pub table_each : (t : Task) (Q : ℕ → Kept → Type 0) →
    ((before : List ℕ) (v : ℕ) → WellPlaced t before → Next t before v → Q v (table_of t (v ∷ before) v)) →
    (placed : List ℕ) → WellPlaced t placed → (u : ℕ) → In placed u → Q u (table_of t placed u)
table_each t Q h [] g u i = absurd i
table_each t Q h (v ∷ placed) g u (inl e) = subst (λ z. Q z (table_of t (v ∷ placed) z)) e (h placed v g.1 g.0)
table_each t Q h (v ∷ placed) g u (inr i) =
    subst (Q u) (sym (table_tail t placed v u (apart_from placed g.0.1 i))) (table_each t Q h placed g.1 u i)

-- the same of the whole table
pub kept_back : (t : Task) (placed : List ℕ) → WellPlaced t placed → (u : ℕ) → In placed u → asks? false (t.want u) ≡ true →
    kept? true (table_of t placed u) ≡ true → kept? false (table_of t placed u) ≡ true
kept_back t placed g u i =
    table_each t (λ v k. asks? false (t.want v) ≡ true → kept? true k ≡ true → kept? false k ≡ true)
    (λ before v g' f a h.
    ap (kept? false) (table_head t before v)
    ∙ keep_back (t.want v) (recipe t (table_of t before) before v true) (recipe t (table_of t before) before v false) a
    (sym (ap (kept? true) (table_head t before v)) ∙ h))
    placed g u i

-- what a move that serves is
pub serves_parts : (t : Task) (table : Table) (v : ℕ) (x : Bool) (m : Move) → serves? t table v x m ≡ true →
    (m.latch ≡ v) × (m.to ≡ x) × ((u : ℕ) → u < t.width → u ≢ v → asks? true (m.asks u) ≡ true → kept? true (table u) ≡ true)
serves_parts t table v x m h =
    let p = and_parts (eqb m.latch v && beq m.to x) _ h in
    let q = and_parts (eqb m.latch v) _ p.0 in (
      eqb-true _ _ q.0,
      beq_true _ _ q.1,
      λ u l n a.
          elim (or_cases (eqb u v) _ (all_below_true (λ w. eqb w v || (not (asks? true (m.asks w)) || kept? true (table w))) t.width u p.1 l)) [
            | inl e ↦ absurd (n (eqb-true u v e))
            | inr k ↦ elim (or_cases (not (asks? true (m.asks u))) _ k) [ inl b ↦ absurd (both_ways _ (not-true _ b) a) | inr b ↦ b ]
          ],
    )

pub serves_made : (t : Task) (table : Table) (v : ℕ) (x : Bool) (m : Move) → m.latch ≡ v → m.to ≡ x →
    ((u : ℕ) → u < t.width → u ≢ v → asks? true (m.asks u) ≡ true → kept? true (table u) ≡ true) → serves? t table v x m ≡ true
serves_made t table v x m e d h =
    and_from (eqb m.latch v && beq m.to x) _ (and_from (eqb m.latch v) _ (eq-eqb _ _ e) (beq_from _ _ d))
    (all_below_from (λ w. eqb w v || (not (asks? true (m.asks w)) || kept? true (table w))) t.width ready)
  where
    ready : (u : ℕ) → u < t.width → (eqb u v || (not (asks? true (m.asks u)) || kept? true (table u))) ≡ true
    ready u l =
        elim (cases_eq u v) [
          | inl s ↦ or_left (eqb u v) _ (eq-eqb u v s)
          | inr n ↦
              or_right (eqb u v) _
              (elim (cases_Bool (asks? true (m.asks u)))
              [ inl a ↦ or_right (not (asks? true (m.asks u))) _ (h u l n a) | inr a ↦ or_left _ _ (not_from_false _ a) ])
        ]

pub same_ask_true : (a b : Ask) → same_ask? a b ≡ true → a ≡ b
same_ask_true any any h = refl
same_ask_true any at_zero h = absurd (both_ways false refl h)
same_ask_true any at_one h = absurd (both_ways false refl h)
same_ask_true at_zero any h = absurd (both_ways false refl h)
same_ask_true at_zero at_zero h = refl
same_ask_true at_zero at_one h = absurd (both_ways false refl h)
same_ask_true at_one any h = absurd (both_ways false refl h)
same_ask_true at_one at_zero h = absurd (both_ways false refl h)
same_ask_true at_one at_one h = refl

-- a move of a reversible latch has its reverse
pub reverse_of : (t : Task) (v : ℕ) → reversible? t v ≡ true → (m : Move) → In t.moves m → m.latch ≡ v →
    (m' : Move) × In t.moves m' × (m'.latch ≡ v) × (m'.to ≡ not m.to) × ((u : ℕ) → u < t.width → u ≢ v → m'.asks u ≡ m.asks u)
unfolding reversible?
reverse_of t v h m i e =
    elim (or_cases (not (eqb m.latch v)) _ (all_of_true (λ k. not (eqb k.latch v) || some_of (reverse? t v k) t.moves) t.moves m h i)) [
      | inl a ↦ absurd (both_ways _ (not-true _ a) (eq-eqb _ _ e))
      | inr b ↦
          let r = some_of_true (reverse? t v m) t.moves b in
          let p = and_parts (eqb r.0.latch v && beq r.0.to (not m.to)) _ r.2 in
          let q = and_parts (eqb r.0.latch v) _ p.0 in (
            r.0,
            r.1,
            eqb-true _ _ q.0,
            beq_true _ _ q.1,
            λ u l n. elim (or_cases (eqb u v) _ (all_below_true (λ w. eqb w v || same_ask? (r.0.asks w) (m.asks w)) t.width u p.1 l))
                [ inl d ↦ absurd (n (eqb-true u v d)) | inr d ↦ same_ask_true _ _ d ],
          )
    ]

-- a static or reversible latch with a kept recipe to 1 has one to 0
pub kept_reset : (t : Task) → ((v : ℕ) → v < t.width → (static? t v || (reversible? t v || splitting? t v)) ≡ true) →
    (placed : List ℕ) → WellPlaced t placed → (u : ℕ) → In placed u → splitting? t u ≡ false →
    kept? true (table_of t placed u) ≡ true → kept? false (table_of t placed u) ≡ true
unfolding static?
kept_reset t each placed g u i =
    table_each t (λ v k. splitting? t v ≡ false → kept? true k ≡ true → kept? false k ≡ true) reset placed g u i
  where
    reset : (before : List ℕ) (v : ℕ) → WellPlaced t before → Next t before v → splitting? t v ≡ false →
        kept? true (table_of t (v ∷ before) v) ≡ true → kept? false (table_of t (v ∷ before) v) ≡ true
    reset before v g' f not_splitting h =
        let made = kept_move t before v true h in
        let m = made.0 in
        let parts = serves_parts t (table_of t before) v true m made.2 in
        elim (or_cases (static? t v) _ (each v f.0)) [
          | inl s ↦
              elim (or_cases (not (thrown? t v true)) _ s) [
                | inl n ↦
                    absurd
                    (both_ways _ (not-true _ n)
                    (some_of_from (λ k. eqb k.latch v && beq k.to true) t.moves m made.1
                    (and_from (eqb m.latch v) _ (eq-eqb _ _ parts.0) (beq_from _ _ parts.1))))
                | inr w ↦
                    kept_back t (v ∷ before) (f, g') v (inl refl) (and_parts (asks? false (t.want v)) _ w).0 h
              ]
          | inr r ↦
              elim (or_cases (reversible? t v) _ r) [
                | inl rev ↦
                    let rev_move = reverse_of t v rev m made.1 parts.0 in
                    let back = serves_made t (table_of t before) v false rev_move.0 rev_move.2 (rev_move.3 ∙ ap not parts.1)
                    (λ w l n a. parts.2 w l n (sym (ap (asks? true) (rev_move.4 w l n)) ∙ a)) in
                    let one = recipe_made t (table_of t before) before v true m made.1 made.2 in
                    let zero = recipe_made t (table_of t before) before v false rev_move.0 rev_move.1 back in
                    ap (kept? false) (table_head t before v) ∙ keep_both (t.want v) _ _ one.0 zero.0 false one.1 zero.1
                | inr sp ↦ absurd (both_ways _ not_splitting sp)
              ]
        ]
