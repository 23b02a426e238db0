-- Where no recipe is kept for a latch that is wanted at 1, no run does the errand.
use Rattle.std.proofs.Common.{◌≡◌, ℕ, Bool, true, false, not, ◌&&◌, ◌⊎◌, List, [], ◌∷◌, sym, refl, ap, ◌∙◌, subst, inl, inr}
use mathlib.Core.Option.{some}
use Rattle.std.proofs.lemmas.Bool.{both_ways, cases_Bool, cases_eq, and_parts, not-true}
use Rattle.theory.specs.Searches.{In}
use Rattle.theory.specs.Tasks.{Ask, any, at_zero, at_one, Move, Task, WellFormed, Setting, all_zero, Met, thrown, Legal, Run, Meets, Way, asks?}
use Rattle.theory.specs.Class.{acyclic?}
use Rattle.theory.specs.Order.{latest_first}
use Rattle.theory.specs.Recipes.{Recipe, kept?, recipe, table_of}
use Rattle.theory.specs.Route.{kept_table, no_way?}
use Rattle.theory.proofs.Searches.{some_below_true, apart_from}
use Rattle.theory.proofs.Ordered.{WellPlaced, Next, latest_well_placed, latest_all}
use Rattle.theory.proofs.Sides.{asks_asked, edge_made}
use Rattle.theory.proofs.Running.{put_same, put_other}
use Rattle.theory.proofs.Choosing.{recipe_made}
use Rattle.theory.proofs.Tables.{keep_both, keep_up, table_head, table_tail, serves_made}

-- v stands at 1 somewhere on the way of these moves from s
abbrev Ever : List Move → Setting → ℕ → Type 0
Ever [] s v = s v ≡ true
Ever (m ∷ ms) s v = (s v ≡ true) ⊎ Ever ms (thrown s m) v

ever_now : (ms : List Move) (s : Setting) (v : ℕ) → s v ≡ true → Ever ms s v
ever_now [] s v h = h
ever_now (m ∷ ms) s v h = inl h

ever_end : (t : Task) (ms : List Move) (s e : Setting) (v : ℕ) → Run t ms s e → e v ≡ true → Ever ms s v
ever_end t [] s e v r h = ap (λ z. z v) r ∙ h
ever_end t (m ∷ ms) s e v r h = inr (ever_end t ms (thrown s m) e v r.2 h)

-- a move of the task that throws v to x, and asks at 1 only latches that stand at 1 on the way
Cause : Task → List Move → Setting → ℕ → Bool → Type 0
Cause t ms s v x =
    (m : Move) × In t.moves m × (m.latch ≡ v) × (m.to ≡ x) × ((u : ℕ) → asks? true (m.asks u) ≡ true → Ever ms s u)

met_one : (a : Ask) (b : Bool) → asks? true a ≡ true → Met a b → b ≡ true
met_one any b h m = absurd (both_ways false refl h)
met_one at_zero b h m = absurd (both_ways false refl h)
met_one at_one b h m = m

met_zero : (a : Ask) (b : Bool) → asks? false a ≡ true → Met a b → b ≡ false
met_zero any b h m = absurd (both_ways false refl h)
met_zero at_zero b h m = m
met_zero at_one b h m = absurd (both_ways false refl h)

-- what a move changes is its own latch
changed : (s : Setting) (m : Move) (v : ℕ) (x : Bool) → s v ≡ not x → thrown s m v ≡ x → (m.latch ≡ v) × (m.to ≡ x)
changed s m v x before after =
    elim (cases_eq m.latch v) [
      | inl e ↦ (e, sym (put_same s m.latch m.to v e) ∙ after)
      | inr n ↦ absurd (clash x (sym before ∙ sym (put_other s m.latch m.to v n) ∙ after))
    ]
  where
    clash : (y : Bool) → not y ≡ y → ⊥
    clash true e = both_ways false refl e
    clash false e = both_ways true e refl

-- the first move of a run is a cause, if it changes v
cause_now : (t : Task) (m : Move) (ms : List Move) (s : Setting) (v : ℕ) (x : Bool) → In t.moves m → Legal s m → s v ≡ not x → thrown s m v ≡ x →
    Cause t (m ∷ ms) s v x
unfolding Cause
cause_now t m ms s v x i legal before after =
    let r = changed s m v x before after in (m, i, r.0, r.1, λ u a. inl (met_one (m.asks u) (s u) a (legal u)))

cause_later : (t : Task) (m : Move) (ms : List Move) (s : Setting) (v : ℕ) (x : Bool) → Cause t ms (thrown s m) v x → Cause t (m ∷ ms) s v x
unfolding Cause
cause_later t m ms s v x c = (c.0, c.1, c.2, c.3, λ u a. inr (c.4 u a))

-- a latch that comes to stand at 1 was thrown there
risen : (t : Task) (ms : List Move) (s e : Setting) (v : ℕ) → Run t ms s e → s v ≡ false → Ever ms s v → Cause t ms s v true
risen t [] s e v r z h = absurd (both_ways _ z h)
risen t (m ∷ ms) s e v r z (inl h) = absurd (both_ways _ z h)
risen t (m ∷ ms) s e v r z (inr h) =
    elim (cases_Bool (thrown s m v)) [
      | inl a ↦ cause_now t m ms s v true r.0 r.1 z a
      | inr a ↦ cause_later t m ms s v true (risen t ms (thrown s m) e v r.2 a h)
    ]

-- and thrown back, if it stands at 0 in the end
fallen : (t : Task) (ms : List Move) (s e : Setting) (v : ℕ) → Run t ms s e → e v ≡ false → Ever ms s v → Cause t ms s v false
fallen t [] s e v r z h = absurd (both_ways _ z (sym (ap (λ k. k v) r) ∙ h))
fallen t (m ∷ ms) s e v r z (inr h) = cause_later t m ms s v false (fallen t ms (thrown s m) e v r.2 z h)
fallen t (m ∷ ms) s e v r z (inl h) =
    elim (cases_Bool (thrown s m v)) [
      | inl a ↦ cause_later t m ms s v false (fallen t ms (thrown s m) e v r.2 z (ever_now ms (thrown s m) v a))
      | inr a ↦ cause_now t m ms s v false r.0 r.1 h a
    ]

module _ (t : Task) (ms : List Move) (e : Setting) (run : Run t ms all_zero e) (meets : Meets t.want e) where
  -- a latch placed last that ever stands at 1, if all that is asked of those before it is kept
  kept_head : (placed : List ℕ) (v : ℕ) → Next t placed v → ((u : ℕ) → In placed u → Ever ms all_zero u → kept? true (table_of t placed u) ≡ true) →
      Ever ms all_zero v → kept? true (table_of t (v ∷ placed) v) ≡ true
  unfolding Cause
  kept_head placed v fit all h =
      ap (kept? true) (table_head t placed v)
      ∙ elim (cases_Bool (asks? false (t.want v))) [
        | inl z ↦
            let down = made false (fallen t ms all_zero e v run (met_zero (t.want v) (e v) z (meets v)) h) in
            keep_both (t.want v) _ _ up.0 down.0 true up.1 down.1
        | inr z ↦ keep_up (t.want v) _ (recipe t (table_of t placed) placed v false) up.0 up.1 z
      ]
    where
      made : (x : Bool) → Cause t ms all_zero v x → (l : Recipe) × (recipe t (table_of t placed) placed v x ≡ some l)
      made x c =
          recipe_made t (table_of t placed) placed v x c.0 c.1
          (serves_made t (table_of t placed) v x c.0 c.2 c.3
          (λ u l n a. all u (fit.2 u (edge_made t c.0 u v c.1 c.2 n (asks_asked true _ a))) (c.4 u a)))

      up : (l : Recipe) × (recipe t (table_of t placed) placed v true ≡ some l)
      up = made true (risen t ms all_zero e v run refl h)

  kept_all : (placed : List ℕ) → WellPlaced t placed → (u : ℕ) → In placed u → Ever ms all_zero u → kept? true (table_of t placed u) ≡ true
  kept_all [] g u i h = absurd i
  kept_all (v ∷ placed) g u (inl d) h =
      subst (λ z. Ever ms all_zero z → kept? true (table_of t (v ∷ placed) z) ≡ true) d (kept_head placed v g.0 (λ w j. kept_all placed g.1 w j)) h
  kept_all (v ∷ placed) g u (inr i) h =
      ap (kept? true) (table_tail t placed v u (apart_from placed g.0.1 i)) ∙ kept_all placed g.1 u i h

-- acyclicity is all that is used of the class
pub no_way_sound : (t : Task) → WellFormed t → acyclic? t ≡ true → no_way? t ≡ true → Way t → ⊥
unfolding no_way? kept_table
no_way_sound t well no_cycle none (ms, (e, (run, meets))) =
    let r = some_below_true (λ v. asks? true (t.want v) && not (kept? true (kept_table t v))) t.width none in
    let v = r.0 in
    let p = and_parts (asks? true (t.want v)) _ r.2 in
    let stands = ever_end t ms all_zero e v run (met_one (t.want v) (e v) p.0 (meets v)) in
    both_ways _ (not-true _ p.1) (kept_all t ms e run meets (latest_first t) (latest_well_placed t well no_cycle) v (latest_all t well no_cycle v r.1) stands)
