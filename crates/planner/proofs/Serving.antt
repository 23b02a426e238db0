-- Which moves serve, and what helps them, by the members of sets.
use Rattle.std.proofs.Common.{◌≡◌, ℕ, Bool, true, false, cond, not, ◌&&◌, ◌||◌, eqb, Decides, sym, refl, ap, ◌∙◌, inl, inr, arith}
use mathlib.Core.Bool.{beq}
use mathlib.Core.Option.{none, some}
use Rattle.std.proofs.lemmas.Bool.{both_ways, cases_Bool, and_from, and_parts, eq-eqb}
use Rattle.words.specs.declared.LatchSet.{LatchSet}
use Rattle.words.specs.Sets.{has, has_without, has_minus, Empty, Below}
use Rattle.book.specs.declared.partial.PartialSetting.{PartialSetting}
use Rattle.theory.specs.Tasks.{Task, asks?}
use Rattle.theory.specs.Recipes.{Table, kept?, serves?}
use Rattle.theory.proofs.Searches.{all_below_true, all_below_from}
use Rattle.theory.proofs.Sides.{bool_ext}
use Rattle.tasks.specs.declared.task.NormalMove.{NormalMove}
use Rattle.tasks.specs.Asks.{ask_from, asks_of}
use Rattle.tasks.specs.Tasks.{move_of}
use Rattle.planner.specs.RecipesKept.{KeepsOne}

-- a latch is asked at 1 when it is one of the ones
pub asked_one : (p : PartialSetting) (u : ℕ) → asks? true (asks_of p u) ≡ has p.ones u
asked_one p u = go (has p.named u) (has p.ones u) (p.within u)
  where
    go : (a b : Bool) → (b ≡ true → a ≡ true) → asks? true (ask_from (cond a (some b) none)) ≡ b
    go true true h = refl
    go true false h = refl
    go false true h = h refl
    go false false h = refl

-- what is left of the latches that the move asks at 1, but for its own and those with a kept recipe, says whether it serves
module _ (t : Task) (table : Table) (kept : LatchSet) (v : ℕ) (m : NormalMove) (others missing : LatchSet)
    (right : KeepsOne kept table) (below : Below t.width m.asks.named)
    (without : (j : ℕ) → has others j ≡ has_without m.asks.ones v j) (minus : (j : ℕ) → has missing j ≡ has_minus others kept j) where
  provided? : ℕ → Bool
  provided? u = eqb u v || (not (asks? true (asks_of m.asks u)) || kept? true (table u))

  provided : (u : ℕ) → provided? u ≡ not (has missing u)
  unfolding provided?
  provided u =
      same (eqb u v) (has m.asks.ones u) (has kept u) (has others u) (has missing u) _ _ (asked_one m.asks u) (sym (right u)) (without u) (minus u)
    where
      same : (e o k w x a d : Bool) → a ≡ o → d ≡ k → w ≡ (o && not e) → x ≡ (w && not k) → (e || (not a || d)) ≡ not x
      same e o k w x a d p q r s = grind (arith, p, q, r, s)

  missing_one : (u : ℕ) → has missing u ≡ true → has m.asks.ones u ≡ true
  missing_one u h = (and_parts _ _ (sym (without u) ∙ (and_parts _ _ (sym (minus u) ∙ h)).0)).0

  pub serves_told : (x b : Bool) → Decides b (Empty missing) → m.latch ≡ v → beq m.to x ≡ true → b ≡ serves? t table v x (move_of m)
  unfolding provided?
  serves_told x b decides own target = bool_ext b _ there back
    where
      there : b ≡ true → serves? t table v x (move_of m) ≡ true
      there h =
          and_from _ _ (and_from _ _ (eq-eqb m.latch v own) target)
          (all_below_from provided? t.width (λ u l. provided u ∙ ap not (decides.0 h u)))

      back : serves? t table v x (move_of m) ≡ true → b ≡ true
      back h = decides.1 none_missing
        where
          none_missing : Empty missing
          none_missing u =
              elim (cases_Bool (has missing u)) [
                | inl e ↦
                    let inside = below u (m.asks.within u (missing_one u e)) in
                    absurd (both_ways (provided? u) (provided u ∙ ap not e) (all_below_true provided? t.width u (and_parts _ _ h).1 inside))
                | inr e ↦ e
              ]
