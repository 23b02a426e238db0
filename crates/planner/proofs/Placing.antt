-- Placing under way: which latches are placed, in which order, and what is yet to be placed behind them.
use Rattle.std.proofs.Common.{◌≡◌, ℕ, zero, suc, ◌+◌, ◌-◌, ◌<◌, ◌≤◌, Bool, true, ◌&&◌, ◌||◌, eqb, ltb, List, [], ◌∷◌, ◌++◌, reverse, length, sym, refl, ap, ◌∙◌, subst, inl, inr, arith, length-append}
use mathlib.Core.Option.{Option, none, some}
use Rattle.std.proofs.lemmas.List.{reverse-append, reverse-reverse}
use Rattle.std.proofs.lemmas.Bool.{cases_eq, eq-eqb, ne_eqb, lt-ltb}
use Rattle.words.specs.declared.LatchSet.{LatchSet}
use Rattle.words.specs.Sets.{most_latches, no_latch, has, has_with}
use Rattle.words.proofs.Members.{no_member}
use Rattle.theory.specs.Searches.{has as listed, lowest}
use Rattle.theory.specs.Tasks.{Task}
use Rattle.theory.specs.Order.{next?, placing, latest_first, order}
use Rattle.theory.proofs.Searches.{lowest_some}
use Rattle.planner.specs.Orders.{Members}

-- the latches of the list are placed, i of them, and placing goes on from there
pub record Placing (t : Task) (placed : LatchSet) (latches : List ℕ) (i : ℕ) : Type 0 where
  pub leads : placing t (t.width - i) (reverse latches) ≡ latest_first t
  pub members : Members placed (reverse latches)
  pub count : length latches ≡ i

-- a latch that is next is placed
placing_some : (t : Task) (n : ℕ) (vs : List ℕ) (v : ℕ) → lowest (next? t vs) t.width ≡ some v → placing t (suc n) vs ≡ placing t n (v ∷ vs)
unfolding placing
placing_some t n vs v e = ap (λ (o : Option ℕ). elim o [ none ↦ vs | some w ↦ placing t n (w ∷ vs) ]) e

-- where none is next, no more is placed
placing_none : (t : Task) (n : ℕ) (vs : List ℕ) → lowest (next? t vs) t.width ≡ none → placing t n vs ≡ vs
unfolding placing
placing_none t zero vs e = refl
placing_none t (suc n) vs e = ap (λ (o : Option ℕ). elim o [ none ↦ vs | some w ↦ placing t n (w ∷ vs) ]) e

-- where no more is to be placed, none is
placing_zero : (t : Task) (n : ℕ) (vs : List ℕ) → n ≡ 0 → placing t n vs ≡ vs
unfolding placing
placing_zero t n vs e = ap (λ m. placing t m vs) e

-- the set with a latch has the members of the list with that latch
members_more : (s r : LatchSet) (vs : List ℕ) (v : ℕ) → Members s vs → ((j : ℕ) → has r j ≡ has_with s v j) → v < most_latches → Members r (v ∷ vs)
members_more s r vs v same more l u = more u ∙ turned (has s u) (eqb u v) (ltb v most_latches) (eqb v u) (listed vs u) (same u) swapped (lt-ltb v most_latches l)
  where
    swapped : eqb u v ≡ eqb v u
    swapped =
        elim (cases_eq u v) [
          | inl e ↦ eq-eqb u v e ∙ sym (eq-eqb v u (sym e))
          | inr ne ↦ ne_eqb u v ne ∙ sym (ne_eqb v u (λ e. ne (sym e)))
        ]

    turned : (a b c d e : Bool) → a ≡ e → b ≡ d → c ≡ true → (a || (b && c)) ≡ (d || e)
    turned a b c d e p q r = grind (arith, p, q, r)

-- at the start no latch is placed
pub none_placed : (t : Task) (latches : List ℕ) → latches ≡ [] → Placing t no_latch latches 0
unfolding latest_first
none_placed t latches e = subst (λ (vs : List ℕ). Placing t no_latch vs 0) (sym e) (record {
  leads = ap (λ n. placing t n []) (omega arith);
  members = no_member;
  count = refl;
})

module _ {t : Task} {placed : LatchSet} {latches : List ℕ} {i : ℕ} (now : Placing t placed latches i) where
  -- the latch that is next is placed behind the others
  pub one_more :
      (after : LatchSet) (v : ℕ) (more : List ℕ) → t.width ≤ most_latches → i < t.width → lowest (next? t (reverse latches)) t.width ≡ some v →
      ((j : ℕ) → has after j ≡ has_with placed v j) → more ≡ latches ++ v ∷ [] → Placing t after more (i + 1)
  one_more after v more narrow l e with_v pushed = record {
    leads =
        ap (placing t (t.width - (i + 1))) step
        ∙ sym (placing_some t (t.width - (i + 1)) (reverse latches) v e)
        ∙ ap (λ n. placing t n (reverse latches)) count
        ∙ now.leads;
    members = subst (Members after) (sym step) (members_more placed after (reverse latches) v now.members with_v below);
    count = ap (λ (vs : List ℕ). length vs) pushed ∙ omega (arith, length-append latches (v ∷ []), now.count);
  }
    where
      step : reverse more ≡ v ∷ reverse latches
      step = ap reverse pushed ∙ reverse-append latches (v ∷ [])

      count : suc (t.width - (i + 1)) ≡ t.width - i
      count = omega arith

      below : v < most_latches
      below = omega (arith, (lowest_some (next? t (reverse latches)) t.width v e).0)

  -- where placing adds nothing, what is placed is the order
  in_order : placing t (t.width - i) (reverse latches) ≡ reverse latches → latches ≡ order t
  unfolding order
  in_order e = sym (reverse-reverse latches) ∙ ap reverse (sym e ∙ now.leads)

  -- it adds nothing where no latch is next
  pub none_next : lowest (next? t (reverse latches)) t.width ≡ none → latches ≡ order t
  none_next e = in_order (placing_none t (t.width - i) (reverse latches) e)

  -- nor once as many are placed as there are
  pub all_placed : t.width ≤ i → latches ≡ order t
  all_placed l = in_order (placing_zero t (t.width - i) (reverse latches) (omega arith))
