-- The test of an errand's two sets says what is meant, and their errand names latches of the book only.
use Rattle.std.proofs.Common.{◌≡◌, Decides, Bool, true, false, not, ◌||◌, ◌↔◌, refl, ap}
use Rattle.std.proofs.lemmas.Bool.{both_ways, true_from_ne_false}
use Rattle.std.proofs.lemmas.Bool.Decides.{Decides-like, Decides-and}
use Rattle.words.specs.declared.LatchSet.{LatchSet}
use Rattle.words.specs.Sets.{has}
use Rattle.words.proofs.Members.{below_word}
use Rattle.theory.specs.Tasks.{Ask, any, ask_for}
use Rattle.theory.proofs.Searches.{all_below_decides}
use Rattle.rules.specs.Rules.{Rules, ErrandWithin}
use Rattle.rules.specs.Naming.{errand_of, Names, names?}

-- one test passes only if the other does
implies : (a b : Bool) → Decides (not a || b) (a ≡ true → b ≡ true)
implies true b = (λ h _. h, λ h. h refl)
implies false b = (λ _ e. absurd (both_ways false refl e), λ _. refl)

module _ (r : Rules) (named wanted : LatchSet) where
  pub names_meant : (names? r named wanted ≡ true) ↔ Names r named wanted
  names_meant =
      Decides-like _ (λ p. record { known = p.0; given = λ u b. p.1.1 u (p.1.0 u b) b })
      (λ (h : Names r named wanted). (h.known, ((λ u b. h.known u (h.given u b)), λ u l. h.given u)))
      (Decides-and _ _ (below_word named.word r.latches)
      (Decides-and _ _ (below_word wanted.word r.latches)
      (all_below_decides (λ u. not (has wanted u) || has named u) (λ u. has wanted u ≡ true → has named u ≡ true)
      (λ u. implies (has wanted u) (has named u)) r.latches)))

  pub errand_within : Names r named wanted → ErrandWithin r (errand_of named wanted)
  errand_within h u n = h.known u (true_from_ne_false (has named u) (λ b. n (ap (λ x. pick x) b)))
    where
      pick : Bool → Ask
      pick b = elim b [ true ↦ ask_for (has wanted u) | false ↦ any ]
