-- What a panel shows of its setting: the setting itself where it fits, and whether a move is legal there.
use Rattle.std.proofs.Common.{◌≡◌, ℕ, Bool, true, false, cond, ◌&&◌, length, get_or, Decides, sym, refl, ap, ◌∙◌, inl, inr, arith}
use mathlib.Core.Bool.{beq}
use mathlib.Core.Option.{none, some}
use Rattle.std.proofs.lemmas.List.{ext_get_or}
use Rattle.std.proofs.lemmas.Bool.{both_ways, cases_Bool}
use Rattle.words.specs.declared.LatchSet.{LatchSet}
use Rattle.words.specs.Bit.{set?}
use Rattle.words.specs.Sets.{has, has_both, Below}
use Rattle.words.proofs.Members.{set_ext}
use Rattle.book.specs.declared.partial.PartialSetting.{PartialSetting}
use Rattle.theory.specs.Searches.{all_below}
use Rattle.theory.proofs.Searches.{all_below_true, all_below_from}
use Rattle.theory.proofs.Sides.{bool_ext}
use Rattle.rules.specs.Rules.{Setting}
use Rattle.runs.specs.Deciding.{met?}
use Rattle.tasks.specs.Asks.{ask_from, asks_of, setting_of}
use Rattle.tasks.proofs.Bridge.{setting_length, setting_at}
use Rattle.sequencer.specs.declared.machine.shown.Shown.{Shown}
use Rattle.sequencer.specs.Machines.{Shows}

-- a panel of n latches shows its whole setting
pub shown_whole : (n : ℕ) (shown : Shown) (s : Setting) → Shows shown s → length s ≡ n → setting_of n shown.raised ≡ s
shown_whole n shown s h e =
    ext_get_or false (setting_of n shown.raised) s (setting_length n shown.raised ∙ sym e)
    (λ i l. setting_at n shown.raised i (omega (arith, setting_length n shown.raised)) ∙ h.raised i)

-- a latch stands as it is asked to, by whether it is named and at 1
met_is : (p : PartialSetting) (u : ℕ) (b : Bool) →
    met? (asks_of p u) b ≡ cond (has p.named u) (beq b (has p.ones u)) true
met_is p u b = go (has p.named u) (has p.ones u) b
  where
    go : (n o x : Bool) → met? (ask_from (cond n (some o) none)) x ≡ cond n (beq x o) true
    go true true true = refl
    go true true false = refl
    go true false true = refl
    go true false false = refl
    go false o x = refl

-- the latches that are named and at 1 are those asked to be at 1 just when all stand as asked
pub holds_met :
    (p : PartialSetting) (raised ones : LatchSet) → ((j : ℕ) → has ones j ≡ has_both p.named raised j) → (b : Bool) → Decides b (ones.word ≡ p.ones.word) →
    (n : ℕ) (s : Setting) → ((j : ℕ) → has raised j ≡ get_or s j false) → Below n p.named →
    b ≡ all_below (λ u. met? (asks_of p u) (get_or s u false)) n
holds_met p raised ones highs b d n s up below = bool_ext b _ all each
  where
    test : ℕ → Bool
    test u = met? (asks_of p u) (get_or s u false)

    -- named and at 1
    high : (j : ℕ) → has ones j ≡ (has p.named j && get_or s j false)
    high j = highs j ∙ ap (λ (x : Bool). has p.named j && x) (up j)

    from_equal : (m o x : Bool) → (o ≡ true → m ≡ true) → (m && x) ≡ o → cond m (beq x o) true ≡ true
    from_equal true true true w e = refl
    from_equal true true false w e = absurd (both_ways false refl e)
    from_equal true false true w e = absurd (both_ways false refl (sym e))
    from_equal true false false w e = refl
    from_equal false o x w e = refl

    to_equal : (m o x : Bool) → (o ≡ true → m ≡ true) → cond m (beq x o) true ≡ true → (m && x) ≡ o
    to_equal true true true w e = refl
    to_equal true true false w e = absurd (both_ways false refl e)
    to_equal true false true w e = absurd (both_ways false refl e)
    to_equal true false false w e = refl
    to_equal false true x w e = absurd (both_ways false refl (w refl))
    to_equal false false x w e = refl

    all : b ≡ true → all_below test n ≡ true
    all e =
        all_below_from test n (λ u l.
        met_is p u (get_or s u false)
        ∙ from_equal (has p.named u) (has p.ones u) (get_or s u false) (p.within u) (sym (high u) ∙ ap (λ (w : ℕ). set? w u) (d.0 e)))

    each : all_below test n ≡ true → b ≡ true
    each h = d.1 (ap (λ (x : LatchSet). x.word) (set_ext ones p.ones (λ j. high j ∙ at_latch j)))
      where
        none_at : (o : Bool) → (o ≡ true → ⊥) → o ≡ false
        none_at true f = absurd (f refl)
        none_at false f = refl

        at_latch : (j : ℕ) → (has p.named j && get_or s j false) ≡ has p.ones j
        at_latch j =
            elim (cases_Bool (has p.named j)) [
              | inl e ↦
                  to_equal (has p.named j) (has p.ones j) (get_or s j false) (p.within j)
                  (sym (met_is p j (get_or s j false)) ∙ all_below_true test n j h (below j e))
              | inr e ↦
                  ap (λ (x : Bool). x && get_or s j false) e ∙ sym (none_at (has p.ones j) (λ o. both_ways (has p.named j) e (p.within j o)))
            ]
