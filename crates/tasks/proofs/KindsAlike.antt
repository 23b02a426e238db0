-- Partial settings that ask the same of all latches but one, and reverses.
use Rattle.std.proofs.Common.{◌≡◌, ℕ, ◌≤◌, Bool, true, false, cond, not, ◌&&◌, ◌||◌, ◌≢◌, eqb, sym, refl, ap, ◌∙◌, inl, inr, arith}
use mathlib.Core.Bool.{beq}
use mathlib.Core.Option.{Option, none, some}
use Rattle.std.proofs.lemmas.Bool.{both_ways, cases_eq, cases_lt, cond-true, cond-false, eq-eqb, eqb-true, ne_eqb, and_from, and_parts, or_cases, or_left, or_right, false_from_ne_true}
use Rattle.words.specs.declared.LatchSet.{LatchSet}
use Rattle.words.specs.Bit.{set?}
use Rattle.words.specs.Sets.{has, Below}
use Rattle.words.proofs.Members.{set_ext}
use Rattle.book.specs.declared.partial.PartialSetting.{PartialSetting}
use Rattle.book.specs.Settings.{asked, asked_without}
use Rattle.theory.specs.Class.{same_ask?, reverse?}
use Rattle.theory.specs.Searches.{all_below}
use Rattle.theory.specs.Tasks.{Task}
use Rattle.theory.proofs.Searches.{all_below_true, all_below_from}
use Rattle.theory.proofs.Sides.{bool_ext}
use Rattle.tasks.specs.declared.task.NormalMove.{NormalMove}
use Rattle.tasks.specs.Asks.{ask_from}
use Rattle.tasks.specs.Tasks.{move_of}

-- partial settings with equal words ask the same
words_ask :
    (p q : PartialSetting) → p.named.word ≡ q.named.word → p.ones.word ≡ q.ones.word → (u : ℕ) → asked p u ≡ asked q u
words_ask p q e f u =
    ap (λ (w : ℕ). cond (set? w u) (some (has p.ones u)) none) e ∙ ap (λ (w : ℕ). cond (has q.named u) (some (set? w u)) none) f

-- whether a latch that is given this position is named, and whether at 1
abbrev named? : Option Bool → Bool
named? none = false
named? (some y) = true

abbrev one? : Option Bool → Bool
one? none = false
one? (some y) = y

-- partial settings that ask the same have equal words
ask_words : (p q : PartialSetting) → ((u : ℕ) → asked p u ≡ asked q u) → (p.named.word ≡ q.named.word) × (p.ones.word ≡ q.ones.word)
ask_words p q h = (
  ap (λ (s : LatchSet). s.word) (set_ext p.named q.named named_alike),
  ap (λ (s : LatchSet). s.word) (set_ext p.ones q.ones ones_alike),
)
  where
    named_at : (x y : Bool) → named? (cond x (some y) none) ≡ x
    named_at true y = refl
    named_at false y = refl

    one_at : (x y : Bool) → (y ≡ true → x ≡ true) → one? (cond x (some y) none) ≡ y
    one_at true y h = refl
    one_at false true h = h refl
    one_at false false h = refl

    named_alike : (u : ℕ) → has p.named u ≡ has q.named u
    named_alike u = sym (named_at (has p.named u) (has p.ones u)) ∙ ap named? (h u) ∙ named_at (has q.named u) (has q.ones u)

    ones_alike : (u : ℕ) → has p.ones u ≡ has q.ones u
    ones_alike u =
        sym (one_at (has p.named u) (has p.ones u) (p.within u)) ∙ ap one? (h u) ∙ one_at (has q.named u) (has q.ones u) (q.within u)

-- the same is asked
same_from : (x y : Option Bool) → x ≡ y → same_ask? (ask_from x) (ask_from y) ≡ true
same_from x y e = sym (ap (λ (z : Option Bool). same_ask? (ask_from x) (ask_from z)) e) ∙ self x
  where
    self : (x : Option Bool) → same_ask? (ask_from x) (ask_from x) ≡ true
    self none = refl
    self (some true) = refl
    self (some false) = refl

same_true : (x y : Option Bool) → same_ask? (ask_from x) (ask_from y) ≡ true → x ≡ y
same_true none none h = refl
same_true none (some true) h = absurd (both_ways false refl h)
same_true none (some false) h = absurd (both_ways false refl h)
same_true (some true) none h = absurd (both_ways false refl h)
same_true (some false) none h = absurd (both_ways false refl h)
same_true (some true) (some true) h = refl
same_true (some true) (some false) h = absurd (both_ways false refl h)
same_true (some false) (some true) h = absurd (both_ways false refl h)
same_true (some false) (some false) h = refl

-- nothing is asked of a latch behind the last
none_behind : (p : PartialSetting) (w u : ℕ) → Below w p.named → w ≤ u → asked p u ≡ none
none_behind p w u b l = cond-false (has p.named u) (some (has p.ones u)) none (false_from_ne_true (has p.named u) (λ h. omega (arith, b u h)))

-- a move of the same latch to the other position is a reverse when it asks the same once nothing is asked of the latch
pub reverse_when :
    (t : Task) (m o : NormalMove) (p q : PartialSetting) → Below t.width m.asks.named → Below t.width o.asks.named → o.latch ≡ m.latch →
    beq o.to m.to ≡ false → ((u : ℕ) → asked p u ≡ asked_without o.asks m.latch u) → ((u : ℕ) → asked q u ≡ asked_without m.asks m.latch u) →
    (eqb p.named.word q.named.word && eqb p.ones.word q.ones.word) ≡ reverse? t m.latch (move_of m) (move_of o)
reverse_when t m o p q a b e d without_o without_m =
    bool_ext _ _ every same
    ∙ sym (both (eqb o.latch m.latch) (beq o.to (not m.to)) (all_below test t.width) (eq-eqb o.latch m.latch e) (turned o.to m.to d))
  where
    both : (x y z : Bool) → x ≡ true → y ≡ true → (x && y && z) ≡ z
    both x y z p q = grind (arith, p, q)

    turned : (x y : Bool) → beq x y ≡ false → beq x (not y) ≡ true
    turned true true h = absurd (both_ways true h refl)
    turned true false h = refl
    turned false true h = refl
    turned false false h = absurd (both_ways true h refl)

    test : ℕ → Bool
    test u = eqb u m.latch || same_ask? (ask_from (asked o.asks u)) (ask_from (asked m.asks u))

    other : (u : ℕ) → u ≢ m.latch → (asked p u ≡ asked o.asks u) × (asked q u ≡ asked m.asks u)
    other u ne =
        let f = ne_eqb u m.latch ne in
        (without_o u ∙ cond-false _ none (asked o.asks u) f, without_m u ∙ cond-false _ none (asked m.asks u) f)

    every : (eqb p.named.word q.named.word && eqb p.ones.word q.ones.word) ≡ true → all_below test t.width ≡ true
    every h = all_below_from test t.width (λ u l. passes u)
      where
        passes : (u : ℕ) → test u ≡ true
        passes u =
            elim (cases_eq u m.latch) [
              | inl own ↦ or_left (eqb u m.latch) _ (eq-eqb u m.latch own)
              | inr ne ↦
                  let words = and_parts _ _ h in
                  let alike = words_ask p q (eqb-true _ _ words.0) (eqb-true _ _ words.1) u in
                  or_right (eqb u m.latch) _ (same_from (asked o.asks u) (asked m.asks u) (sym (other u ne).0 ∙ alike ∙ (other u ne).1))
            ]

    same : all_below test t.width ≡ true → (eqb p.named.word q.named.word && eqb p.ones.word q.ones.word) ≡ true
    same h =
        let words = ask_words p q alike in
        and_from (eqb p.named.word q.named.word) _ (eq-eqb _ _ words.0) (eq-eqb _ _ words.1)
      where
        alike_below : (u : ℕ) → u ≢ m.latch → test u ≡ true → asked o.asks u ≡ asked m.asks u
        alike_below u ne k =
            elim (or_cases (eqb u m.latch) _ k) [
              | inl own ↦ absurd (ne (eqb-true u m.latch own))
              | inr s ↦ same_true (asked o.asks u) (asked m.asks u) s
            ]

        alike : (u : ℕ) → asked p u ≡ asked q u
        alike u =
            elim (cases_eq u m.latch) [
              | inl own ↦
                  let f = eq-eqb u m.latch own in
                  without_o u ∙ cond-true _ none (asked o.asks u) f ∙ sym (without_m u ∙ cond-true _ none (asked m.asks u) f)
              | inr ne ↦
                  elim (cases_lt u t.width) [
                    | inl l ↦ (other u ne).0 ∙ alike_below u ne (all_below_true test t.width u h l) ∙ sym (other u ne).1
                    | inr g ↦ (other u ne).0 ∙ none_behind o.asks t.width u b g ∙ sym ((other u ne).1 ∙ none_behind m.asks t.width u a g)
                  ]
            ]
