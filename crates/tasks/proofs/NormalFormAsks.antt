-- Conditions brought to normal form latch by latch.
use Rattle.std.proofs.Common.{◌≡◌, ℕ, Bool, true, false, cond, ◌&&◌, sym, refl, ap, ◌∙◌, arith}
use mathlib.Core.Option.{none, some}
use Rattle.std.proofs.lemmas.Bool.{and_parts}
use Rattle.words.specs.declared.LatchSet.{LatchSet}
use Rattle.words.specs.Sets.{has}
use Rattle.book.specs.declared.partial.PartialSetting.{PartialSetting}
use Rattle.theory.specs.Tasks.{ask_for}
use Rattle.rules.specs.NormalForm.{exchanged, exchanged_ask}
use Rattle.tasks.specs.Asks.{ask_from, asks_of}

-- the latch is asked to be at 1 in normal form
abbrev pub normal_one : PartialSetting → LatchSet → ℕ → Bool
normal_one p start u = has p.named u && exchanged (has p.ones u) (has start u)

-- the ask, in normal form, for a position of a latch that is named or not
asked_normal :
    (named y start z : Bool) → (named ≡ true → z ≡ exchanged y start) →
    ask_from (cond named (some z) none) ≡ exchanged_ask (ask_from (cond named (some y) none)) start
asked_normal false y start z h = refl
asked_normal true y start z h = ap ask_for (h refl) ∙ exchanged_for y start
  where
    exchanged_for : (y start : Bool) → ask_for (exchanged y start) ≡ exchanged_ask (ask_for y) start
    exchanged_for true start = refl
    exchanged_for false start = refl

-- where the latches at 1 are those, they are named
pub ones_named :
    (p : PartialSetting) (start ones : LatchSet) → ((u : ℕ) → has ones u ≡ normal_one p start u) → (u : ℕ) → has ones u ≡ true → has p.named u ≡ true
ones_named p start ones one u h = (and_parts (has p.named u) _ (sym (one u) ∙ h)).0

-- and each condition is in normal form
pub asks_normal :
    (p : PartialSetting) (start ones : LatchSet) → ((u : ℕ) → has ones u ≡ normal_one p start u) → (u : ℕ) →
    ask_from (cond (has p.named u) (some (has ones u)) none) ≡ exchanged_ask (asks_of p u) (has start u)
asks_normal p start ones one u = asked_normal (has p.named u) (has p.ones u) (has start u) (has ones u) at_one
  where
    at_one : has p.named u ≡ true → has ones u ≡ exchanged (has p.ones u) (has start u)
    at_one h = grind (arith, one u, h)
