-- What a line's value is, and what a whole text reads as, from how its lines were read.
use Rattle.std.proofs.Common.{◌≡◌, ℕ, ◌+◌, add-one, ◌<◌, [], ◌∷◌, length, ◌≤◌, ◌⊎◌, Ok, Err, Result, sym, refl, ap, ◌∙◌, inl, inr, arith}
use mathlib.Core.Option.{none, some}
use Rattle.std.proofs.lemmas.Bool.{lt-ltb, le-ltb, cond-true, cond-false}
use Rattle.format.specs.declared.Fault.TheVariants.{Line, Length}
use Rattle.format.specs.declared.TextRefusal.{TextRefusal}
use Rattle.format.specs.Bytes.{Bytes, cut, strip}
use Rattle.format.specs.Reader.{Place, Outcome, got, refused, Reader, stripped, keyed, value}
use Rattle.format.specs.Reading.{accepted, declined, most_bytes, at_end, closed, whole}
use Rattle.format.specs.Said.{reading_of, Told}
use Rattle.booktext.specs.Read.{Ended, WholeRead}

pub value_got : (key : Bytes) (p : Place) (front rest v : Bytes) → cut 10 p.rest ≡ some (front, rest) → strip key front ≡ some v
    → value key p ≡ got v (record { number = p.number + 1; rest = rest })
value_got key p front rest v a b =
    ap (keyed p.number key) a ∙ ap (stripped p.number rest) b ∙ ap (λ (n : ℕ). got v (record { number = n; rest = rest })) (sym (add-one p.number))

pub value_refused : (key : Bytes) (p : Place) (front rest : Bytes) → cut 10 p.rest ≡ some (front, rest) → strip key front ≡ none → value key p ≡ refused Line p.number
value_refused key p front rest a b = ap (keyed p.number key) a ∙ ap (stripped p.number rest) b

-- a text whose lines are read as the format reads them is read as the format has it
module _ {X A : Type 0} (f : X → A) (m : Reader A) where
  last : (s : Result X TextRefusal) (q : Place) (o : Outcome A) (r : Result X TextRefusal) → Told s o (λ x. got (f x) q) → Ended q s r → reading_of f r ≡ closed o
  last (Ok x) q o (Ok y) t h =
      let e : at_end (f x) q.number q.rest ≡ at_end (f x) q.number [] = ap (at_end (f x) q.number) h.1 in
      ap (λ (z : X). accepted (f z)) h.0 ∙ sym e ∙ sym (ap closed t)
  last (Ok x) q o (Err e) t h = ap (λ (z : TextRefusal). declined z.fault z.line) h.1 ∙ sym (behind (f x) q.number q.rest h.0) ∙ sym (ap closed t)
    where
      behind : (a : A) (n : ℕ) (bs : Bytes) → 0 < length bs → at_end a n bs ≡ at_end a n (0 ∷ [])
      behind a n [] l = absurd (omega arith)
      behind a n (b ∷ bs) l = refl
  last (Err e) q o r t h = ap (reading_of f) h ∙ sym (ap closed t)

  whole_told : (Reads : Place → Result X TextRefusal → Place → Type 0) (t : Bytes) (r : Result X TextRefusal)
      → ((p : Place) (s : Result X TextRefusal) (q : Place) → Reads p s q → Told s (m p) (λ x. got (f x) q))
      → ((most_bytes < length t) × (r ≡ Err (record { fault = Length; line = 1 })))
      ⊎ ((length t ≤ most_bytes) × ((s : Result X TextRefusal) × (q : Place) × Reads (record { number = 1; rest = t }) s q × Ended q s r))
      → reading_of f r ≡ whole m t
  whole_told Reads t r told (inl h) = ap (reading_of f) h.1 ∙ sym (cond-true _ _ _ (lt-ltb most_bytes (length t) h.0))
  whole_told Reads t r told (inr h) =
      last h.1.0 h.1.1 (m (record { number = 1; rest = t })) r (told _ h.1.0 h.1.1 h.1.2) h.1.3 ∙ sym (cond-false _ _ _ (le-ltb most_bytes (length t) h.0))

pub told_whole : {X A : Type 0} {Reads : Place → Result X TextRefusal → Place → Type 0} {t : Bytes} {r : Result X TextRefusal} (f : X → A) (m : Reader A)
    → WholeRead Reads t r → ((p : Place) (s : Result X TextRefusal) (q : Place) → Reads p s q → Told s (m p) (λ x. got (f x) q)) → reading_of f r ≡ whole m t
told_whole {Reads = Reads} {t = t} {r = r} f m h told = whole_told f m Reads t r told h.read
