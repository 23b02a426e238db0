-- What reading a value, a line and a whole text answers. Assumes nothing.
--   Means r j f              r is a value that stands for what is judged fine, or the fault
--   EntryRead Reads o n q r  r is what the value o of line n was read as by Reads
--   WholeRead Reads t r      r is what the whole text t was read as by Reads
use Rattle.std.specs.Prelude.{◌≡◌, ℕ, ◌<◌, ◌≤◌, ◌⊎◌, [], length, Ok, Err, Result, MatchResult}
use Rattle.format.specs.declared.Fault.{Fault}
use Rattle.format.specs.declared.Fault.TheVariants.{Line, Length}
use Rattle.format.specs.declared.TextRefusal.{TextRefusal}
use Rattle.format.specs.Bytes.{Bytes}
use Rattle.format.specs.Reader.{Place, Outcome, got, refused, Judged, fine, wrong}
use Rattle.format.specs.Reading.{most_bytes}

-- the answer is what the value is judged to be: f says what a value stands for
abbrev pub Means : {X A : Type 0} → Result X Fault → Judged A → (X → A) → Type 0
Means r j f = MatchResult r (λ x. j ≡ fine (f x)) (λ k. j ≡ wrong k)

-- the value was read, or it was at fault, or there was none
pub record EntryRead {X : Type 0} (Reads : Bytes → Result X Fault → Type 0) (o : Outcome Bytes) (n : ℕ) (q : Place) (r : Result X TextRefusal) : Type 0 where
  pub read : MatchResult r (λ x. (v : Bytes) × (o ≡ got v q) × Reads v (Ok x))
      (λ e. ((v : Bytes) × (p : Place) × (o ≡ got v p) × (e.line ≡ n) × Reads v (Err e.fault)) ⊎ (o ≡ refused e.fault e.line))

-- what was read up to q is the whole of a text
abbrev pub Ended : {X : Type 0} → Place → Result X TextRefusal → Result X TextRefusal → Type 0
Ended q (Ok x) r = MatchResult r (λ y. (y ≡ x) × (q.rest ≡ [])) (λ e. (0 < length q.rest) × (e ≡ record { fault = Line; line = q.number }))
Ended q (Err e) r = r ≡ Err e

-- the text is too long, or it is read from line 1 to its end
pub record WholeRead {X : Type 0} (Reads : Place → Result X TextRefusal → Place → Type 0) (t : Bytes) (r : Result X TextRefusal) : Type 0 where
  pub read : ((most_bytes < length t) × (r ≡ Err (record { fault = Length; line = 1 })))
      ⊎ ((length t ≤ most_bytes) × ((s : Result X TextRefusal) × (q : Place) × Reads (record { number = 1; rest = t }) s q × Ended q s r))
