-- Reading line by line: a reader goes from a place in the text to a value and a later place, or refuses at a line. Assumes nothing.
--   Place             the number of the line due, and the text from there on
--   Outcome           a value and the place behind it, or a fault and its line
--   Reader            what goes from a place to an outcome
--   Judged            what the value of a line means, or its fault
--   give a            the reader that reads nothing
--   m >>= f           m and then, with its value, f
--   value key         the value of the next line, which has this key
--   entry key judge   the same, judged
use Rattle.std.specs.Prelude.{ℕ, suc}
use Rattle.std.proofs.Math.Option.{Option, none, some}
use Rattle.format.specs.declared.Fault.{Fault}
use Rattle.format.specs.declared.Fault.TheVariants.{Line}
use Rattle.format.specs.Bytes.{Bytes, cut, strip}

-- the number of the line due, and the text from there on
pub record Place : Type 0 where
  pub number : ℕ
  pub rest : Bytes

-- a value and the place behind it, or a fault and the number of its line
pub data Outcome (A : Type 0) : Type 0 where
  got : A → Place → Outcome A
  refused : Fault → ℕ → Outcome A

-- what goes from a place to an outcome
abbrev pub Reader : Type 0 → Type 0
Reader A = Place → Outcome A

-- what a line's value means, or the fault that it has
pub data Judged (A : Type 0) : Type 0 where
  fine : A → Judged A
  wrong : Fault → Judged A

-- reads nothing
abbrev pub give : {A : Type 0} → A → Reader A
give a p = got a p

-- goes on from an outcome, unless it is a refusal
abbrev pub chain : {A B : Type 0} → Outcome A → (A → Reader B) → Outcome B
chain (got a p) f = f a p
chain (refused k n) f = refused k n

infixl 1 ◌>>=◌
-- one reader and then, with its value, another; the first refusal stands
abbrev pub ◌>>=◌ : {A B : Type 0} → Reader A → (A → Reader B) → Reader B
◌>>=◌ m f p = chain (m p) f

-- the value behind the key, if the line has the key, with what follows the line
abbrev pub stripped : ℕ → Bytes → Option Bytes → Outcome Bytes
stripped n rest none = refused Line n
stripped n rest (some v) = got v (record { number = suc n; rest = rest })

-- the value of a line that was cut off, if one was
abbrev pub keyed : ℕ → Bytes → Option (Bytes × Bytes) → Outcome Bytes
keyed n key none = refused Line n
keyed n key (some c) = stripped n c.1 (strip key c.0)

-- the value of the next line, which has this key
abbrev pub value : Bytes → Reader Bytes
value key p = keyed p.number key (cut 10 p.rest)

-- the value as it was judged; a fault is at the line's number
abbrev pub weigh : {A : Type 0} → ℕ → Judged A → Reader A
weigh n (fine a) q = got a q
weigh n (wrong k) q = refused k n

-- the next line, which has this key, and a value that is judged so
abbrev pub entry : {A : Type 0} → Bytes → (Bytes → Judged A) → Reader A
entry key judge p = chain (value key p) (λ v. weigh p.number (judge v))
