-- Tasks in normal form: every latch starts at 0, and a move asks its own latch at the opposite of its target. Assumes nothing.
--   Bool, ℕ           a position, false for 0 and true for 1; a latch
--   Ask               what a move or an errand asks of a latch: any position, 0 or 1
--   Met a b           a latch at b is as a asks
--   asked? a          some position is asked
--   asks? x a         the position x is asked
--   ask_for x         the ask for x
--   ask_against x     the ask for the position opposite to x
--   Move              a number, the latch thrown, its target, and an ask of each latch
--   Task              how many latches there are, the moves, and what is wanted of each latch
--   WellFormed t      moves and want speak of the task's latches only, and a move asks its own latch at the opposite of its target
--   Setting           how each latch stands
--   all_zero          the start
--   put s v x         s with the latch v at x
--   thrown s m        what the move m leaves
--   Legal s m         all that m asks holds in s
--   Run t ms s e      the moves ms of t, each legal on what those before it leave, lead from s to e
--   Meets w s         each latch stands in s as w asks
--   Way t             some run leads from the start to a setting that meets the want
use Rattle.std.specs.Prelude.{◌≡◌, ℕ, ◌<◌, Bool, true, false, cond, ◌≢◌, List, [], ◌∷◌, ◌==◌}
use Rattle.theory.specs.Searches.{In}

-- what is asked of a latch
pub data Ask : Type 0 where
  any at_zero at_one : Ask

-- a latch at this position is as asked
abbrev pub Met : Ask → Bool → Type 0
Met any b = Unit {0}
Met at_zero b = b ≡ false
Met at_one b = b ≡ true

-- some position is asked
abbrev pub asked? : Ask → Bool
asked? any = false
asked? at_zero = true
asked? at_one = true

-- the position x is asked
abbrev pub asks? : Bool → Ask → Bool
asks? x any = false
asks? true at_zero = false
asks? false at_zero = true
asks? true at_one = true
asks? false at_one = false

-- the ask for a position
abbrev pub ask_for : Bool → Ask
ask_for true = at_one
ask_for false = at_zero

-- the ask for the opposite position
abbrev pub ask_against : Bool → Ask
ask_against true = at_zero
ask_against false = at_one

-- a move throws its latch to its target, and asks something of each latch
pub record Move : Type 0 where
  pub number : ℕ
  pub latch : ℕ
  pub to : Bool
  pub asks : ℕ → Ask

-- the latches are 0 to width - 1; the moves stand by rising number
pub record Task : Type 0 where
  pub width : ℕ
  pub moves : List Move
  pub want : ℕ → Ask

-- what every task made from a book is
pub record WellFormed (t : Task) : Type 0 where
  pub latch_within : (m : Move) → In t.moves m → m.latch < t.width
  pub asks_within : (m : Move) → In t.moves m → (u : ℕ) → m.asks u ≢ any → u < t.width
  pub asks_own : (m : Move) → In t.moves m → m.asks m.latch ≡ ask_against m.to
  pub want_within : (u : ℕ) → t.want u ≢ any → u < t.width

-- the position of each latch
abbrev pub Setting : Type 0
Setting = ℕ → Bool

-- the start
abbrev pub all_zero : Setting
all_zero u = false

-- the setting with the latch v at x
abbrev pub put : Setting → ℕ → Bool → Setting
put s v x u = cond (v == u) x (s u)

-- the setting after a move
abbrev pub thrown : Setting → Move → Setting
thrown s m = put s m.latch m.to

-- all that the move asks holds; with that its latch is not yet at its target
abbrev pub Legal : Setting → Move → Type 0
Legal s m = (u : ℕ) → Met (m.asks u) (s u)

-- moves of the task, made one after another, lead from the first setting to the second
abbrev pub Run : Task → List Move → Setting → Setting → Type 0
Run t [] s e = s ≡ e
Run t (m ∷ ms) s e = In t.moves m × Legal s m × Run t ms (thrown s m) e

-- each latch stands as wanted
abbrev pub Meets : (ℕ → Ask) → Setting → Type 0
Meets want s = (u : ℕ) → Met (want u) (s u)

-- the errand can be done
abbrev pub Way : Task → Type 0
Way t = (ms : List Move) × ((e : Setting) × (Run t ms all_zero e × Meets t.want e))
