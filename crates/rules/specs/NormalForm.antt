-- Normal form: the task that a book, a start and an errand make. Assumes nothing.
--   exchanged p start          the position p of a latch that starts at start, in normal form
--   exchanged_ask a start      what is asked of such a latch, in normal form
--   normal_asks s m u          what the move m asks of the latch u in normal form
--   normal_move s k m          the move m, numbered k, in normal form
--   dropped? m                 m asks its own latch at its target
--   normal_moves s k ms        the moves ms, numbered from k, in normal form, without those that are dropped
--   task r s w                 the book r, the start s and the errand w in normal form
--   exchange s e               the setting e in normal form, from the start s
--   number_of m                the number of a move
--   route r s w                the route, as numbers of the book's moves
use Rattle.std.specs.Prelude.{ℕ, suc, Bool, true, false, not, List, [], ◌∷◌, map, ◌==◌}
use Rattle.theory.specs.Tasks as tasks
use Rattle.theory.specs.Tasks.{Ask, any, at_zero, at_one, Move, Task, asks?, ask_for, ask_against}
use Rattle.theory.specs.Route as routes
use Rattle.rules.specs.Rules.{Rule, Rules, Errand, Setting, at}

-- the positions of a latch that starts at 1 are exchanged
abbrev pub exchanged : Bool → Bool → Bool
exchanged p false = p
exchanged p true = not p

-- one condition in normal form
abbrev pub exchanged_ask : Ask → Bool → Ask
exchanged_ask any start = any
exchanged_ask at_zero start = ask_for (exchanged false start)
exchanged_ask at_one start = ask_for (exchanged true start)

-- the move's own latch at the opposite of its target, every other latch as asked
abbrev pub normal_asks : Setting → Rule → ℕ → Ask
normal_asks s m u =
    elim (u == m.latch) [ true ↦ ask_against (exchanged m.to (at s u)) | false ↦ exchanged_ask (m.asks u) (at s u) ]

-- one move in normal form
abbrev pub normal_move : Setting → ℕ → Rule → Move
normal_move s k m = record { number = k; latch = m.latch; to = exchanged m.to (at s m.latch); asks = normal_asks s m }

-- such a move is never legal
abbrev pub dropped? : Rule → Bool
dropped? m = asks? m.to (m.asks m.latch)

-- a move keeps the number that it has in the book
abbrev pub normal_moves : Setting → ℕ → List Rule → List Move
normal_moves s k [] = []
normal_moves s k (m ∷ ms) =
    elim (dropped? m) [ true ↦ normal_moves s (suc k) ms | false ↦ normal_move s k m ∷ normal_moves s (suc k) ms ]

-- the task
abbrev pub task : Rules → Setting → Errand → Task
task r s w = record { width = r.latches; moves = normal_moves s 0 r.moves; want = λ u. exchanged_ask (w u) (at s u) }

-- a setting of the book as a setting of the task
abbrev pub exchange : Setting → Setting → tasks.Setting
exchange s e u = exchanged (at e u) (at s u)

-- the number of a move
abbrev pub number_of : Move → ℕ
number_of m = m.number

-- the route of the rules
abbrev pub route : Rules → Setting → Errand → List ℕ
route r s w = map number_of (routes.route (task r s w))
