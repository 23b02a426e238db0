-- The answers to aims and nudges while no run is under way, by tests that compute. Assumes nothing.
--   fits? r s        the panel has as many latches as the book
--   met? a b         a latch at b is as a asks
--   legal? r s m     the move m is legal on s
--   legal_at? r s o  the move o is there, and is legal on s
--   aimed            the answer to an aim: whether the panel fits, the sets name aright, the task is in the class, no way is said; and the route's length
--   nudged           the answer to a nudge: whether the panel fits, the book has such a move, and the move is legal
use Rattle.std.specs.Prelude.{ℕ, Bool, true, false, not, ◌&&◌, length, ◌==◌}
use Rattle.std.specs.Bool.{beq}
use Rattle.std.proofs.Math.Option.{Option, none, some}
use Rattle.theory.specs.Searches.{all_below}
use Rattle.theory.specs.Tasks.{Ask, any, at_zero, at_one}
use Rattle.rules.specs.declared.refusal.Refusal.TheVariants.{Misfit, Misnamed, Outside, NoWay, NoSuchMove, Illegal}
use Rattle.rules.specs.Rules.{Rule, Rules, Setting, at}
use Rattle.runs.specs.declared.Answer.{Answer}
use Rattle.runs.specs.declared.Answer.TheVariants.{Found, Done, Declined}

-- the panel fits the book
abbrev pub fits? : Rules → Setting → Bool
fits? r s = length s == r.latches

-- a latch at this position is as asked
abbrev pub met? : Ask → Bool → Bool
met? any b = true
met? at_zero b = not b
met? at_one b = b

-- the move's latch is not at its target, and all that it asks holds
abbrev pub legal? : Rules → Setting → Rule → Bool
legal? r s m = not (beq (at s m.latch) m.to) && all_below (λ u. met? (m.asks u) (at s u)) r.latches

-- there is a move, and it is legal
abbrev pub legal_at? : Rules → Setting → Option Rule → Bool
legal_at? r s none = false
legal_at? r s (some m) = legal? r s m

-- the first test that fails is answered
abbrev pub aimed : Bool → Bool → Bool → Bool → ℕ → Answer
aimed false names class none_way n = Declined Misfit
aimed true false class none_way n = Declined Misnamed
aimed true true false none_way n = Declined Outside
aimed true true true true n = Declined NoWay
aimed true true true false n = Found n

-- the first test that fails is answered
abbrev pub nudged : Bool → Bool → Bool → Answer
nudged false there legal = Declined Misfit
nudged true false legal = Declined NoSuchMove
nudged true true false = Declined Illegal
nudged true true true = Done
