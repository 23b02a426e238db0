-- Worked errands: small books, and what the rules say of them. Assumes nothing.
--   given asks             what is asked of latch 0, 1, .. in a list, and any position of the latches behind it
--   to latch target asks   a move that asks so
--   judged r s w           there is a way, there is none, or the task lies outside the class
--   Moves r s w ks         there is a way, and the route is the moves numbered ks
--   Length r s w n         there is a way, and the route has n moves
--   book_g, learn          the book and the errand of the first example
--   no_move, both_moves, move_to_one, asks_target   books of one latch
--   y_by_x, circle         books of two latches
--   Worked                 all worked errands
use Rattle.std.specs.Prelude.{◌≡◌, ℕ, zero, suc, Bool, true, false, List, [], ◌∷◌, length}
use Rattle.theory.specs.declared.Judgement.{Judgement}
use Rattle.theory.specs.declared.Judgement.TheVariants.{Way, NoWay, Outside}
use Rattle.theory.specs.Tasks.{Ask, any, at_zero, at_one}
use Rattle.theory.specs.Class.{in_class?}
use Rattle.theory.specs.Route.{no_way?}
use Rattle.theory.specs.Judgement.{judgement}
use Rattle.rules.specs.Rules.{Rule, Rules, Setting, Errand}
use Rattle.rules.specs.NormalForm.{task, route}

-- asks written as a list, latch 0 first
abbrev pub given : List Ask → ℕ → Ask
given [] u = any
given (a ∷ more) zero = a
given (a ∷ more) (suc u) = given more u

-- a move
abbrev pub to : ℕ → Bool → List Ask → Rule
to latch target asks = record { latch = latch; to = target; asks = given asks }

-- what is said of an errand
abbrev pub judged : Rules → Setting → Errand → Judgement
judged r s w = judgement (in_class? (task r s w)) (no_way? (task r s w))

-- the route, move by move
abbrev pub Moves : Rules → Setting → Errand → List ℕ → Type 0
Moves r s w ks = (judged r s w ≡ Way) × (route r s w ≡ ks)

-- the length of the route
abbrev pub Length : Rules → Setting → Errand → ℕ → Type 0
Length r s w n = (judged r s w ≡ Way) × (length (route r s w) ≡ n)

-- latches 0, 1 and 2 are GATE, CACHE and LEARN
abbrev pub book_g : Rules
book_g = record {
  latches = 3;
  moves =
      to 0 true []
      ∷ to 0 false []
      ∷ to 1 true (at_one ∷ [])
      ∷ to 1 false (at_one ∷ [])
      ∷ to 2 true (at_zero ∷ at_one ∷ [])
      ∷ to 2 false (at_zero ∷ at_one ∷ [])
      ∷ [];
}

-- LEARN:1
abbrev pub learn : Errand
learn = given (any ∷ any ∷ at_one ∷ [])

-- one latch with no move
abbrev pub no_move : Rules
no_move = record { latches = 1; moves = [] }

-- one latch with moves to 1 and to 0
abbrev pub both_moves : Rules
both_moves = record { latches = 1; moves = to 0 true [] ∷ to 0 false [] ∷ [] }

-- one latch with a move to 1 only
abbrev pub move_to_one : Rules
move_to_one = record { latches = 1; moves = to 0 true [] ∷ [] }

-- one latch with a move to 1 that asks it at 1
abbrev pub asks_target : Rules
asks_target = record { latches = 1; moves = to 0 true (at_one ∷ []) ∷ [] }

-- X to 1; Y to 1 when X:0; Y to 0 when X:1
abbrev pub y_by_x : Rules
y_by_x = record { latches = 2; moves = to 0 true [] ∷ to 1 true (at_zero ∷ []) ∷ to 1 false (at_one ∷ []) ∷ [] }

-- X to 1 when Y:1; Y to 1 when X:1
abbrev pub circle : Rules
circle = record { latches = 2; moves = to 0 true (any ∷ at_one ∷ []) ∷ to 1 true (at_one ∷ []) ∷ [] }

-- what the rules say of each
pub record Worked : Type 0 where
  pub g_learn : Moves book_g (false ∷ false ∷ false ∷ []) learn (0 ∷ 2 ∷ 1 ∷ 4 ∷ [])
  pub g_all : Moves book_g (false ∷ false ∷ false ∷ []) (given (at_one ∷ at_zero ∷ at_one ∷ [])) (0 ∷ 2 ∷ 1 ∷ 4 ∷ 0 ∷ 3 ∷ 1 ∷ 0 ∷ [])
  pub g_from_one : Moves book_g (true ∷ false ∷ false ∷ []) learn (2 ∷ 1 ∷ 4 ∷ 0 ∷ [])
  pub no_move_one : judged no_move (false ∷ []) (given (at_one ∷ [])) ≡ NoWay
  pub no_move_zero : Length no_move (false ∷ []) (given (at_zero ∷ [])) 0
  pub both_moves_zero : Length both_moves (false ∷ []) (given (at_zero ∷ [])) 2
  pub both_moves_any : Length both_moves (false ∷ []) (given []) 1
  pub move_to_one_zero : Length move_to_one (false ∷ []) (given (at_zero ∷ [])) 0
  pub y_alone : judged y_by_x (false ∷ false ∷ []) (given (any ∷ at_one ∷ [])) ≡ Outside
  pub y_with_x : Length y_by_x (false ∷ false ∷ []) (given (at_zero ∷ at_one ∷ [])) 1
  pub circle_any : judged circle (false ∷ false ∷ []) (given []) ≡ Outside
  pub asks_target_one : judged asks_target (false ∷ []) (given (at_one ∷ [])) ≡ NoWay
