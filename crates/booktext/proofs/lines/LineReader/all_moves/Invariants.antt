use Rattle.std.proofs.Common.{◌≡◌, ℕ, ◌-◌, ◌<◌, [], map, length, take}
use Rattle.book.specs.Places.{move_at}
use Rattle.format.specs.Reading.{rules}
use Rattle.format.specs.Said.{rule_of}
use Rattle.booktext.specs.Kept.{SpeaksOf}
use Rattle.booktext.proofs.lines.LineReader.all_moves.Given as goal

-- what is left, behind the moves so far, gives all
abbrev pub invariant-loop-place : goal.invariant-loop-place
invariant-loop-place l =
    (rules (l.count - l.place-index) l.names (map rule_of (take l.place-index l.place-items)) l.self ≡ rules l.count l.names [] l.initial.self)
    × ((k : ℕ) → k < l.place-index → SpeaksOf (length l.names) (move_at l.place-items k))
