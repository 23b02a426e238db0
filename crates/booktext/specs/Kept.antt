-- What is read into the tables of a book. Assumes nothing.
--   NamedUntil n names      the table of names has its places, and those from n on are empty
--   SpeaksOf n m            the move m speaks of the latches below n alone
--   MovedUntil n c moves    the table of moves has its places, the first c speak of the latches below n alone, and the rest are empty
--   Kept names c moves      the names and c moves are those of a book
use Rattle.std.specs.Prelude.{◌≡◌, ℕ, ◌<◌, ◌≤◌, true, List, [], length}
use Rattle.words.specs.Sets.{Below, most_latches}
use Rattle.book.specs.declared.moves.Move.{Move}
use Rattle.book.specs.declared.name.Name.{Name}
use Rattle.book.specs.Limits.{most_moves}
use Rattle.book.specs.Names.{well_named}
use Rattle.std.specs.List.{AllByRecursion}
use Rattle.format.specs.Bytes.{Bytes}
use Rattle.format.specs.Contents.{Distinct}
use Rattle.book.specs.Places.{name_at, move_at, no_move}

-- the table has all its places, and those from n on are empty
pub record NamedUntil (n : ℕ) (names : List Name) : Type 0 where
  pub places : length names ≡ most_latches
  pub blank : (k : ℕ) → n ≤ k → name_at names k ≡ []

-- the move throws a latch below n, and asks only such latches
pub record SpeaksOf (n : ℕ) (m : Move) : Type 0 where
  pub own : m.latch < n
  pub asks : Below n m.when.named

-- the table has all its places, the first c moves speak of the latches below n alone, and the rest are empty
pub record MovedUntil (n c : ℕ) (moves : List Move) : Type 0 where
  pub places : length moves ≡ most_moves
  pub speaks : (k : ℕ) → k < c → SpeaksOf n (move_at moves k)
  pub blank : (k : ℕ) → c ≤ k → move_at moves k ≡ no_move

-- what was read makes a book: the names are well formed and differ, and the moves are of their latches
pub record Kept (names : List Bytes) (c : ℕ) (moves : List Move) : Type 0 where
  pub room : c ≤ most_moves
  pub moves_kept : MovedUntil (length names) c moves
  pub named : AllByRecursion (λ x. well_named x ≡ true) names
  pub distinct : Distinct names
