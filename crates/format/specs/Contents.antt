-- What a book and an errand say, free of how they are kept. Assumes nothing.
--   Item              a latch and the position that is asked of it
--   Rule              a move: the latch thrown, to where, and what is asked
--   Contents          the names of a book's latches and its moves, in their order
--   ErrandContents    the contents of a book, the start and what is wanted
--   Distinct xs       no two of the names xs are the same
--   Rising low n xs   the items xs name latches from low up to below n, in rising order
--   Own n r           the move r speaks of the latches below n alone
--   Well p            p can be the contents of a book with a latch
--   WellErrand e      e can be the contents of an errand of such a book
use Rattle.std.specs.Prelude.{◌≡◌, ℕ, suc, ◌<◌, ◌≤◌, Bool, true, List, [], ◌∷◌, length, ◌≢◌}
use Rattle.std.specs.List.{AllByRecursion}
use Rattle.words.specs.Sets.{most_latches}
use Rattle.book.specs.Limits.{most_moves}
use Rattle.book.specs.Names.{well_named}
use Rattle.format.specs.Bytes.{Bytes}

-- a latch, and the position that is asked of it
pub record Item : Type 0 where
  pub latch : ℕ
  pub at : Bool

-- a move: the latch thrown, to where, and what is asked
pub record Rule : Type 0 where
  pub latch : ℕ
  pub to : Bool
  pub when : List Item

-- the names of the latches, latch 0 first, and the moves
pub record Contents : Type 0 where
  pub names : List Bytes
  pub rules : List Rule

-- the contents of a book, the position of each latch at the start, and what is wanted
pub record ErrandContents : Type 0 where
  pub contents : Contents
  pub start : List Bool
  pub want : List Item

-- no two of them are the same
abbrev pub Distinct : List Bytes → Type 0
Distinct [] = Unit {0}
Distinct (x ∷ xs) = AllByRecursion (λ y. y ≢ x) xs × Distinct xs

-- the items name latches from low up to below n, in rising order
abbrev pub Rising : ℕ → ℕ → List Item → Type 0
Rising low n [] = Unit {0}
Rising low n (x ∷ xs) = (low ≤ x.latch) × ((x.latch < n) × Rising (suc x.latch) n xs)

-- the move speaks of the latches below n alone
abbrev pub Own : ℕ → Rule → Type 0
Own n r = (r.latch < n) × Rising 0 n r.when

-- what the contents of a book with a latch are
pub record Well (p : Contents) : Type 0 where
  pub some_latch : 1 ≤ length p.names
  pub few : length p.names ≤ most_latches
  pub named : AllByRecursion (λ x. well_named x ≡ true) p.names
  pub distinct : Distinct p.names
  pub room : length p.rules ≤ most_moves
  pub own : AllByRecursion (Own (length p.names)) p.rules

-- what the contents of an errand are: a position for each latch, and what is wanted of some
pub record WellErrand (e : ErrandContents) : Type 0 where
  pub book : Well e.contents
  pub start : length e.start ≡ length e.contents.names
  pub want : Rising 0 (length e.contents.names) e.want
