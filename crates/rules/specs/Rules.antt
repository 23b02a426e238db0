-- Books, settings and errands as they stand: legal moves, and where lists of them lead. Assumes nothing.
--   Rule               a move as the book has it: the latch thrown, its target, and an ask of each latch
--   Rules              what a book says: how many latches there are, and the moves, numbered from 0
--   Errand             what is wanted of each latch
--   Setting            the position of each latch, latch 0 first
--   at s u             the position of the latch u in s; 0 past the end
--   Legal s m          all that m asks holds in s, and its latch is not yet at its target
--   thrown s m         what m leaves
--   Throws r k s e     the move numbered k is in the book, is legal on s, and leaves e
--   Leads r ks s e     the moves numbered ks, each legal on what those before it leave, lead from s to e
--   MetBy w s          each latch stands in s as w wants
--   Way r s w          some list of legal moves leads from s to a setting that meets w
--   RulesWithin r      the moves throw, and ask of, the book's own latches only
--   ErrandWithin r w   the errand speaks of the book's own latches only
use Rattle.std.specs.Prelude.{◌≡◌, ℕ, ◌<◌, Bool, false, ◌≢◌, List, [], ◌∷◌, slice_index_or, slice_set}
use Rattle.std.proofs.Math.Option.{some}
use Rattle.std.proofs.Math.ListN.{get_elem?}
use Rattle.theory.specs.Searches.{In}
use Rattle.theory.specs.Tasks.{Ask, any, Met}

-- a move as it stands
pub record Rule : Type 0 where
  pub latch : ℕ
  pub to : Bool
  pub asks : ℕ → Ask

-- a book as it stands
pub record Rules : Type 0 where
  pub latches : ℕ
  pub moves : List Rule

-- a latch that the errand does not name may stand anywhere
abbrev pub Errand : Type 0
Errand = ℕ → Ask

-- the position of each latch
abbrev pub Setting : Type 0
Setting = List Bool

-- the position of one latch
abbrev pub at : Setting → ℕ → Bool
at s u = slice_index_or s u false

-- the move can be made
abbrev pub Legal : Setting → Rule → Type 0
Legal s m = (at s m.latch ≢ m.to) × ((u : ℕ) → Met (m.asks u) (at s u))

-- the setting after the move
abbrev pub thrown : Setting → Rule → Setting
thrown s m = slice_set s m.latch m.to

-- one legal move
abbrev pub Throws : Rules → ℕ → Setting → Setting → Type 0
Throws r k s e = (m : Rule) × ((get_elem? r.moves k ≡ some m) × (Legal s m × (e ≡ thrown s m)))

-- a list of legal moves; the empty list leads from a setting to itself
abbrev pub Leads : Rules → List ℕ → Setting → Setting → Type 0
Leads r [] s e = s ≡ e
Leads r (k ∷ ks) s e = (t : Setting) × (Throws r k s t × Leads r ks t e)

-- the errand is done
abbrev pub MetBy : Errand → Setting → Type 0
MetBy w s = (u : ℕ) → Met (w u) (at s u)

-- the errand can be done
abbrev pub Way : Rules → Setting → Errand → Type 0
Way r s w = (ks : List ℕ) × ((e : Setting) × (Leads r ks s e × MetBy w e))

-- what is true of every book that exists
pub record RulesWithin (r : Rules) : Type 0 where
  pub throws_within : (m : Rule) → In r.moves m → m.latch < r.latches
  pub asks_within : (m : Rule) → In r.moves m → (u : ℕ) → m.asks u ≢ any → u < r.latches

-- the errand names latches of the book
abbrev pub ErrandWithin : Rules → Errand → Type 0
ErrandWithin r w = (u : ℕ) → w u ≢ any → u < r.latches
