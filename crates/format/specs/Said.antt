-- What a book and an errand say, as they are kept. Assumes nothing.
--   items_of p                      the items that the partial setting p stands for
--   UnaskedFrom n p                 p asks nothing of the latches from n on
--   positions_of n s                the positions of n latches, those in s at 1
--   rule_of m                       what the move m says
--   contents n names m moves        what n names and m moves say
--   contents_of b                   what the book b says
--   errand_contents_of e            what the errand e says
--   reading_of f r                  the answer r as a reading, where f says what a value stands for
--   Told r o f                      r is a value that stands for the outcome o, or the refusal that o is
use Rattle.std.specs.Prelude.{◌≡◌, ℕ, zero, suc, ◌≤◌, Bool, List, [], ◌∷◌, ◌++◌, map, take, Ok, Err, Result, MatchResult}
use Rattle.std.proofs.Math.Option.{Option, none, some}
use Rattle.words.specs.declared.LatchSet.{LatchSet}
use Rattle.words.specs.Sets.{has, most_latches}
use Rattle.book.specs.declared.book.Book.{Book}
use Rattle.book.specs.declared.errand.Errand.{Errand}
use Rattle.book.specs.declared.moves.Move.{Move}
use Rattle.book.specs.declared.name.Name.{Name}
use Rattle.book.specs.declared.partial.PartialSetting.{PartialSetting}
use Rattle.book.specs.Settings.{asked}
use Rattle.book.specs.Places.{name_of}
use Rattle.format.specs.declared.TextRefusal.{TextRefusal}
use Rattle.format.specs.Contents.{Item, Rule, Contents, ErrandContents}
use Rattle.format.specs.Reader.{Outcome, refused}
use Rattle.format.specs.Reading.{Reading, accepted, declined}

-- the item of a latch, if a position is asked of it
abbrev pub item_at : ℕ → Option Bool → List Item
item_at i none = []
item_at i (some b) = record { latch = i; at = b } ∷ []

-- the items of the latches below n, in rising order
unfoldable pub items_below : ℕ → PartialSetting → List Item
items_below zero p = []
items_below (suc n) p = items_below n p ++ item_at n (asked p n)

-- what a partial setting says, as items
abbrev pub items_of : PartialSetting → List Item
items_of p = items_below most_latches p

-- nothing is asked of the latches from n on
abbrev pub UnaskedFrom : ℕ → PartialSetting → Type 0
UnaskedFrom n p = (j : ℕ) → n ≤ j → asked p j ≡ none

-- the positions of the latches below n
unfoldable pub positions_of : ℕ → LatchSet → List Bool
positions_of zero s = []
positions_of (suc n) s = positions_of n s ++ (has s n ∷ [])

-- what a move says
abbrev pub rule_of : Move → Rule
rule_of m = record { latch = m.latch; to = m.to; when = items_of m.when }

-- what the first n names and the first m moves say
abbrev pub contents : ℕ → List Name → ℕ → List Move → Contents
contents n names m moves = record { names = map name_of (take n names); rules = map rule_of (take m moves) }

-- what a book says
abbrev pub contents_of : Book → Contents
contents_of b = contents b.latches b.names b.count b.moves

-- what an errand says
abbrev pub errand_contents_of : Errand → ErrandContents
errand_contents_of e = record { contents = contents_of e.book; start = positions_of e.book.latches e.start; want = items_of e.want }

-- an answer as a reading
abbrev pub reading_of : {X A : Type 0} → (X → A) → Result X TextRefusal → Reading A
reading_of f (Ok x) = accepted (f x)
reading_of f (Err e) = declined e.fault e.line

-- the answer is what the outcome is: f says which outcome a value stands for
abbrev pub Told : {X A : Type 0} → Result X TextRefusal → Outcome A → (X → Outcome A) → Type 0
Told r o f = MatchResult r (λ x. o ≡ f x) (λ e. o ≡ refused e.fault e.line)
