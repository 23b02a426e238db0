-- Reading the text of a book and of an errand: what it says, or the fault and the line of the first thing wrong. Assumes nothing.
--   latches n names      n lines of latches, behind the names read so far
--   rule names           the three lines of a move
--   rules m names done   m moves, behind those read so far
--   book, errand         the lines of a book, and of an errand
--   Reading              what reading a whole text comes to
--   most_bytes           the most bytes of a text
--   whole m t            the whole text t, read by m
--   read_book t          what t says as the text of a book, or why it is refused
--   read_errand t        the same as the text of an errand
--   fault_number k       the number of the fault k
use Rattle.std.specs.Prelude.{ℕ, zero, suc, cond, List, [], ◌∷◌, ◌++◌, length, codes, nat_lt}
use Rattle.format.specs.declared.Fault.{Fault}
use Rattle.format.specs.declared.Fault.TheVariants.{Line, Value, Name, Latch, Item as BadItem, Length}
use Rattle.words.specs.Sets.{most_latches}
use Rattle.book.specs.Limits.{most_moves}
use Rattle.format.specs.Bytes.{Bytes}
use Rattle.format.specs.Contents.{Rule, Contents, ErrandContents}
use Rattle.format.specs.Reader.{Outcome, got, refused, Reader, give, ◌>>=◌, entry}
use Rattle.format.specs.Values.{only, number, position, new_name, latch, item_list, positions}

-- n lines of latches, behind the names read so far
abbrev pub latches : ℕ → List Bytes → Reader (List Bytes)
latches zero names = give names
latches (suc n) names = do
  x ← entry (codes "latch=") (new_name names)
  latches n (names ++ (x ∷ []))

-- the three lines of a move
abbrev pub rule : List Bytes → Reader Rule
rule names = do
  u ← entry (codes "move=") (latch names)
  b ← entry (codes "to=") position
  w ← entry (codes "when=") (item_list names)
  give (record { latch = u; to = b; when = w })

-- m moves, behind those read so far
abbrev pub rules : ℕ → List Bytes → List Rule → Reader (List Rule)
rules zero names done = give done
rules (suc m) names done = do
  r ← rule names
  rules m names (done ++ (r ∷ []))

-- the lines of a book
abbrev pub book : Reader Contents
book = do
  _ ← entry (codes "book=") (only (codes "1"))
  n ← entry (codes "latches=") (number 1 most_latches)
  names ← latches n []
  m ← entry (codes "moves=") (number 0 most_moves)
  moves ← rules m names []
  give (record { names = names; rules = moves })

-- the lines of an errand: those of its book and two more
abbrev pub errand : Reader ErrandContents
errand = do
  p ← book
  s ← entry (codes "start=") (positions (length p.names) [])
  w ← entry (codes "want=") (item_list p.names)
  give (record { contents = p; start = s; want = w })

-- what reading a whole text comes to
pub data Reading (A : Type 0) : Type 0 where
  accepted : A → Reading A
  declined : Fault → ℕ → Reading A

-- no byte is left
abbrev pub at_end : {A : Type 0} → A → ℕ → Bytes → Reading A
at_end a n [] = accepted a
at_end a n (b ∷ bs) = declined Line n

-- the outcome of a reader at the end of the text
abbrev pub closed : {A : Type 0} → Outcome A → Reading A
closed (got a p) = at_end a p.number p.rest
closed (refused k n) = declined k n

-- the most bytes of a text
abbrev pub most_bytes : ℕ
most_bytes = 65536

-- a text that is not too long, read from line 1 to its end
abbrev pub whole : {A : Type 0} → Reader A → Bytes → Reading A
whole m t = cond (nat_lt most_bytes (length t)) (declined Length 1) (closed (m (record { number = 1; rest = t })))

-- what the text of a book says
abbrev pub read_book : Bytes → Reading Contents
read_book = whole book

-- what the text of an errand says
abbrev pub read_errand : Bytes → Reading ErrandContents
read_errand = whole errand

-- the number of a fault: the one place where the numbers stand
abbrev pub fault_number : Fault → ℕ
fault_number Line = 1
fault_number Value = 2
fault_number Name = 3
fault_number Latch = 4
fault_number BadItem = 5
fault_number Length = 6
