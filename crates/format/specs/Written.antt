-- The text of a book and of an errand: lines one after another. Assumes nothing.
--   line key v rest     the line of this key and value, and then the rest
--   item_text names x   NAME:0 or NAME:1
--   list_text names xs  items with one space between two
--   book_text p         the text of a book with these contents
--   errand_text e       the text of an errand with these contents
use Rattle.std.specs.Prelude.{ℕ, Bool, cond, List, [], ◌∷◌, ◌++◌, map, length, codes, slice_index_or}
use Rattle.format.specs.Bytes.{Bytes, decimal, joined}
use Rattle.format.specs.Contents.{Item, Rule, Contents, ErrandContents}

-- the line of this key and value, and then the rest
abbrev pub line : Bytes → Bytes → Bytes → Bytes
line key value rest = key ++ (value ++ (10 ∷ rest))

-- a position as a digit
abbrev pub digit : Bool → ℕ
digit b = cond b 49 48

-- NAME:0 or NAME:1
abbrev pub item_text : List Bytes → Item → Bytes
item_text names x = slice_index_or names x.latch [] ++ (58 ∷ digit x.at ∷ [])

-- items with a space between two
abbrev pub list_text : List Bytes → List Item → Bytes
list_text names xs = joined 32 (map (item_text names) xs)

-- a line for each latch, and then the rest
abbrev pub latch_lines : List Bytes → Bytes → Bytes
latch_lines [] rest = rest
latch_lines (x ∷ xs) rest = line (codes "latch=") x (latch_lines xs rest)

-- three lines for each rule, and then the rest
abbrev pub rule_lines : List Bytes → List Rule → Bytes → Bytes
rule_lines names [] rest = rest
rule_lines names (r ∷ rs) rest =
    line (codes "move=") (slice_index_or names r.latch [])
    (line (codes "to=") (digit r.to ∷ []) (line (codes "when=") (list_text names r.when) (rule_lines names rs rest)))

-- the lines of a book, and then the rest
abbrev pub book_lines : Contents → Bytes → Bytes
book_lines p rest =
    line (codes "book=") (codes "1")
    (line (codes "latches=") (decimal (length p.names))
    (latch_lines p.names
    (line (codes "moves=") (decimal (length p.rules)) (rule_lines p.names p.rules rest))))

-- the text of a book
abbrev pub book_text : Contents → Bytes
book_text p = book_lines p []

-- the lines of an errand, and then the rest
abbrev pub errand_lines : ErrandContents → Bytes → Bytes
errand_lines e rest =
    book_lines e.contents
    (line (codes "start=") (map digit e.start) (line (codes "want=") (list_text e.contents.names e.want) rest))

-- the text of an errand
abbrev pub errand_text : ErrandContents → Bytes
errand_text e = errand_lines e []
