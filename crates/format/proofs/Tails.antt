-- What is left of reading a book behind each of its parts, and of an errand.
use Rattle.std.proofs.Common.{ℕ, Bool, List, [], length, codes}
use Rattle.format.specs.Bytes.{Bytes}
use Rattle.format.specs.Contents.{Contents, ErrandContents}
use Rattle.format.specs.Reader.{Reader, give, ◌>>=◌, entry}
use Rattle.format.specs.Values.{number, item_list, positions}
use Rattle.format.specs.Reading.{latches, rules}

abbrev pub from_rules : List Bytes → ℕ → Reader Contents
from_rules names m = rules m names [] >>= (λ moves. give (record { names = names; rules = moves }))

abbrev pub from_moves : List Bytes → Reader Contents
from_moves names = entry (codes "moves=") (number 0 128) >>= from_rules names

abbrev pub from_names : ℕ → Reader Contents
from_names n = latches n [] >>= from_moves

abbrev pub from_latches : Unit {0} → Reader Contents
from_latches _ = entry (codes "latches=") (number 1 32) >>= from_names

abbrev pub from_want : Contents → List Bool → Reader ErrandContents
from_want p s = entry (codes "want=") (item_list p.names) >>= (λ w. give (record { contents = p; start = s; want = w }))

abbrev pub from_start : Contents → Reader ErrandContents
from_start p = entry (codes "start=") (positions (length p.names) []) >>= from_want p
