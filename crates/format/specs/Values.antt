-- What the value of each line means, or which fault it has. Assumes nothing.
--   only v             the value v alone
--   number low high    a number from low to high
--   position           0 or 1
--   find v names       the number of the latch of this name, if there is one
--   new_name names     a name for one more latch
--   latch names        the latch of this name
--   item names low     one item, of a latch from low on
--   item_list names    a list of items
--   positions n done   digits 0 and 1, n in all with those read so far
use Rattle.std.specs.Prelude.{ℕ, suc, ◌-◌, Bool, true, false, cond, ◌&&◌, List, [], ◌∷◌, ◌++◌, length, take, drop, codes, ◌==◌, nat_le, nat_lt}
use Rattle.std.proofs.Math.Option.{Option, none, some}
use Rattle.format.specs.declared.Fault.TheVariants.{Value, Name, Latch, Item as BadItem}
use Rattle.book.specs.Names.{same}
use Rattle.format.specs.Bytes.{Bytes, decimal, worth, parts}
use Rattle.book.specs.Names.{well_named}
use Rattle.format.specs.Contents.{Item}
use Rattle.format.specs.Reader.{Judged, fine, wrong}

-- this value alone
abbrev pub only : Bytes → Bytes → Judged (Unit {0})
only v w = cond (same v w) (fine tt) (wrong Value)

-- a number from low to high in decimal, with no leading zero
abbrev pub number : ℕ → ℕ → Bytes → Judged ℕ
number low high v =
    cond (nat_le low (worth 0 v) && (nat_le (worth 0 v) high && same (decimal (worth 0 v)) v)) (fine (worth 0 v)) (wrong Value)

-- 0 or 1
abbrev pub position : Bytes → Judged Bool
position v = cond (same v (codes "0")) (fine false) (cond (same v (codes "1")) (fine true) (wrong Value))

-- one place further on
abbrev pub one_up : Option ℕ → Option ℕ
one_up none = none
one_up (some i) = some (suc i)

-- the number of the latch of this name
abbrev pub find : Bytes → List Bytes → Option ℕ
find v [] = none
find v (x ∷ xs) = cond (same x v) (some 0) (one_up (find v xs))

-- the name, if it was not found
abbrev pub unless_taken : Bytes → Option ℕ → Judged Bytes
unless_taken v none = fine v
unless_taken v (some i) = wrong Name

-- a name for one more latch
abbrev pub new_name : List Bytes → Bytes → Judged Bytes
new_name names v = cond (well_named v) (unless_taken v (find v names)) (wrong Name)

-- the latch, if it was found
abbrev pub found : Option ℕ → Judged ℕ
found none = wrong Latch
found (some i) = fine i

-- the latch that is named
abbrev pub latch : List Bytes → Bytes → Judged ℕ
latch names v = found (find v names)

-- the position that the last two bytes give, `:0` or `:1`
abbrev pub ending : Bytes → Option Bool
ending v = cond (same v (codes ":0")) (some false) (cond (same v (codes ":1")) (some true) none)

-- the item, if its latch was found, and from `low` on
abbrev pub risen : ℕ → Bool → Option ℕ → Judged Item
risen low b none = wrong Latch
risen low b (some i) = cond (nat_le low i) (fine (record { latch = i; at = b })) (wrong BadItem)

-- the item of this name, if it ends as it should
abbrev pub with_ending : List Bytes → ℕ → Bytes → Option Bool → Judged Item
with_ending names low name none = wrong BadItem
with_ending names low name (some b) = risen low b (find name names)

-- one item, of a latch from `low` on: first its ending, then its latch, then the rise
abbrev pub item : List Bytes → ℕ → Bytes → Judged Item
item names low v =
    cond (nat_lt (length v) 3) (wrong BadItem) (with_ending names low (take (length v - 2) v) (ending (drop (length v - 2) v)))

-- one item and then the others, unless it is at fault
abbrev pub followed : Judged Item → (Item → Judged (List Item)) → Judged (List Item)
followed (fine x) f = f x
followed (wrong k) f = wrong k

-- the items, behind those read so far, left to right
abbrev pub items : List Bytes → ℕ → List Item → List Bytes → Judged (List Item)
items names low done [] = fine done
items names low done (v ∷ vs) = followed (item names low v) (λ x. items names (suc x.latch) (done ++ (x ∷ [])) vs)

-- a list of items: empty, or with exactly one space between two
abbrev pub item_list : List Bytes → Bytes → Judged (List Item)
item_list names [] = fine []
item_list names (b ∷ bs) = items names 0 [] (parts 32 (b ∷ bs))

-- all of them, if there are n
abbrev pub counted : ℕ → List Bool → Judged (List Bool)
counted n bs = cond (length bs == n) (fine bs) (wrong Value)

-- digits 0 and 1, behind those read so far: n in all
abbrev pub positions : ℕ → List Bool → Bytes → Judged (List Bool)
positions n done [] = counted n done
positions n done (b ∷ bs) =
    cond (b == 48) (positions n (done ++ (false ∷ [])) bs) (cond (b == 49) (positions n (done ++ (true ∷ [])) bs) (wrong Value))
