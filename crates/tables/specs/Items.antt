-- What a table means.
use Rattle.std.specs.Prelude.{ℕ, List, take}
use Rattle.tables.specs.declared.Table.{Table}

-- the items, first to last
abbrev pub items : {T : Type 0} → {ROOM : ℕ} → Table T ROOM → List T
items t = take t.count t.places
