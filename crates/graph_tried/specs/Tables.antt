-- What a table means as a graph. Assumes nothing.
--   table_arc t u v   an arc of the table leads from u to v
use Rattle.std.specs.Prelude.{◌≡◌, ℕ, ◌<◌, true, slice_index_or}
use Rattle.words.specs.Sets.{most_latches, no_latch, has}
use Rattle.graph_tried.specs.declared.table.Table.{Table}

-- an arc leads from u to v: v is in the row of u
abbrev pub table_arc : Table → ℕ → ℕ → Type 0
table_arc t u v = (u < most_latches) × (has (slice_index_or t.rows u no_latch) v ≡ true)
