-- What a board panel means. Assumes nothing.
--   place xs i        what stands at place i
--   board_setting p   the setting of a board panel
use Rattle.std.specs.Prelude.{ℕ, Bool, false, List, slice_index_or}
use Rattle.panel.specs.Settings.{row}
use Rattle.panel_tried.specs.declared.board.Board.{Board}

-- what stands at place i
abbrev pub place : List Bool → ℕ → Bool
place xs i = slice_index_or xs i false

-- the setting of a board panel
abbrev pub board_setting : Board → List Bool
board_setting p = row p.width.count (place p.places)
