use Rattle.std.proofs.Common.{false, set, arith}
use Rattle.std.proofs.lemmas.List.{get_or-set_same, get_or-set_other}
use Rattle.panel.proofs.Rows.{set_row, set_row_past}
use Rattle.panel_tried.specs.Boards.{place}
use Rattle.panel_tried.proofs.board.BoardPanel.throw.Goals as goal

-- out of range: the setting stays
pub returns-then-not-has : goal.returns-then-not-has
returns-then-not-has c =
    let p = c.args.self.now in
    record {
      panel = set_row_past p.width.count (place p.places) c.args.latch c.args.to c.if-not-has.ensures.below;
      done = c.if-not-has.ensures.rows (place p.places);
    }

-- in range: the place of the latch is written, and no other
pub returns : goal.returns
returns c =
    let p = c.args.self.now in
    let i = c.args.latch in
    let to = c.args.to in
    record {
      panel =
          set_row p.width.count i (place p.places) (place (set p.places i to)) to
          (λ h. get_or-set_same p.places i to false (omega arith))
          (λ j ne. get_or-set_other p.places i j to false ne);
      done = c.if-not-has.ensures.rows (place p.places);
    }
