use Rattle.format.proofs.Booking.{thrown_below}
use Rattle.booktext.proofs.lines.LineReader.move_lines.Goals as goal

pub returns-clause-own : goal.returns-clause-own
returns-clause-own c = record {
  own = thrown_below c.args.names.now c.args.self.now _ _ c.in_ok-latch.ensures;
  asks = c.in_ok-when.ensures.below;
}
