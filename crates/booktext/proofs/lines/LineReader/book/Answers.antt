use Rattle.std.proofs.Common.{codes}
use Rattle.book.specs.Limits.{most_moves}
use Rattle.format.proofs.Booking.{names_read, number_bounds}
use Rattle.booktext.proofs.lines.LineReader.book.Goals as goal

pub bound-requires : goal.bound-requires
bound-requires c =
    let read = names_read c.in_ok-latches.latches _ c.number_line.new.self _ c.in_ok-names.ensures in
    record {
      room = (number_bounds (codes "moves=") 0 most_moves c.latch_lines.new.self _ _ c.in_ok-count.ensures).1;
      moves_kept = c.in_ok-moves.ensures.table;
      named = read.0;
      distinct = read.1;
    }
