use Rattle.std.proofs.Common.{◌≡◌, ◌≤◌, length, arith}
use Rattle.format.proofs.Booking.{as_many, all_named, all_differ}
use Rattle.booktext.proofs.whole.bound.Goals as goal

pub invariant_of-result : goal.invariant_of-result
invariant_of-result c =
    let s = c.names.inside in
    let kept = c.names.invariant in
    let moves = c.requires.moves_kept in
    let fits : s.count ≤ length s.table = omega (arith, kept.0, kept.1.places) in
    let n : length c.args.names ≡ s.count = rw (← c.names.view_is) (as_many s.count s.table fits) in
    record {
      few = kept.0;
      room = c.requires.room;
      name_places = kept.1.places;
      move_places = moves.places;
      named = all_named s.count s.table fits (rw c.names.view_is c.requires.named);
      differ = all_differ s.count s.table fits (rw c.names.view_is c.requires.distinct);
      own = λ k l. rw (← n) (moves.speaks k l).own;
      asks = λ k l. rw (← n) (moves.speaks k l).asks;
      no_names = kept.1.blank;
      no_moves = moves.blank;
    }
