use Rattle.std.proofs.Common.{[], refl, arith}
use Rattle.book.specs.Places.{no_move}
use Rattle.book.specs.Settings.{nothing_asked}
use Rattle.book.proofs.Empty.{all_equal, no_move_at}
use Rattle.book.proofs.Sameness.{partial_same, move_same}
use Rattle.book.proofs.book.Book.blank.Goals as goal

pub invariant_of-result-3 : goal.invariant_of-result-3
invariant_of-result-3 c = record {
  few = omega arith;
  room = omega arith;
  name_places = refl;
  move_places = refl;
  named = λ k l. absurd (omega arith);
  differ = λ j k l. absurd (omega (arith, l.1));
  own = λ k l. absurd (omega arith);
  asks = λ k l. absurd (omega arith);
  no_names = λ k l. all_equal 32 k [];
  no_moves = λ k l. no_move_at 128 k _ (move_same _ no_move refl refl (partial_same _ nothing_asked refl refl));
}
