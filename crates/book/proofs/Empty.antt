-- A table whose places are all empty.
use Rattle.std.proofs.Common.{◌≡◌, ℕ, zero, suc, get_or, replicate, refl, ap, ◌∙◌}
use Rattle.book.specs.declared.moves.Move.{Move}
use Rattle.book.specs.Places.{no_move, move_at}

-- a table of equal elements has that element at each place, and behind the last
pub all_equal : {X : Type 0} (n k : ℕ) (d : X) → get_or (replicate n d) k d ≡ d
all_equal zero k d = refl
all_equal (suc n) zero d = refl
all_equal (suc n) (suc k) d = all_equal n k d

-- a table of empty moves
pub no_move_at : (n k : ℕ) (x : Move) → x ≡ no_move → move_at (replicate n x) k ≡ no_move
no_move_at n k x e = ap (λ (m : Move). move_at (replicate n m) k) e ∙ all_equal n k no_move
