-- A partial setting that names one more latch, seen from each latch: t says that it is the one, u that the one is below 32, x that it was
-- named before, and y that it was asked to be at 1; b is the position that the one is given.
use Rattle.std.proofs.Common.{◌≡◌, Bool, true, cond, not, ◌&&◌, ◌||◌, arith}
use mathlib.Core.Option.{none, some}

pub one_more :
    (t u x y b : Bool) → (t ≡ true → x ≡ true → u ≡ true) →
    cond (x || (t && u)) (some (cond b (y || (t && u)) (y && not t))) none ≡ cond (t && u) (some b) (cond x (some y) none)
one_more t u x y b h = grind arith
