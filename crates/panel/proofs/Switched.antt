-- A set with one latch put in or taken out, with one more and with one less: that latch, and any other.
use Rattle.std.proofs.Common.{◌≡◌, ℕ, ◌<◌, true, false, ◌≢◌, arith}
use Rattle.std.proofs.lemmas.Bool.Decides.{nat_tests}
use Rattle.words.specs.declared.LatchSet.{LatchSet}
use Rattle.words.specs.Sets.{has, has_with, has_without}
pub use Rattle.words.proofs.Members.{put_here, put_other}

pub with_here : (s : LatchSet) (i : ℕ) → i < 32 → has_with s i i ≡ true
with_here s i l = grind (arith, nat_tests)

pub with_other : (s : LatchSet) (i j : ℕ) → j ≢ i → has_with s i j ≡ has s j
with_other s i j ne = grind (arith, nat_tests)

pub without_here : (s : LatchSet) (i : ℕ) → has_without s i i ≡ false
without_here s i = grind (arith, nat_tests)

pub without_other : (s : LatchSet) (i j : ℕ) → j ≢ i → has_without s i j ≡ has s j
without_other s i j ne = grind (arith, nat_tests)
