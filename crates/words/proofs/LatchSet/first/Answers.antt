use Rattle.std.proofs.Common.{arith}
use Rattle.std.specs.Int.{w32}
use Rattle.std.proofs.lemmas.Bool.{eq-eqb}
use Rattle.std.proofs.lemmas.Nat.Bits.{bit_at-trailing_zeros}
use Rattle.words.proofs.Members.{clear_absent}
use Rattle.words.proofs.LatchSet.first.Goals as goal

pub returns : goal.returns
returns c =
    let w = c.args.self.word in
    let (i, here, below) = bit_at-trailing_zeros w32 w (omega arith) (omega arith) in
    (eq-eqb _ 1 here, λ j h. clear_absent w j (below j h), i)
