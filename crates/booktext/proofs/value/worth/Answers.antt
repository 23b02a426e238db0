use Rattle.std.proofs.Common.{◌≡◌, ◌+◌, ◌-◌, ◌*◌, get_or, refl, arith}
use Rattle.format.proofs.Numbering.{worth_more, worth_all, worth_over}
use Rattle.booktext.proofs.value.worth.Goals as goal

pub returns-in_err-checked_mul : goal.returns-in_err-checked_mul
returns-in_err-checked_mul c =
    rw c.from_residual.ensures
    (worth_over c.args.v.now c.loop-b.n c.loop-b.b-index c.loop-b-test.true c.loop-b.invariant (omega (arith, c.in_err-checked_mul.ensures)))

pub returns-in_err-n : goal.returns-in_err-n
returns-in_err-n c =
    rw c.from_residual-in_err-n.ensures
    (worth_over c.args.v.now c.loop-b.n c.loop-b.b-index c.loop-b-test.true c.loop-b.invariant (omega (arith, c.in_ok-checked_mul.ensures, c.in_err-n.ensures)))

pub loop-b-preserved : goal.loop-b-preserved
loop-b-preserved c =
    let e : c.in_ok-n.n ≡ c.loop-b.n * 10 + (get_or c.args.v.now c.loop-b.b-index 0 - 48) = omega (arith, c.in_ok-checked_mul.ensures, c.in_ok-n.ensures) in
    rw e (worth_more c.args.v.now c.loop-b.n c.loop-b.b-index _ c.loop-b-test.true refl c.loop-b.invariant)

pub returns : goal.returns
returns c = worth_all c.args.v.now c.loop-b.n c.loop-b.b-index c.loop-b-test.false c.loop-b.invariant
