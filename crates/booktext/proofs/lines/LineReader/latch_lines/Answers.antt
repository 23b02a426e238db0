use Rattle.std.proofs.lemmas.List.{length_push}
use Rattle.std.proofs.Common.{arith}
use Rattle.std.proofs.lemmas.Result.{err_from_is_err_and}
use Rattle.format.proofs.Arrays.{latch_turn, latch_stop}
use Rattle.booktext.proofs.lines.LineReader.latch_lines.Goals as goal

pub returns-in_err-name : goal.returns-in_err-name
returns-in_err-name c =
    let p = err_from_is_err_and c.from_residual.result c.from_residual.ensures.1 in
    rw (p.1, p.2) (latch_stop c.args.n c.loop-i._i c.loop-i.names c.loop-i.self _ c.loop-i.invariant.0 _ _ c.loop-i-test.true c.in_err-name.ensures)

pub loop-i-preserved : goal.loop-i-preserved
loop-i-preserved c =
    rw c.push.ensures (
      latch_turn c.args.n c.loop-i._i c.loop-i.names c.loop-i.self _ c.loop-i.invariant.0 _ c.latch_line.new.self c.loop-i-test.true c.in_ok-name.ensures,
      omega (arith, length_push c.loop-i.names, c.loop-i.invariant.1),
    )
