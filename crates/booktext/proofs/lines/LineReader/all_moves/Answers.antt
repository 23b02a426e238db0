use Rattle.std.proofs.Common.{◌<◌, length, ◌∙◌, arith}
use Rattle.std.proofs.lemmas.List.{length-take-le}
use Rattle.std.proofs.lemmas.Result.{err_from_is_err_and}
use Rattle.format.proofs.Arrays.{move_turn, move_stop}
use Rattle.booktext.proofs.Tables.{speaks_more, moved_until}
use Rattle.booktext.proofs.lines.LineReader.all_moves.Goals as goal

pub returns-in_err-place-clause-told : goal.returns-in_err-place-clause-told
returns-in_err-place-clause-told c =
    let n = length-take-le c.args.count c.blank.result.moves (omega (arith, c.requires, c.blank.result.move_places)) in
    let p = err_from_is_err_and c.from_residual.result c.from_residual.ensures.1 in
    rw (p.1, p.2)
    (move_stop c.args.names.now c.args.count c.loop-place.place-index c.loop-place.place-items c.loop-place.self _ c.loop-place.invariant.0 _ _
    (omega (arith, n, c.loop-place-test.true)) c.in_err-place.ensures.told)

pub loop-place-preserved : goal.loop-place-preserved
loop-place-preserved c =
    let n = length-take-le c.args.count c.blank.result.moves (omega (arith, c.requires, c.blank.result.move_places)) in
    let l : c.loop-place.place-index < length c.loop-place.place-items = omega (arith, c.loop-place.auto.place-items, c.loop-place-test.true) in (
      move_turn c.args.names.now c.args.count c.loop-place.place-index c.loop-place.place-items c.loop-place.self _ c.loop-place.invariant.0 _ _
          (omega (arith, n, c.loop-place-test.true)) l c.in_ok-place.ensures.told,
      speaks_more (length c.args.names.now) c.loop-place.place-index c.loop-place.place-items _ l c.loop-place.invariant.1 c.in_ok-place.ensures.own,
    )

pub returns-clause-table : goal.returns-clause-table
returns-clause-table c =
    let n = length-take-le c.args.count c.blank.result.moves (omega (arith, c.requires, c.blank.result.move_places)) in
    moved_until (length c.args.names.now) c.args.count c.loop-place.place-items c.blank.result.moves (c.loop-place.auto.place-items ∙ n) c.requires c.blank.result.move_places
    (λ k l. c.loop-place.invariant.1 k (omega (arith, n, c.loop-place-test.false))) (λ k. c.blank.result.no_moves k (omega (arith, c.blank.ensures.count)))
