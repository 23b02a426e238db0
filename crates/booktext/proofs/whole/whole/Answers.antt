use Rattle.std.proofs.Common.{inr, refl}
use Rattle.std.proofs.lemmas.Result.{err_from_is_err_and}
use Rattle.booktext.proofs.whole.whole.Goals as goal

pub returns-in_err-said : goal.returns-in_err-said
returns-in_err-said g c =
    let p = err_from_is_err_and c.from_residual-in_err-said.result c.from_residual-in_err-said.ensures.1 in
    let l = c.in_ok-lines.ensures in
    rw (p.1, p.2) (record { read = inr (l.0, (_, c.read.new.arg2, (record { shown = _; shows = l.1; left = _; met = c.in_err-said.ensures; leaves = refl }), refl)) })

pub returns-in_err-end : goal.returns-in_err-end
returns-in_err-end g c =
    let p = err_from_is_err_and c.from_residual-in_err-end.result c.from_residual-in_err-end.ensures.1 in
    let l = c.in_ok-lines.ensures in
    rw (p.1, p.2) (record { read = inr (l.0, (_, c.read.new.arg2, (record { shown = _; shows = l.1; left = _; met = c.in_ok-said.ensures; leaves = refl }), c.in_err-end.ensures)) })
