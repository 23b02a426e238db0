use Rattle.std.proofs.lemmas.Result.{err_from_is_err_and}
use Rattle.format.proofs.Booking.{start_refused, want_refused, errand_made}
use Rattle.booktext.proofs.lines.LineReader.errand.Goals as goal

pub returns-in_err-start : goal.returns-in_err-start
returns-in_err-start c =
    let p = err_from_is_err_and c.from_residual-in_err-start.result c.from_residual-in_err-start.ensures.1 in
    rw (p.1, p.2) (start_refused c.in_ok-book.book c.args.self.now c.book.new.self c.in_ok-book.ensures _ _ c.in_err-start.ensures.told)

pub returns-in_err-want : goal.returns-in_err-want
returns-in_err-want c =
    let p = err_from_is_err_and c.from_residual-in_err-want.result c.from_residual-in_err-want.ensures.1 in
    rw (p.1, p.2)
    (want_refused c.in_ok-book.book c.args.self.now c.book.new.self c.in_ok-book.ensures _ _ c.in_ok-start.ensures.told _ _ c.in_err-want.ensures.told)

pub returns : goal.returns
returns c = errand_made c.in_ok-book.book c.args.self.now c.book.new.self c.in_ok-book.ensures _ c.start_line.new.self c.in_ok-start.ensures.told _ c.items_line.new.self c.in_ok-want.ensures.told
