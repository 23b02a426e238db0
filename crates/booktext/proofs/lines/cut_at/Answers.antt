use Rattle.std.proofs.Common.{eqb, length, rules, tests}
use Rattle.std.proofs.lemmas.Iterator.{YieldsList-from_slice}
use Rattle.std.proofs.lemmas.Iterator.Search.{position_from_yields_List}
use Rattle.format.proofs.Comparing.{place, position_some, position_none, cut_here, cut_nowhere}
use Rattle.booktext.proofs.lines.cut_at.Goals as goal

pub returns-in_err-i : goal.returns-in_err-i
returns-in_err-i c =
    let s = c.args.s.now in
    let is = position_from_yields_List (λ b. eqb b c.args.sep) _ _ c.position.result c.position.ensures.ran (YieldsList-from_slice s cc) (λ x b q k. search (rules, tests)) in
    rw c.from_residual.ensures (cut_nowhere c.args.sep s (position_none (place c.args.sep s) (length s) c.position.result is c.in_err-i.was))

pub returns : goal.returns
returns c =
    let s = c.args.s.now in
    let is = position_from_yields_List (λ b. eqb b c.args.sep) _ _ c.position.result c.position.ensures.ran (YieldsList-from_slice s cc) (λ x b q k. search (rules, tests)) in
    let found = position_some (place c.args.sep s) (length s) c.position.result is c.in_ok-i.i c.in_ok-i.was in
    cut_here c.args.sep s c.in_ok-i.i found.0 found.1
