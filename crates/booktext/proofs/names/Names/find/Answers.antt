use Rattle.std.proofs.Common.{length, take, rules, tests}
use Rattle.std.proofs.lemmas.Iterator.{YieldsList-from_slice}
use Rattle.std.proofs.lemmas.Iterator.Search.{position_from_yields_List}
use Rattle.format.proofs.Comparing.{position_some, position_none}
use Rattle.format.proofs.Searching.{is_name, name_place, found_here, found_nowhere}
use Rattle.booktext.proofs.names.Names.find.Goals as goal

pub returns-in_err-latch : goal.returns-in_err-latch
returns-in_err-latch c =
    let v = c.args.v.now in
    let names = take c.self.inside.count c.self.inside.table in
    let is = position_from_yields_List (is_name v) _ _ c.position.result c.position.ensures.ran (YieldsList-from_slice names cc) (λ x b q k. search (rules, tests)) in
    let none = position_none (name_place v names) (length names) c.position.result is c.in_err-latch.was in
    rw c.from_residual.ensures (record { named = rw (← c.self.view_is) (found_nowhere v names none); few = tt })

pub returns-clause-named : goal.returns-clause-named
returns-clause-named c =
    let v = c.args.v.now in
    let names = take c.self.inside.count c.self.inside.table in
    let is = position_from_yields_List (is_name v) _ _ c.position.result c.position.ensures.ran (YieldsList-from_slice names cc) (λ x b q k. search (rules, tests)) in
    let found = position_some (name_place v names) (length names) c.position.result is c.in_ok-latch.latch c.in_ok-latch.was in
    rw (← c.self.view_is) (found_here v names c.in_ok-latch.latch found.0 found.1)
