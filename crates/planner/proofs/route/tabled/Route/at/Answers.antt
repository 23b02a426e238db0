use Rattle.std.proofs.Common.{sym, refl, ◌∙◌, arith}
use Rattle.planner.specs.Listed.{entry_numbers}
use Rattle.planner.proofs.Listing.{left_inside, left_behind}
use Rattle.planner.proofs.route.tabled.Route.at.Goals as goal

pub returns-then-rest-length : goal.returns-then-rest-length
returns-then-rest-length c =
    c.move_at.ensures
    ∙ sym (left_inside (entry_numbers c.args.self.now.recipes) c.as_slice-entry-items.result.now c.loop-entry.entry-index c.loop-entry-test.true
    c.loop-entry.rest (omega (arith, c.if-rest-length.true, c.length_at-length.ensures)))
    ∙ sym c.loop-entry.invariant

pub loop-entry-preserved : goal.loop-entry-preserved
loop-entry-preserved c =
    c.loop-entry.invariant
    ∙ left_behind (entry_numbers c.args.self.now.recipes) c.as_slice-entry-items.result.now c.loop-entry.entry-index c.loop-entry-test.true
    c.loop-entry.rest c.length_at-length.result _ c.length_at-length.ensures c.if-rest-length.false refl
