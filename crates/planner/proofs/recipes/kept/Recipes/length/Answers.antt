use Rattle.std.proofs.Common.{List, length, ap, arith}
use Rattle.std.specs.List.{flat_map}
use Rattle.planner.specs.declared.route.entry.Entry.{Entry}
use Rattle.planner.specs.Listed.{entry_numbers}
use Rattle.planner.proofs.Listing.{more_moves, fewer_moves}
use Rattle.planner.proofs.recipes.kept.Recipes.length.Goals as goal

pub overflow_add-length : goal.overflow_add-length
overflow_add-length c =
    let f = entry_numbers c.args.self.now in
    omega (
      arith,
      c.requires.1,
      c.loop-entry.invariant,
      c.length_at-length.ensures,
      fewer_moves f c.as_slice-entry-items.result.now c.loop-entry.entry-index c.loop-entry-test.true,
      more_moves f c.as_slice-entry-items.result.now c.loop-entry.entry-index c.loop-entry-test.true,
      ap (λ (es : List Entry). length (flat_map f es)) c.as_slice-entry-items.ensures.items,
    )
