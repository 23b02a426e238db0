use Rattle.std.proofs.Common.{ℕ, ◌^◌, ◌<◌, List, length, sym, ap, ◌∙◌, subst}
use Rattle.tables.specs.Items.{items}
use Rattle.planner.proofs.Listing.{listed, route_fits}
use Rattle.planner.proofs.route.tabled.Route.of.Goals as goal

pub length-length-requires : goal.length-length-requires
length-length-requires c = (
  c.entries-entries.ensures.placed,
  subst (λ (ks : List ℕ). length ks < 2 ^ 64) (listed c.args.recipes (items c.entries-entries.result) c.entries-entries.ensures.parts) (route_fits c.args.recipes.task c.requires),
)

pub invariant_of-result : goal.invariant_of-result
invariant_of-result c =
    let same = listed c.args.recipes (items c.entries-entries.result) c.entries-entries.ensures.parts in
    record {
      placed = c.entries-entries.ensures.placed;
      listed = same;
      counted = c.length-length.ensures ∙ sym (ap length same);
    }
