use Rattle.std.proofs.Common.{ℕ, ◌^◌, ◌<◌, Bool, set, is_some, sym, ap, ◌∙◌, subst, arith}
use Rattle.words.specs.Sets.{most_latches, has_put}
use Rattle.std.proofs.Math.Logic.{∥∥₁_elim}
use Rattle.std.proofs.Props.{props}
use Rattle.tasks.specs.Tasks.{task_of}
use Rattle.planner.specs.RecipesKept.{before, kept_behind, kept_last, Held}
use Rattle.planner.proofs.OrderFresh.{fresh_at, latch_below}
use Rattle.planner.proofs.RecipesHeld.{held}
use Rattle.planner.proofs.RecipesTabled.{more_tabled, kept_more}
use Rattle.planner.specs.Orders.{order_of}
use Rattle.planner.proofs.recipes.making.Making.place.Goals as goal

pub bounds-table-latch : goal.bounds-table-latch
bounds-table-latch c =
    let s = c.args.self.now in
    subst (λ (v : ℕ). v < most_latches) (sym c.latch-latch.ensures) (latch_below s.task.now (order_of s.order.now) s.orders s.placed c.requires)

pub invariant_of-self : goal.invariant_of-self
invariant_of-self c =
    let s = c.args.self.now in
    let t = s.task.now in
    let o = s.order.now in
    let k = s.placed in
    let kept = kept_behind t o k in
    let us = before (order_of o) k in
    let below = latch_below t (order_of o) s.orders k c.requires in
    let H : ℕ → Type 0 = λ v. Held t v us (3 ^ k) (kept_last (task_of t) kept us v) c.of-kept.result in
    let here = subst H c.latch-latch.ensures
    (subst (Held t c.latch-latch.result us (3 ^ k) (kept_last (task_of t) kept us c.latch-latch.result)) (sym c.of-kept.ensures)
    (held t kept c.latch-latch.result us (3 ^ k) _ _ _ c.is_asked.ensures c.recipe-one.ensures c.recipe-zero.ensures)) in
    record {
      orders = s.orders;
      splits = s.splits;
      room = omega (arith, c.requires);
      kept_ones =
          kept_more s.table c.latch-latch.result c.of-kept.result s.ones c.put-self.result
          (subst (λ (v : ℕ). v < most_latches) (sym c.latch-latch.ensures) below) s.kept_ones
          (λ u. c.put-self.ensures u ∙ ap (λ (b : Bool). has_put s.ones c.latch-latch.result b u) (c.is_some.ensures ∙ ap is_some c.recipe.ensures));
      tabled =
          ∥∥₁_elim s.tabled (hlevel props) (λ d.
          ∣ more_tabled t (order_of o) k s.table d c.requires (fresh_at (task_of t) (order_of o) s.orders k c.requires).1 _ c.of-kept.result below
          (ap (λ (v : ℕ). set s.table.kept v c.of-kept.result) c.latch-latch.ensures) here ∣₁);
    }
