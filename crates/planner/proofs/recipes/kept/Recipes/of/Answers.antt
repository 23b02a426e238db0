use Rattle.std.proofs.Common.{ap, ◌∙◌, subst, length}
use Rattle.std.proofs.Math.Logic.{∥∥₁_elim}
use Rattle.std.proofs.Props.{props}
use Rattle.tasks.specs.declared.task.NormalTask.{NormalTask}
use Rattle.tasks.specs.Tasks.{task_of}
use Rattle.planner.specs.declared.order.list.Order.{Order}
use Rattle.planner.specs.RecipesKept.{Splits}
use Rattle.planner.proofs.Underway.{finished}
use Rattle.planner.proofs.Unrolled.{counts, within, helpers, opens}
use Rattle.planner.specs.Orders.{order_of}
use Rattle.planner.proofs.recipes.kept.Recipes.of.Goals as goal

pub invariant_of-result : goal.invariant_of-result
invariant_of-result c =
    let t = c.args.task in
    let o = c.in_order-order.result in
    let s = c.place_all.new.self in
    let same = c.place_all.ensures.task ∙ c.new-making.ensures.task in
    let same_order = c.place_all.ensures.order ∙ c.new-making.ensures.order in
    let ordered = c.in_order-order.ensures in
    let tabled = finished t o s.task.now s.order.now s.placed s.table same same_order (c.place_all.ensures.placed ∙ ap (λ (w : Order). length (order_of w)) c.new-making.ensures.order) ordered s.tabled in
    record {
      splits = subst (λ (w : NormalTask). Splits (task_of w) s.splitting) same s.splits;
      orders = ordered;
      members = ∥∥₁_elim tabled (hlevel props) (λ d. d.members);
      counts = ∥∥₁_elim tabled (hlevel props) (counts t o s.table ordered);
      within = ∥∥₁_elim tabled (hlevel props) (within t o s.table ordered);
      helpers = ∥∥₁_elim tabled (hlevel props) (λ d. helpers t o s.table ordered d);
      opens = ∥∥₁_elim tabled (hlevel props) (λ d. opens t o s.table ordered d);
    }
