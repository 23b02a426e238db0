use Rattle.std.proofs.Common.{◌≡◌, ◌^◌, ◌<◌, true, length, sym, ap, ◌∙◌, subst, arith}
use Rattle.theory.specs.Recipes.{serves?}
use Rattle.tables.specs.Items.{items}
use Rattle.tasks.specs.declared.task.NormalMove.{NormalMove}
use Rattle.tasks.specs.Places.{move_at}
use Rattle.tasks.specs.Tasks.{move_of, task_of}
use Rattle.planner.specs.RecipesKept.{KeepsOne, Helps, before, kept_behind}
use Rattle.planner.proofs.RecipeChoice.{move_read, read_within, none_more, none_made, first_made}
use Rattle.planner.proofs.Underway.{members_of}
use Rattle.planner.specs.Orders.{order_of}
use Rattle.planner.proofs.recipes.making.Making.recipe.Goals as goal
use Rattle.planner.proofs.recipes.making.Making.recipe.Goals.{After-m-item}

-- the move of this turn stands at its place
here : (c : After-m-item) → (c.loop-place.place < length (items c.args.self.now.task.now.moves)) × (c.m-item.result ≡ move_at (items c.args.self.now.task.now.moves) c.loop-place.place)
here c = move_read c.args.self.now.task.now c.moves-m-items.result.now c.loop-place.place c.m-item.result c.moves-m-items.ensures.list c.loop-place-test.true c.m-item.is

-- the latches with a kept recipe to 1
ones : (c : After-m-item) → KeepsOne c.args.self.now.ones (kept_behind c.args.self.now.task.now c.args.self.now.order.now c.args.self.now.placed)
ones c =
    let s = c.args.self.now in
    λ u. s.kept_ones u ∙ members_of s.task.now s.order.now s.placed s.table s.tabled true u

pub returns-then-serves : goal.returns-then-serves
returns-then-serves c =
    let s = c.args.self.now in
    let t = s.task.now in
    let kept = kept_behind t s.order.now s.placed in
    let m = c.m-item.result in
    let turn = (goal.at.returns-then-serves c).After-m-item in
    let read = here turn in
    let below = read_within t c.loop-place.place m read in
    let helps = c.helpers-helpers.ensures (task_of t) s.splits below in
    let H : NormalMove → Type 0 = λ k. Helps (task_of t) c.args.latch (move_of k) c.helpers-helpers.result in
    first_made t kept c.args.latch c.args.to (before (order_of s.order.now) s.placed) (3 ^ s.placed) c.loop-place.place c.helpers-helpers.result
    c.length-length.result read.0 c.loop-place.invariant
    (ap (λ (k : NormalMove). serves? (task_of t) kept c.args.latch c.args.to (move_of k)) (sym read.1)
    ∙ sym (c.if-serves.ensures (task_of t) kept (ones turn) below)) (subst H read.1 helps) (c.length-length.ensures.counted c.args.latch _ (subst H read.1 helps))
    c.length-length.ensures.short

pub loop-place-preserved : goal.loop-place-preserved
loop-place-preserved c =
    let s = c.args.self.now in
    let t = s.task.now in
    let turn = (goal.at.loop-place-preserved c).After-m-item in
    none_more t (kept_behind t s.order.now s.placed) c.args.latch c.args.to c.loop-place.place
    c.loop-place.invariant
    (ap (λ (k : NormalMove). serves? (task_of t) (kept_behind t s.order.now s.placed) c.args.latch c.args.to (move_of k)) (sym (here turn).1)
    ∙ sym (c.if-serves.ensures (task_of t) _ (ones turn) (read_within t c.loop-place.place c.m-item.result (here turn))))

pub returns : goal.returns
returns c =
    let s = c.args.self.now in
    let t = s.task.now in
    let many : length c.moves-m-items.result.now ≡ length (items t.moves) = ap length c.moves-m-items.ensures.list in
    none_made t (kept_behind t s.order.now s.placed) c.args.latch c.args.to (before (order_of s.order.now) s.placed)
    (λ k l. c.loop-place.invariant k (omega (arith, c.loop-place-test.false, many)))
