use Rattle.std.proofs.Common.{◌≡◌, ℕ, ◌+◌, ◌*◌, ◌^◌, ◌<◌, ◌≤◌, List, true, false, length, take, sym, ap, ◌∙◌, subst, arith}
use Rattle.std.proofs.lemmas.List.{length-take-le}
use Rattle.planner.proofs.OrderFresh.{few}
use Rattle.planner.proofs.RecipeLengths.{Counted, counted_alone, counted_unhelped, counted_helped, short_at, three_times, powers_fit}
use Rattle.planner.proofs.Underway.{lengths_of, short_of}
use Rattle.planner.specs.Orders.{order_of}
use Rattle.planner.proofs.recipes.making.Making.length.Goals as goal
use Rattle.planner.proofs.recipes.making.Making.length.Goals.{then-contains, else-contains, After-length-then-contains}

pub loop-latch-init : goal.loop-latch-init
loop-latch-init c =
    let s = c.args.self.now in
    (omega arith, counted_alone (order_of s.order.now) s.table c.args.helpers)

-- the two recipes of the latch of this turn are short
two_short : (c : After-length-then-contains) → (c.length.result + c.length-then-contains.result ≤ 2 * 3 ^ c.loop-latch.latch-index) × (3 * 3 ^ c.loop-latch.latch-index < 2 ^ 64)
two_short c =
    let s = c.args.self.now in
    let o = s.order.now in
    let i = c.loop-latch.latch-index in
    let first = ap (take s.placed) c.as_slice.ensures.items in
    let many : length (take s.placed c.as_slice.result.now) ≡ s.placed = ap (λ (us : List ℕ). length us) first ∙ length-take-le s.placed (order_of o) s.room in
    let l : i < s.placed = omega (arith, c.loop-latch-test.true, many) in
    let short = short_at (order_of o) s.table c.args.helpers s.placed i l s.room _ first (short_of s.task.now o s.placed s.table s.tabled) in
    (omega (arith, c.length.ensures, c.length-then-contains.ensures, short true, short false), powers_fit i (omega (arith, s.room, few o)))

pub overflow_add-length : goal.overflow_add-length
overflow_add-length c = omega (arith, two_short c)

pub overflow_add-length-then-contains : goal.overflow_add-length-then-contains
overflow_add-length-then-contains c = omega (arith, two_short c, c.loop-latch.invariant.0)

pub loop-latch-preserved : goal.loop-latch-preserved
loop-latch-preserved c =
    let s = c.args.self.now in
    let o = s.order.now in
    let i = c.loop-latch.latch-index in
    let first = ap (take s.placed) c.as_slice.ensures.items in
    let many : length (take s.placed c.as_slice.result.now) ≡ s.placed = ap (λ (us : List ℕ). length us) first ∙ length-take-le s.placed (order_of o) s.room in
    let l : i < s.placed = omega (arith, c.loop-latch-test.true, many) in
    let short = short_at (order_of o) s.table c.args.helpers s.placed i l s.room _ first (short_of s.task.now o s.placed s.table s.tabled) in
    elim c.if-contains.branch [
      | then-contains w ↦ (
        omega (arith, w.length-is, c.loop-latch.invariant.0, w.length.ensures, w.length-then-contains.ensures, short true, short false, three_times i),
        subst (Counted (order_of o) s.table c.args.helpers (i + 1)) (sym w.length-is)
            (counted_helped (order_of o) s.table c.args.helpers s.placed i l s.room _ first c.loop-latch.length w.length.result w.length-then-contains.result
            (sym w.if-contains.ensures) w.length.ensures w.length-then-contains.ensures c.loop-latch.invariant.1),
      )
      | else-contains w ↦ (
        omega (arith, w.length-is, c.loop-latch.invariant.0, three_times i),
        subst (Counted (order_of o) s.table c.args.helpers (i + 1)) (sym w.length-is)
            (counted_unhelped (order_of o) s.table c.args.helpers s.placed i l s.room _ first c.loop-latch.length (sym w.if-contains.ensures) c.loop-latch.invariant.1),
      )
    ]

pub returns-clause-counted : goal.returns-clause-counted
returns-clause-counted c v m helps =
    let s = c.args.self.now in
    let o = s.order.now in
    let first = ap (take s.placed) c.as_slice.ensures.items in
    let many : length (take s.placed c.as_slice.result.now) ≡ s.placed = ap (λ (us : List ℕ). length us) first ∙ length-take-le s.placed (order_of o) s.room in
    let all : c.loop-latch.latch-index ≡ s.placed = omega (arith, c.loop-latch-test.false, many) in
    subst (λ (i : ℕ). Counted (order_of o) s.table c.args.helpers i c.loop-latch.length) all c.loop-latch.invariant.1 _ v m _ helps
    (lengths_of s.task.now o s.placed s.table s.tabled)
