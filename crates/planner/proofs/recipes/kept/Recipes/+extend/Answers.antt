use Rattle.std.proofs.Common.{◌≡◌, ℕ, ◌+◌, ◌<◌, ◌≤◌, Bool, true, false, not, ◌&&◌, is_some, sym, ap, ◌∙◌, subst, arith, length}
use Rattle.words.specs.declared.LatchSet.{LatchSet}
use Rattle.words.specs.Sets.{has}
use Rattle.theory.specs.Tasks.{asks?}
use Rattle.theory.specs.Class.{side?, splitting?}
use Rattle.tasks.specs.Asks.{asks_of}
use Rattle.tasks.specs.Tasks.{task_of}
use Rattle.planner.specs.declared.recipes.kept.Recipes.{Recipes}
use Rattle.tables.specs.Items.{items}
use Rattle.planner.specs.Laid.{rest, size}
use Rattle.planner.specs.Made.{latch_at}
use Rattle.planner.specs.RecipesKept.{kept_in?}
use Rattle.planner.proofs.Extending.{extends_empty, extends_end, extends_out, extends_plain, extends_split, size_others, size_sides}
use Rattle.planner.proofs.Rests.{latch_within}
use Rattle.planner.specs.Orders.{order_of}
use Rattle.planner.proofs.recipes.kept.Recipes.+extend.Goals as goal
use Rattle.planner.proofs.recipes.kept.Recipes.+extend.Goals.{then-is_empty-via-then-is_empty, then-is_empty-via-else-is_empty+then-from-len, then-kept, else-kept, After-difference-2}

pub returns-then-is_empty : goal.returns-then-is_empty
returns-then-is_empty t c =
    elim c.then-is_empty.branch [
      | then-is_empty-via-then-is_empty w ↦ extends_empty c.args.self.now c.args.set c.args.from (items c.args.entries.now) (c.is_empty.ensures.0 w.if-is_empty.true)
      | then-is_empty-via-else-is_empty+then-from-len w ↦ extends_end c.args.self.now c.args.set c.args.from (items c.args.entries.now) (omega (arith, w.if-from-len.true, w.len.ensures))
    ]

pub returns-then-not-contains : goal.returns-then-not-contains
returns-then-not-contains t c =
    extends_out c.args.self.now c.args.set c.args.from (omega (arith, c.if-from-len.false, c.len.ensures)) c.latch-latch.result c.latch-latch.ensures (items c.args.entries.now) _ (sym c.if-not-contains.ensures) c.extend.ensures

-- whether the latch at a place is splitting
splits : (s : Recipes) (i : ℕ) → i < length (order_of s.order) → (v : ℕ) → v ≡ latch_at s.order i → (b : Bool) → b ≡ has s.splitting v → splitting? (task_of s.task) v ≡ b
splits s i l v at b e = sym (e ∙ s.splits v (subst (λ (w : ℕ). w < s.task.width) (sym at) (latch_within s.order s.task s.orders i l)))

pub extend-requires-then-not-contains-2 : goal.extend-requires-then-not-contains-2
extend-requires-then-not-contains-2 t c =
    let more =
    size_others c.args.self.now c.args.set c.args.from (omega (arith, c.if-from-len.false, c.len.ensures)) c.latch-latch.result c.latch-latch.ensures (sym c.if-not-contains.ensures) c.without-others.result
    c.without-others.ensures in
    (omega (arith, c.decreases, c.if-from-len.false, c.len.ensures), (omega (arith, c.if-from-len.false, c.len.ensures), omega (arith, c.requires.1)))

pub push_if-requires : goal.push_if-requires
push_if-requires t c =
    omega (
      arith,
      c.requires.1,
      c.extend-then-not-contains-2.ensures.room,
      size_others c.args.self.now c.args.set c.args.from (omega (arith, c.if-from-len.false, c.len.ensures)) c.latch-latch.result c.latch-latch.ensures (sym c.if-not-contains.ensures)
          c.without-others.result c.without-others.ensures,
    )

pub returns-then-not-contains-2 : goal.returns-then-not-contains-2
returns-then-not-contains-2 t c =
    let s = c.args.self.now in
    extends_plain s c.args.set c.args.from (omega (arith, c.if-from-len.false, c.len.ensures)) c.latch-latch.result c.latch-latch.ensures (sym c.if-not-contains.ensures) c.without-others.result
    c.without-others.ensures (items c.args.entries.now) _ _ _ (splits s c.args.from (omega (arith, c.if-from-len.false, c.len.ensures)) c.latch-latch.result c.latch-latch.ensures false c.if-not-contains-2.ensures)
    c.is_asked.ensures c.extend-then-not-contains-2.ensures c.push_if.ensures

-- the others on a side
on : (s : Recipes) (x : Bool) (v : ℕ) (others side set : LatchSet) → ((j : ℕ) → has set j ≡ (has others j && has side j)) →
    ((u : ℕ) → has side u ≡ side? (task_of s.task) x v u) → (j : ℕ) → has set j ≡ (has others j && side? (task_of s.task) x v j)
on s x v others side set both sides j = both j ∙ ap (λ (b : Bool). has others j && b) (sides j)

-- on neither
off : (others zero one some neither : LatchSet) → ((j : ℕ) → has some j ≡ (has others j && not (has zero j))) →
    ((j : ℕ) → has neither j ≡ (has some j && not (has one j))) → (j : ℕ) → has neither j ≡ ((has others j && not (has zero j)) && not (has one j))
off others zero one some neither a b j = b j ∙ ap (λ (x : Bool). x && not (has one j)) (a j)

-- how many latches are left, with a splitting latch first
abbrev Sizes : (s : Recipes) (set others neither zero one : LatchSet) (i : ℕ) → Type 0
Sizes s set others neither zero one i =
    (size (has set) (rest s.order i) ≡ 1 + size (has others) (rest s.order (i + 1)))
    × (size (has neither) (rest s.order (i + 1)) + (size (has zero) (rest s.order (i + 1)) + size (has one) (rest s.order (i + 1)))
    ≤ size (has others) (rest s.order (i + 1)))

sizes : (t : ℕ) (c : After-difference-2 t) →
    Sizes c.args.self.now c.args.set c.without-others.result c.difference-2.result c.intersection-zero.result c.intersection-one.result c.args.from
sizes t c =
    let s = c.args.self.now in
    let l : c.args.from < length (order_of c.args.self.now.order) = omega (arith, c.if-from-len.false, c.len.ensures) in
    let inside = sym c.if-not-contains.ensures in
    let others = c.without-others.result in
    let v = c.latch-latch.result in (
      size_others s c.args.set c.args.from l c.latch-latch.result c.latch-latch.ensures inside others c.without-others.ensures,
      size_sides s c.args.set c.args.from l c.latch-latch.result c.latch-latch.ensures inside others c.without-others.ensures c.intersection-zero.result c.intersection-one.result c.difference-2.result
          (splits s c.args.from l c.latch-latch.result c.latch-latch.ensures true c.if-not-contains-2.ensures)
          (on s false v others c.side.result c.intersection-zero.result c.intersection-zero.ensures c.side.ensures)
          (on s true v others c.side-2.result c.intersection-one.result c.intersection-one.ensures c.side-2.ensures)
          (off others c.intersection-zero.result c.intersection-one.result c.difference.result c.difference-2.result c.difference.ensures c.difference-2.ensures),
    )

pub extend-requires-2 : goal.extend-requires-2
extend-requires-2 t c =
    let z = sizes t c in
    let l : c.args.from < length (order_of c.args.self.now.order) = omega (arith, c.if-from-len.false, c.len.ensures) in
    (omega (arith, c.decreases), (omega arith, omega (arith, c.requires.1, z.0, z.1)))

pub extend-requires-3 : goal.extend-requires-3
extend-requires-3 t c =
    let z = sizes t (goal.at.extend-requires-3 t c).After-difference-2 in
    let l : c.args.from < length (order_of c.args.self.now.order) = omega (arith, c.if-from-len.false, c.len.ensures) in
    (omega (arith, c.decreases), (omega arith, omega (arith, c.requires.1, c.extend-2.ensures.room, z.0, z.1)))

pub push_if-requires-2 : goal.push_if-requires-2
push_if-requires-2 t c =
    let z = sizes t (goal.at.push_if-requires-2 t c).After-difference-2 in
    omega (arith, c.requires.1, c.extend-2.ensures.room, c.extend-3.ensures.room, z.0, z.1)

pub extend-requires-4 : goal.extend-requires-4
extend-requires-4 t c =
    let z = sizes t (goal.at.extend-requires-4 t c).After-difference-2 in
    let l : c.args.from < length (order_of c.args.self.now.order) = omega (arith, c.if-from-len.false, c.len.ensures) in
    (omega (arith, c.decreases), (omega arith, omega (arith, c.requires.1, c.extend-2.ensures.room, c.extend-3.ensures.room, c.push_if-2.ensures.room, z.0, z.1)))

pub push_if-requires-3 : goal.push_if-requires-3
push_if-requires-3 t c =
    let z = sizes t (goal.at.push_if-requires-3 t c).After-difference-2 in
    omega (arith, c.requires.1, c.extend-2.ensures.room, c.extend-3.ensures.room, c.push_if-2.ensures.room, c.extend-4.ensures.room, z.0, z.1)

pub returns : goal.returns
returns t c =
    let s = c.args.self.now in
    let l : c.args.from < length (order_of c.args.self.now.order) = omega (arith, c.if-from-len.false, c.len.ensures) in
    let v = c.latch-latch.result in
    let others = c.without-others.result in
    let kept : c.is_some-kept.result ≡ kept_in? true s.table v = c.is_some-kept.ensures ∙ ap is_some c.recipe.ensures in
    let back : c.if-kept.push_if ≡ (c.is_some-kept.result && asks? false (asks_of s.task.want v)) =
    elim c.if-kept.branch [
      | then-kept w ↦ w.push_if-is ∙ w.is_asked-then-kept.ensures ∙ ap (λ (b : Bool). b && asks? false (asks_of s.task.want v)) (sym w.if-kept.true)
      | else-kept w ↦ w.push_if-is ∙ w.if-kept.false ∙ ap (λ (b : Bool). b && asks? false (asks_of s.task.want v)) (sym w.if-kept.false)
    ] in
    extends_split s c.args.set c.args.from l c.latch-latch.result c.latch-latch.ensures (sym c.if-not-contains.ensures) others c.without-others.ensures c.intersection-zero.result
    c.intersection-one.result c.difference-2.result (splits s c.args.from l c.latch-latch.result c.latch-latch.ensures true c.if-not-contains-2.ensures)
    (on s false v others c.side.result c.intersection-zero.result c.intersection-zero.ensures c.side.ensures)
    (on s true v others c.side-2.result c.intersection-one.result c.intersection-one.ensures c.side-2.ensures)
    (off others c.intersection-zero.result c.intersection-one.result c.difference.result c.difference-2.result c.difference.ensures c.difference-2.ensures)
    (items c.args.entries.now) _ _ _ _ _ _ _ (kept ∙ s.members true v) back c.extend-2.ensures c.extend-3.ensures c.push_if-2.ensures
    c.extend-4.ensures c.push_if-3.ensures
