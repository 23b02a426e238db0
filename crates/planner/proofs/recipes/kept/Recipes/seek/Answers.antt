use Rattle.std.proofs.Common.{◌≡◌, ℕ, ◌<◌, true, false, length, get_or, sym, ap, ◌∙◌, subst, arith}
use Rattle.words.specs.Sets.{has}
use Rattle.planner.specs.Lookup.{nth, in_turn}
use Rattle.planner.specs.Made.{recipe_numbers, latch_at}
use Rattle.planner.proofs.Seeking.{turns, turn_over, turn_inside, turn_behind}
use Rattle.planner.proofs.recipes.kept.Recipes.seek.Goals as goal
use Rattle.planner.proofs.recipes.kept.Recipes.seek.Goals.{then-contains+else-rest-length, else-contains}

pub returns-then-rest-length : goal.returns-then-rest-length
returns-then-rest-length c =
    let s = c.args.self.now in
    let x = c.args.to in
    let k = c.loop-turn.turn in
    let vs = in_turn s.order x c.args.placed in
    let u = latch_at s.order c.place_at-place.result in
    let same : u ≡ get_or vs k 0 = c.place_at-place.ensures.latch in
    let inside : c.loop-turn.rest < length (recipe_numbers s.task x u) = omega (arith, c.if-rest-length.true, c.length_at-length.ensures) in
    let below : k < length vs = omega (arith, turns s.order c.args.placed c.requires x, c.loop-turn-test.true) in
    record {
      before = c.place_at-place.ensures.before;
      inside = inside;
      same = λ ys.
          c.loop-turn.invariant ys
          ∙ turn_inside s.task x c.args.helpers vs k below ys c.loop-turn.rest
          (subst (λ (v : ℕ). has c.args.helpers v ≡ true) same (sym (c.if-contains.ensures ∙ ap (has c.args.helpers) c.latch.ensures)))
          (subst (λ (v : ℕ). c.loop-turn.rest < length (recipe_numbers s.task x v)) same inside)
          ∙ ap (λ (v : ℕ). nth (recipe_numbers s.task x v) c.loop-turn.rest) (sym same);
    }

pub loop-turn-preserved : goal.loop-turn-preserved
loop-turn-preserved c =
    let s = c.args.self.now in
    let x = c.args.to in
    let k = c.loop-turn.turn in
    let vs = in_turn s.order x c.args.placed in
    let u = latch_at s.order c.place_at-place.result in
    let same : u ≡ get_or vs k 0 = c.place_at-place.ensures.latch in
    let below : k < length vs = omega (arith, turns s.order c.args.placed c.requires x, c.loop-turn-test.true) in
    elim c.if-contains.branch [
      | then-contains+else-rest-length w ↦ λ ys.
          c.loop-turn.invariant ys
          ∙ turn_behind s.task x c.args.helpers vs k below ys c.loop-turn.rest w.length_at-length.result c.if-contains.rest
          (subst (λ (v : ℕ). has c.args.helpers v ≡ true) same (sym (w.if-contains.ensures ∙ ap (has c.args.helpers) c.latch.ensures)))
          (subst (λ (v : ℕ). w.length_at-length.result ≡ length (recipe_numbers s.task x v)) same w.length_at-length.ensures) w.if-rest-length.false w.rest-is
      | else-contains w ↦ λ ys.
          c.loop-turn.invariant ys
          ∙ turn_over s.task x c.args.helpers vs k below ys c.loop-turn.rest
          (subst (λ (v : ℕ). has c.args.helpers v ≡ false) same (sym (w.if-contains.ensures ∙ ap (has c.args.helpers) c.latch.ensures)))
          ∙ ap (nth _) (sym w.rest-is)
    ]
