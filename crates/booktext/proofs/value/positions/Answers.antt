use Rattle.std.proofs.Common.{◌≡◌, ◌<◌, ◌≤◌, Bool, List, get_or, sym, ap, subst, arith}
use Rattle.words.specs.declared.LatchSet.{LatchSet}
use Rattle.format.specs.Values.{positions}
use Rattle.format.proofs.StartSaid.{Placed, wrong_count, no_positions, nothing_below, placed_zero, placed_one, placed_below, start_turn, start_done}
use Rattle.booktext.proofs.value.positions.Goals as goal
use Rattle.booktext.proofs.value.positions.Goals.{in-48, in-49}

pub returns-then-v-n-clause-told : goal.returns-then-v-n-clause-told
returns-then-v-n-clause-told c = wrong_count c.args.n c.args.v.now c.if-v-n.true

pub loop-i-init : goal.loop-i-init
loop-i-init c = (ap (λ (z : List Bool). positions c.args.n z c.args.v.now) no_positions, nothing_below)

pub loop-i-preserved : goal.loop-i-preserved
loop-i-preserved c =
    let i = c.loop-i.i in
    let b = get_or c.args.v.now i 0 in
    let l : i < 32 = omega (arith, c.if-v-n.false, c.requires, c.loop-i-test.true) in
    let digit : (48 ≤ b) × (b ≤ 49) =
    elim c.match-b.branch [
      | in-48 w ↦ (omega (arith, w.in-48.is), omega (arith, w.in-48.is))
      | in-49 w ↦ (omega (arith, w.in-49.is), omega (arith, w.in-49.is))
    ] in
    let placed : Placed i c.loop-i.ones c.match-b.ones b =
    elim c.match-b.branch [
      | in-48 w ↦
          subst (λ (u : LatchSet). Placed i c.loop-i.ones u b) (sym w.ones-is) (placed_zero i c.loop-i.ones b c.loop-i.invariant.1 w.in-48.is)
      | in-49 w ↦
          subst (λ (u : LatchSet). Placed i c.loop-i.ones u b) (sym w.ones-is) (placed_one i c.loop-i.ones _ b l w.in-49.is w.with-ones.ensures)
    ] in (
      start_turn c.args.n i c.loop-i.ones c.args.v.now c.loop-i-test.true c.loop-i.invariant.0 c.match-b.ones digit.0 digit.1 placed,
      placed_below i c.loop-i.ones c.match-b.ones b c.loop-i.invariant.1 placed,
    )

pub returns-clause-told : goal.returns-clause-told
returns-clause-told c =
    let e : c.loop-i.i ≡ c.args.n = omega (arith, c.if-v-n.false) in
    start_done c.args.n c.loop-i.i c.loop-i.ones c.args.v.now e c.loop-i-test.false c.loop-i.invariant.0
