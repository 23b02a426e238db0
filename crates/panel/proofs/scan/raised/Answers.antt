use Rattle.std.proofs.Common.{◌<◌, false, length, get_or, ap, ◌∙◌, arith}
use Rattle.std.proofs.lemmas.List.{take_all}
use Rattle.words.specs.declared.LatchSet.{LatchSet}
use Rattle.words.specs.Sets.{has}
use Rattle.panel.proofs.Fronts.{looked_within, front_up, front_down}
use Rattle.panel.proofs.scan.raised.Goals as goal
use Rattle.panel.proofs.scan.raised.Goals.{then-is_one, else-is_one}

pub loop-latch-preserved : goal.loop-latch-preserved
loop-latch-preserved g c =
    let s = g.P.Panel.setting c.args.panel.now in
    let i = c.loop-latch.latch in
    let h : i < length s = omega (arith, c.width-latch-end.ensures) in
    let shown = c.look.ensures ∙ looked_within s i h in
    elim c.if-is_one.branch [
      | then-is_one w ↦
          λ j.
          ap (λ (x : LatchSet). has x j) w.latches-is
          ∙ front_up s i h c.loop-latch.latches c.loop-latch.invariant w.with-latches.result
          (omega (arith, g.met.P.Panel.few c.args.panel.now)) (w.if-is_one.ensures (get_or s i false) shown) w.with-latches.ensures j
      | else-is_one w ↦
          λ j.
          ap (λ (x : LatchSet). has x j) w.latches-is
          ∙ front_down s i h c.loop-latch.latches c.loop-latch.invariant (w.if-is_one.ensures (get_or s i false) shown) j
    ]

pub returns : goal.returns
returns g c =
    let s = g.P.Panel.setting c.args.panel.now in
    λ j. rw (take_all c.loop-latch.latch s (omega (arith, c.width-latch-end.ensures))) at (c.loop-latch.invariant j)
