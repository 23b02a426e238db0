use Rattle.std.proofs.Common.{◌≡◌, ℕ, ◌<◌, length, sym, refl, ap, ◌∙◌, arith}
use Rattle.std.proofs.lemmas.Bool.{ltb-true}
use Rattle.panel.specs.declared.relay.Coil.{Coil}
use Rattle.panel.specs.Kinds.{coil_at, up?, pulsed, coils_at}
use Rattle.panel.proofs.Rows.{set_row_past}
use Rattle.panel.proofs.Pulses.{positions_pulsed, counts_pulsed}
use Rattle.panel.proofs.relay.Relay.pulse.Goals as goal

pub returns-then-has : goal.returns-then-has
returns-then-has c =
    let p = c.args.self.now in
    let i = c.args.latch in
    let l : i < length p.coils = omega (arith, ltb-true i p.width.count (sym c.if-has.ensures.below)) in
    let e : c.pulsed.result ≡ pulsed (coils_at p.coils i) (coil_at c.args.to) =
    c.pulsed.ensures ∙ ap (λ (x : Coil). pulsed (coils_at p.coils i) x) c.from.ensures in
    record {
      setting = positions_pulsed p.coils i c.args.to c.pulsed.result l e p.width.count;
      counts = counts_pulsed p.coils i c.args.to c.pulsed.result l e p.width.count;
      width = refl;
    }

pub returns-else-has : goal.returns-else-has
returns-else-has c =
    let p = c.args.self.now in
    record {
      setting = set_row_past p.width.count (λ (i : ℕ). up? (coils_at p.coils i).last) c.args.latch c.args.to c.if-has.ensures.below;
      counts = set_row_past p.width.count (λ (i : ℕ). (coils_at p.coils i).pulses) c.args.latch _ c.if-has.ensures.below;
      width = refl;
    }
