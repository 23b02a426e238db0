use Rattle.std.proofs.Common.{ℕ, true, false}
use Rattle.panel.specs.Settings.{digit}
use Rattle.panel.specs.Kinds.{up?, coils_at}
use Rattle.panel.proofs.Rows.{read_row}
use Rattle.panel.proofs.relay.Relay.coils_of.Goals as goal

pub returns-then-not-has : goal.returns-then-not-has
returns-then-not-has c =
    let p = c.args.self.now in (
      read_row p.width.count (λ (i : ℕ). up? (coils_at p.coils i).last) digit c.args.latch false false c.if-not-has.ensures.below,
      read_row p.width.count (λ (i : ℕ). (coils_at p.coils i).pulses) (λ (k : ℕ). k) c.args.latch 0 false c.if-not-has.ensures.below,
    )

pub returns : goal.returns
returns c =
    let p = c.args.self.now in (
      read_row p.width.count (λ (i : ℕ). up? (coils_at p.coils i).last) digit c.args.latch false true c.if-not-has.ensures.below,
      read_row p.width.count (λ (i : ℕ). (coils_at p.coils i).pulses) (λ (k : ℕ). k) c.args.latch 0 true c.if-not-has.ensures.below,
    )
