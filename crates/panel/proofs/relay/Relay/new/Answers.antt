use Rattle.std.proofs.Common.{◌≡◌, ℕ, ◌<◌, false, replicate, ap, ◌∙◌, arith, rules}
use Rattle.words.specs.Bit.{set?}
use Rattle.panel.specs.Settings.{row}
use Rattle.panel.specs.Kinds.{resting, coils_at}
use Rattle.panel.proofs.Filled.{filled}
use Rattle.panel.proofs.Pulses.{positions_resting, counts_resting}
use Rattle.panel.proofs.relay.Relay.new.Goals as goal

-- each latch that there is has its coils at its position
at_rest : (c : goal.After-from_fn) (j : ℕ) → j < c.clamped.result.count → coils_at c.from_fn.result j ≡ resting (set? c.args.positions j)
at_rest c j l = filled _ _ (λ k y. y ≡ resting (set? c.args.positions k)) (λ k y q e. search rules) c.from_fn.result 0 32 c.from_fn.ensures.items.each j (omega arith) (omega arith) (resting false)

pub returns : goal.returns
returns c = record {
  setting = positions_resting c.from_fn.result (set? c.args.positions) c.clamped.result.count (at_rest c) ∙ ap (λ (n : ℕ). row n (set? c.args.positions)) c.clamped.ensures;
  pulses = counts_resting c.from_fn.result (set? c.args.positions) c.clamped.result.count (at_rest c) ∙ ap (λ (n : ℕ). replicate n 0) c.clamped.ensures;
}
