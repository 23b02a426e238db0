use Rattle.std.proofs.Common.{Bool, false, not, ◌&&◌, get_or, sym, ap, ◌∙◌}
use mathlib.Core.Bool.{beq}
use Rattle.theory.specs.Searches.{all_below}
use Rattle.runs.specs.Deciding.{met?}
use Rattle.tasks.specs.Asks.{asks_of}
use Rattle.sequencer.proofs.machine.is_legal.Goals as goal

pub returns-then-contains-m : goal.returns-then-contains-m
returns-then-contains-m c rules s up below =
    let m = c.args.m.now in
    c.holds.ensures rules.latches s up below
    ∙ ap (λ (b : Bool). b && all_below (λ u. met? (asks_of m.when u) (get_or s u false)) rules.latches)
    (sym (ap (λ (b : Bool). not (beq b m.to)) (sym (c.contains.ensures ∙ up m.latch)) ∙ c.if-contains-m.true))
