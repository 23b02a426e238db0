-- The task that a record stands for is well formed.
use Rattle.std.proofs.Common.{◌≡◌, ℕ, ◌<◌, true, cond, ◌≢◌, length, sym, ap, ◌∙◌, subst}
use mathlib.Core.Option.{some, none}
use Rattle.tables.specs.Items.{items}
use Rattle.words.specs.Sets.{has}
use Rattle.book.specs.declared.partial.PartialSetting.{PartialSetting}
use Rattle.theory.specs.Searches.{In}
use Rattle.theory.specs.Tasks.{any, Move, ask_for, ask_against, WellFormed}
use Rattle.tasks.specs.declared.task.NormalTask.{NormalTask}
use Rattle.tasks.specs.Asks.{ask_from, asks_of}
use Rattle.tasks.specs.Places.{no_move, move_at}
use Rattle.tasks.specs.Tasks.{move_of, moves_of, task_of}
use Rattle.tasks.proofs.Bridge.{asked_named, place_of}
use Rattle.tasks.proofs.NormalFormMoves.{for_opposite}

-- a latch that is named is asked to be where the ones say
named_asked : (p : PartialSetting) (u : ℕ) → has p.named u ≡ true → asks_of p u ≡ ask_for (has p.ones u)
named_asked p u e = ap (λ b. ask_from (cond b (some (has p.ones u)) none)) e

pub well_formed : (t : NormalTask) → WellFormed (task_of t)
well_formed t = record {
  latch_within = λ m i.
      let r = place m i in
      subst (λ (x : Move). x.latch < t.width) r.1.1 (t.own r.0 r.1.0);
  asks_within = λ m i u n.
      let r = place m i in
      t.within r.0 r.1.0 u
      (asked_named (move_at (items t.moves) r.0).asks u (subst (λ (x : Move). x.asks u ≢ any) (sym r.1.1) n));
  asks_own = λ m i.
      let r = place m i in
      subst (λ (x : Move). x.asks x.latch ≡ ask_against x.to) r.1.1 (own r.0 r.1.0);
  want_within = λ u n. t.wanted u (asked_named t.want u n);
}
  where
    place : (m : Move) → In (moves_of t) m → (k : ℕ) × ((k < length (items t.moves)) × (move_of (move_at (items t.moves) k) ≡ m))
    place m i = place_of move_of no_move (items t.moves) m i

    own :
        (k : ℕ) → k < length (items t.moves) →
        asks_of (move_at (items t.moves) k).asks (move_at (items t.moves) k).latch ≡ ask_against (move_at (items t.moves) k).to
    own k l =
        named_asked (move_at (items t.moves) k).asks (move_at (items t.moves) k).latch (t.asks_own k l)
        ∙ ap ask_for (t.opposite k l)
        ∙ for_opposite (move_at (items t.moves) k).to
