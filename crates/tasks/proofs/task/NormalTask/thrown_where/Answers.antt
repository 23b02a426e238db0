use Rattle.std.proofs.Common.{◌≡◌, Bool, ◌&&◌, eqb, ltb, refl, arith, rules, tests}
use denote.Ref.{Bor}
use Rattle.tasks.specs.declared.task.NormalMove.{NormalMove}
use Rattle.words.specs.Sets.{most_latches}
use Rattle.tasks.specs.Tasks.{move_of}
use Rattle.tasks.proofs.Chains.{gathered, throws}
use Rattle.tasks.proofs.task.NormalTask.thrown_where.Goals as goal

pub returns : goal.returns
returns g c test told u =
    let t = c.args.self.now in
    let says : (y : Bor NormalMove) (b : Bool) → g.F.Fn.post c.args.passes (y, tt) b → b ≡ test (move_of y.now) =
    λ y b k. told y.now b (record { shown = y; shows = refl; says = record { met = k } }) in
    let h = gathered t (λ m u. test (move_of m) && (eqb u m.latch && ltb m.latch most_latches)) (λ u m. eqb m.latch u && test m)
    (λ u m i. throws t m u _ _ i refl) (cc) (λ a x b q k. search (rules, tests, says)) c.fold.ensures.ran u in
    grind (arith, c.without.ensures u, h)
