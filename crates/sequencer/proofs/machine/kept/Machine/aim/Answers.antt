use Rattle.std.proofs.Common.{◌≡◌, ℕ, ◌+◌, true, length, refl, sym, ap, ◌∙◌, subst, arith}
use Rattle.std.proofs.lemmas.Result.{err_from_is_err_and}
use Rattle.tasks.specs.Asks.{setting_of}
use Rattle.planner.specs.Routes.{moves_of}
use Rattle.runs.specs.declared.Answer.{Answer}
use Rattle.runs.specs.declared.Answer.TheVariants.{Found, Declined}
use Rattle.runs.specs.declared.Call.TheVariants.{Aim}
use Rattle.runs.specs.Calls.{found_or}
use Rattle.runs.specs.Model.{opened}
use Rattle.sequencer.specs.Machines.{Does}
use Rattle.sequencer.specs.States.{more?}
use Rattle.sequencer.proofs.Resting.{aim_rests, rests, aim_declined, aim_found, route_own, opened_run}
use Rattle.sequencer.proofs.machine.kept.Machine.aim.Goals as goal

pub returns-in_err-route-clause-does : goal.returns-in_err-route-clause-does
returns-in_err-route-clause-does c s w =
    let p = err_from_is_err_and c.from_residual-in_err-route.result c.from_residual-in_err-route.ensures.1 in
    let m = c.args.self.now in
    let idle = aim_rests m.state _ _ _ c.in_ok-admit.ensures in
    subst (λ (a : Answer). Does s (Aim c.args.named c.args.wanted) m m a) (sym (ap found_or p.1 ∙ ap Declined p.2))
    (rests m m idle s _ _
    (aim_declined m.book c.args.shown s w c.if-shown-self.false c.args.named c.args.wanted _ c.in_err-route.ensures.answer) (rw idle refl))

pub invariant_of-self : goal.invariant_of-self
invariant_of-self c =
    let ks = moves_of c.in_ok-route.route in
    let all : 0 + c.length-length.result ≡ length ks = omega (arith, c.length-length.ensures) in
    record {
      more = subst (λ (n : ℕ). more? c.onward-self.result n ≡ true) all c.onward-self.ensures.more;
      own =
          route_own c.args.self.now.book (setting_of c.args.self.now.book.latches c.args.shown.raised) c.args.named c.args.wanted
          c.in_ok-route.route c.in_ok-route.ensures.says;
    }

pub returns-clause-does : goal.returns-clause-does
returns-clause-does c s w =
    let m = c.args.self.now in
    let ks = moves_of c.in_ok-route.route in
    let found = aim_found m.book c.args.shown s w c.if-shown-self.false c.args.named c.args.wanted c.in_ok-route.route c.in_ok-route.ensures.answer in
    rests m _ (aim_rests m.state _ _ _ c.in_ok-admit.ensures) s _ _
    (found.0 ∙ ap Found (sym c.length-length.ensures))
    (c.onward-self.ensures.progress ks ∙ sym (opened_run ks c.length-length.result) ∙ ap (λ js. opened js (Found c.length-length.result)) found.1)
