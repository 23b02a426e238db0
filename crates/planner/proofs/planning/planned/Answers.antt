use Rattle.std.proofs.Common.{sym, ap, ◌∙◌}
use Rattle.theory.specs.Class.{in_class?}
use Rattle.theory.specs.Route.{no_way?}
use Rattle.theory.specs.Route as routes
use Rattle.theory.specs.Tasks.{Task}
use Rattle.tasks.specs.declared.task.NormalTask.{NormalTask}
use Rattle.tasks.specs.Asks.{rules_of, setting_of}
use Rattle.tasks.specs.Tasks.{task_of}
use Rattle.tasks.proofs.Bridge.{book_within, setting_length}
use Rattle.planner.specs.Made.{numbers}
use Rattle.planner.proofs.Judging.{first_misnamed, then_outside, then_no_way, then_route}
use Rattle.planner.proofs.planning.planned.Goals as goal

pub returns-in_default : goal.returns-in_default
returns-in_default c =
    let b = c.args.book.now in
    first_misnamed (rules_of b) (book_within b) (setting_of b.latches c.args.start) (setting_length b.latches c.args.start) c.args.named c.args.wanted
    c.in_default.ensures _ _

pub returns-then-not-is_in_class : goal.returns-then-not-is_in_class
returns-then-not-is_in_class c =
    let b = c.args.book.now in
    let new = c.in-Some.ensures in
    then_outside (rules_of b) (book_within b) (setting_of b.latches c.args.start) (setting_length b.latches c.args.start) c.args.named c.args.wanted
    new.0 _ _ (ap in_class? (sym new.1) ∙ sym c.if-not-is_in_class.ensures)

pub returns-then-is_no_way : goal.returns-then-is_no_way
returns-then-is_no_way c =
    let b = c.args.book.now in
    let new = c.in-Some.ensures in
    then_no_way (rules_of b) (book_within b) (setting_of b.latches c.args.start) (setting_length b.latches c.args.start) c.args.named c.args.wanted
    new.0 _ _ (ap in_class? (sym new.1) ∙ sym c.if-not-is_in_class.ensures)
    (ap no_way? (sym new.1) ∙ ap (λ (t : NormalTask). no_way? (task_of t)) (sym c.of-recipes.ensures) ∙ sym c.if-is_no_way.ensures)

pub returns : goal.returns
returns c =
    let b = c.args.book.now in
    let new = c.in-Some.ensures in (
      then_route (rules_of b) (book_within b) (setting_of b.latches c.args.start) (setting_length b.latches c.args.start) c.args.named c.args.wanted
          new.0 _ _ (ap in_class? (sym new.1) ∙ sym c.if-not-is_in_class.ensures)
          (ap no_way? (sym new.1) ∙ ap (λ (t : NormalTask). no_way? (task_of t)) (sym c.of-recipes.ensures) ∙ sym c.if-is_no_way.ensures),
      c.of.ensures ∙ ap (λ (t : NormalTask). numbers (routes.route (task_of t))) c.of-recipes.ensures ∙ ap (λ (t : Task). numbers (routes.route t)) new.1,
    )
