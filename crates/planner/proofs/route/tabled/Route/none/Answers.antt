use Rattle.std.proofs.Common.{◌≡◌, true, [], refl, ap, ◌∙◌}
use Rattle.book.specs.Settings.{nothing_asked}
use Rattle.theory.specs.Class.{acyclic?, in_class?}
use Rattle.theory.specs.Order.{placing, latest_first, order}
use Rattle.theory.specs.Route.{set_route, entries, route}
use Rattle.theory.specs.Tasks.{Task}
use Rattle.tasks.specs.declared.task.NormalTask.{NormalTask}
use Rattle.tasks.specs.Asks.{asks_of}
use Rattle.tasks.specs.Tasks.{task_of}
use Rattle.planner.specs.Made.{numbers}
use Rattle.planner.proofs.route.tabled.Route.none.Goals as goal

-- the task of a book with no latch
abbrev blank : Task
blank = record { width = 0; moves = []; want = asks_of nothing_asked }

blank_in_class : in_class? blank ≡ true
unfolding in_class? acyclic?
blank_in_class = refl

blank_route : route blank ≡ []
unfolding route entries order latest_first placing set_route
blank_route = refl

pub of-requires-2 : goal.of-requires-2
of-requires-2 c = ap (λ (t : NormalTask). in_class? (task_of t)) c.of.ensures ∙ ap in_class? c.blank.ensures ∙ blank_in_class

pub returns : goal.returns
returns c =
    c.of-2.ensures ∙ ap (λ (t : NormalTask). numbers (route (task_of t))) c.of.ensures ∙ ap (λ (t : Task). numbers (route t)) c.blank.ensures
    ∙ ap numbers blank_route
