use Rattle.tasks.specs.Asks.{rules_of, setting_of}
use Rattle.tasks.proofs.Bridge.{book_within, setting_length}
use Rattle.planner.proofs.Judging.{says_so}
use Rattle.planner.proofs.planning.plan.Goals as goal

pub returns-clause-says : goal.returns-clause-says
returns-clause-says c =
    let b = c.args.book.now in
    says_so (rules_of b) (book_within b) (setting_of b.latches c.args.start) (setting_length b.latches c.args.start) c.args.named c.args.wanted _
    c.planned.ensures
