use Rattle.std.proofs.Common.{ap, ◌∙◌, arith}
use Rattle.tables.specs.Items.{items}
use Rattle.tasks.proofs.NormalFormTasks.{Brought, Read, book_read, turn_dropped, turn_kept, all_brought, brought_task, brought_well, place_own, place_within, place_asks_own, place_wanted}
use Rattle.tasks.proofs.normal.normal_task.Goals as goal
use Rattle.tasks.proofs.normal.normal_task.Goals.{After-m-item, After-normal_asks, in-Some, in_default}

-- the move of this turn stands in the book
read : (c : After-m-item) → Read c.args.book.now c.loop-number.number c.m-item.result
read c = book_read c.args.book.now c.moves-m-items.result.now c.loop-number.number c.m-item.result c.moves-m-items.ensures c.loop-number-test.true c.m-item.is

pub loop-number-preserved : goal.loop-number-preserved
loop-number-preserved c =
    let l = c.loop-number in
    let here = read (goal.at.loop-number-preserved c).After-m-item in
    elim c.match-normal_move.branch [
      | in-Some w ↦
          turn_kept c.args.book.now c.args.start l.number (items l.moves) l.invariant c.m-item.result here _ _ w.in-Some.normal
          (ap items w.moves-is ∙ w.push.ensures.room (omega (arith, l.invariant.fewer, here.0, c.args.book.now.room))) (omega (arith, here.0, c.args.book.now.room)) w.in-Some.ensures.0 w.in-Some.ensures.1
      | in_default w ↦
          turn_dropped c.args.book.now c.args.start l.number (items l.moves) l.invariant c.m-item.result here _ (ap items w.moves-is)
          w.in_default.ensures
    ]

-- all moves are brought to normal form
all : (c : After-normal_asks) → Brought c.args.book.now c.args.start c.args.book.now.count (items c.loop-number.moves)
all c =
    let l = c.loop-number in
    all_brought c.args.book.now c.args.start l.number (items l.moves) l.invariant c.moves-m-items.result.now c.moves-m-items.ensures c.loop-number-test.false l.auto.number-end

pub invariant_of-result : goal.invariant_of-result
invariant_of-result c =
    let b = c.args.book.now in
    let moves = items c.loop-number.moves in
    let well = brought_well b c.args.start c.args.want c.normal_asks.result moves (all (goal.at.invariant_of-result c).After-normal_asks) c.requires c.normal_asks.ensures in
    record {
      narrow = b.few;
      own = place_own b.latches moves c.normal_asks.result well;
      within = place_within b.latches moves c.normal_asks.result well;
      asks_own = λ k h. (place_asks_own b.latches moves c.normal_asks.result well k h).0;
      opposite = λ k h. (place_asks_own b.latches moves c.normal_asks.result well k h).1;
      wanted = place_wanted b.latches moves c.normal_asks.result well;
    }

pub returns : goal.returns
returns c =
    brought_task c.args.book.now c.args.start c.args.want c.normal_asks.result (items c.loop-number.moves)
    (all (goal.at.returns c).After-normal_asks) c.requires c.normal_asks.ensures
