use Rattle.std.proofs.Common.{eqb, length, sym, ap, arith, rules, tests, refl}
use Rattle.std.proofs.lemmas.Bool.{eqb-true, eqb-false}
use Rattle.std.proofs.lemmas.List.{length_push}
use Rattle.std.proofs.lemmas.Iterator.Consumers.{YieldsList-turn, YieldsList-end}
use Rattle.std.proofs.lemmas.Iterator.Splits.{YieldsList-from_slice_split}
use Rattle.std.proofs.lemmas.Result.{err_from_is_err_and}
use Rattle.words.proofs.Members.{no_member}
use Rattle.book.specs.declared.partial.PartialSetting.{PartialSetting}
use Rattle.format.specs.Said.{items_of}
use Rattle.format.specs.Bytes.{parts}
use Rattle.format.specs.Values.{item_list}
use Rattle.format.proofs.Itemizing.{no_list, part_wrong, parts_are}
use Rattle.booktext.proofs.Wanted.{read_none, read_within, read_next, read_all, read_below}
use Rattle.booktext.proofs.names.Names.items.Goals as goal

pub returns-then-is_empty-clause-means : goal.returns-then-is_empty-clause-means
returns-then-is_empty-clause-means c = no_list c.args.self.now c.args.v.now _ no_member (eqb-true _ 0 (sym c.if-is_empty.ensures))

pub loop-piece-init : goal.loop-piece-init
loop-piece-init c = read_none c.args.self.now c.args.v.now (omega (arith, eqb-false _ 0 (sym c.if-is_empty.ensures)))

pub returns-in_err-x-clause-means : goal.returns-in_err-x-clause-means
returns-in_err-x-clause-means c =
    let t = YieldsList-turn (YieldsList-from_slice_split _ (λ b. eqb b 32) c.args.v.now (cc) (cc) (cc) (λ x b q k. search (rules, tests))) c.loop-piece.yielded _ c.loop-piece.yielded_by _ _ c.in-Some.piece c.in-Some.is c.next.ensures.steps in
    let u = rw (parts_are 32 c.args.v.now) at t in
    let p = err_from_is_err_and c.from_residual.result c.from_residual.ensures.1 in
    rw (p.1, p.2)
    (part_wrong c.args.self.now c.loop-piece.low (items_of c.loop-piece.invariant.p) (parts 32 c.args.v.now) (length c.loop-piece.yielded) (item_list c.args.self.now c.args.v.now)
    c.loop-piece.invariant.rest c.in-Some.piece.now _ u c.in_err-x.ensures)

pub invariant_of-asked : goal.invariant_of-asked
invariant_of-asked c = record { within = read_within c.args.self.now c.args.v.now (length c.loop-piece.yielded) c.loop-piece.low _ _ c.loop-piece.invariant }

pub loop-piece-preserved : goal.loop-piece-preserved
loop-piece-preserved c =
    let t = YieldsList-turn (YieldsList-from_slice_split _ (λ b. eqb b 32) c.args.v.now (cc) (cc) (cc) (λ x b q k. search (rules, tests))) c.loop-piece.yielded _ c.loop-piece.yielded_by _ _ c.in-Some.piece c.in-Some.is c.next.ensures.steps in
    let u = rw (parts_are 32 c.args.v.now) at t in
    let within = read_within c.args.self.now c.args.v.now (length c.loop-piece.yielded) c.loop-piece.low _ _ c.loop-piece.invariant in
    let q : PartialSetting = record { named = c.loop-piece.asked.0; ones = c.loop-piece.asked.1.0; within = within } in
    rw (length_push c.loop-piece.yielded c.in-Some.piece)
    (read_next c.args.self.now c.args.v.now (length c.loop-piece.yielded) c.loop-piece.low _ _ c.loop-piece.invariant q refl refl
    c.in-Some.piece.now c.in_ok-x.x.latch c.in_ok-x.x.at c.with-asked.result u c.in_ok-x.ensures c.in_ok-x.x.few c.with-asked.ensures)

pub invariant_of-asked-2 : goal.invariant_of-asked-2
invariant_of-asked-2 c = record { within = read_within c.args.self.now c.args.v.now (length c.loop-piece.yielded) c.loop-piece.low _ _ c.loop-piece.invariant }

pub returns-clause-means : goal.returns-clause-means
returns-clause-means c =
    let t = YieldsList-end (YieldsList-from_slice_split _ (λ b. eqb b 32) c.args.v.now (cc) (cc) (cc) (λ x b q k. search (rules, tests))) c.loop-piece.yielded _ c.loop-piece.yielded_by _ _ c.in-None.is c.next.ensures.steps in
    read_all c.args.self.now c.args.v.now (length c.loop-piece.yielded) c.loop-piece.low _ _ c.loop-piece.invariant _ refl refl (omega (arith, ap length (parts_are 32 c.args.v.now), t.1))

pub returns-clause-below : goal.returns-clause-below
returns-clause-below c = read_below c.args.self.now c.args.v.now (length c.loop-piece.yielded) c.loop-piece.low _ _ c.loop-piece.invariant
