use Rattle.std.proofs.Common.{◌≡◌, length, sym, ap, ◌∙◌, arith}
use Rattle.format.proofs.Booking.{as_many}
use Rattle.booktext.proofs.Tables.{named_more}
use Rattle.booktext.proofs.names.Names.push.Goals as goal

pub invariant_of-self : goal.invariant_of-self
invariant_of-self c =
    let s = c.self.inside in
    let kept = c.self.invariant in
    let e : length c.args.self.now ≡ s.count = ap length (sym c.self.view_is) ∙ as_many s.count s.table (omega (arith, kept.0, kept.1.places)) in
    (omega (arith, c.requires), named_more s.count s.table c.args.name kept.1)
