use Rattle.std.proofs.Common.{◌≡◌, Some, None, arith}
use Rattle.std.proofs.lemmas.Result.{err_from_is_err_and}
use Rattle.std.proofs.lemmas.Slice.Eq.{strip_prefix_is}
use Rattle.std.proofs.lemmas.Bool.Decides.{Decides-eqb}
use Rattle.format.proofs.Comparing.{stripped_is}
use Rattle.format.proofs.Itemizing.{cut_shorter}
use Rattle.booktext.proofs.Readers.{value_got, value_refused}
use Rattle.booktext.proofs.lines.LineReader.value.Goals as goal

pub returns-in_err-v : goal.returns-in_err-v
returns-in_err-v c =
    let e : c.cut_at.result ≡ Some (c.in_ok-front.front, c.in_ok-front.rest) = grind arith in
    let n : c.strip_prefix.result ≡ None = grind arith in
    let k : c.in_err-v.field-0.0 ≡ c.at-refusal.result = grind arith in
    let cut = rw e at c.cut_at.ensures in
    let none = rw n at (stripped_is c.in_ok-front.front.now c.args.key.now _ (strip_prefix_is Decides-eqb c.in_ok-front.front.now c.args.key.now _ c.strip_prefix.ensures.cases)) in
    let p = err_from_is_err_and c.from_residual-in_err-v.result c.from_residual-in_err-v.ensures.1 in
    rw (p.1, p.2, k, c.at-refusal.ensures, ← c.self.view_is) (value_refused c.args.key.now (record { number = c.self.inside.line; rest = c.self.inside.rest.now }) c.in_ok-front.front.now c.in_ok-front.rest.now cut none)

pub invariant_of-self : goal.invariant_of-self
invariant_of-self c =
    let e : c.cut_at.result ≡ Some (c.in_ok-front.front, c.in_ok-front.rest) = grind arith in
    let cut = rw e at c.cut_at.ensures in
    omega (arith, c.self.invariant, cut_shorter 10 c.self.inside.rest.now c.in_ok-front.front.now c.in_ok-front.rest.now cut)

pub returns : goal.returns
returns c =
    let e : c.cut_at.result ≡ Some (c.in_ok-front.front, c.in_ok-front.rest) = grind arith in
    let n : c.strip_prefix.result ≡ Some c.in_ok-v.v = grind arith in
    let cut = rw e at c.cut_at.ensures in
    let some = rw n at (stripped_is c.in_ok-front.front.now c.args.key.now _ (strip_prefix_is Decides-eqb c.in_ok-front.front.now c.args.key.now _ c.strip_prefix.ensures.cases)) in
    rw (← c.self.view_is) (value_got c.args.key.now (record { number = c.self.inside.line; rest = c.self.inside.rest.now }) c.in_ok-front.front.now c.in_ok-front.rest.now c.in_ok-v.v.now cut some)
