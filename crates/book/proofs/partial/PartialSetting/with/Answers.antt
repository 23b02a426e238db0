use Rattle.std.proofs.Common.{eqb, ltb, arith}
use Rattle.std.proofs.lemmas.Bool.{eqb-true, lt-ltb}
use Rattle.words.specs.Sets.{has}
use Rattle.words.proofs.Members.{below_all}
use Rattle.book.proofs.OneMore.{one_more}
use Rattle.book.proofs.partial.PartialSetting.with.Goals as goal

pub returns : goal.returns
returns c = λ j.
    let p = c.args.self in
    let i = c.args.latch in
    rw (c.with.ensures j, c.put.ensures j)
    (one_more (eqb j i) (ltb i 32) (has p.named j) (has p.ones j) c.args.at
    (λ t n. lt-ltb i 32 (omega (arith, eqb-true j i t, below_all p.named.word 32 (omega arith) (omega arith) j n))))
