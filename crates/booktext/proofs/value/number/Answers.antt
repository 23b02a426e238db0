use Rattle.format.proofs.Numbering.{refuse_long}
use Rattle.booktext.proofs.value.number.Goals as goal

pub returns-then-v-gt3 : goal.returns-then-v-gt3
returns-then-v-gt3 c = refuse_long c.args.low c.args.high c.args.v.now c.if-v-gt3.true
